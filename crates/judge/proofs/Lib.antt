pub mod Answering
pub mod Endings
pub mod Numbers
pub mod Oks
pub mod Pieces
pub mod RoundTrips
pub mod SearchForms
