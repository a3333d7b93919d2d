pub mod Growing
pub mod Keeping
pub mod Numbers
pub mod Pieces
