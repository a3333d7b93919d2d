pub mod Carried
pub mod Endings
pub mod Ids
pub mod Remaining
pub mod RoundTrips
pub mod Texts
