pub mod Fronts
pub mod Lines
pub mod Names
pub mod Parts
pub mod Searches
pub mod Sets
pub mod Books
pub mod Tallies
