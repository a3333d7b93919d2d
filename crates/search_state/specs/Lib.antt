pub mod SearchView
pub mod SearchInside
pub mod Begun
pub mod Seen
