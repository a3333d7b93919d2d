pub mod Crossing
pub mod Rows
pub mod Prefixes
pub mod Values
