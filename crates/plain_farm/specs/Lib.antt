pub mod Begun
pub mod Believed
pub mod Rows
pub mod Stops
