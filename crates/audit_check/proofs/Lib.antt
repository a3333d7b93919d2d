pub mod Suspects
pub mod Adding
pub mod Records
pub mod Unique
pub mod Spelled
