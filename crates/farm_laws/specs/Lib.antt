pub mod Days
pub mod Laws
pub mod Loads
pub mod Openings
pub mod Steps
