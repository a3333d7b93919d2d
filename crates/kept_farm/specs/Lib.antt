pub mod Beside
pub mod Changes
pub mod KeptInside
pub mod Lines
pub mod Places
pub mod Replying
pub mod Rows
pub mod Searches
