pub mod Digits
pub mod Places
pub mod Ranges
pub mod Views
