pub mod Written
pub mod Evidence
pub mod Kept
