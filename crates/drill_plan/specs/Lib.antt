pub mod Digits
pub mod Plan
pub mod Start
