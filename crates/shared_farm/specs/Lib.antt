pub mod Answered
pub mod Errands
pub mod Logs
pub mod Outcomes
pub mod Posted
pub mod Rests
pub mod Rounds
pub mod Turns
