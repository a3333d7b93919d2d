pub mod Cutting
pub mod FarmFaults
pub mod FarmInside
pub mod FarmView
pub mod Outcome
pub mod Opens
