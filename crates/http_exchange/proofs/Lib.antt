pub mod Takes
pub mod Held
pub mod Outcomes
pub mod Sendings
pub mod Heads
pub mod Says
