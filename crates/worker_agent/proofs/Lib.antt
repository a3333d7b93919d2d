pub mod Holding
pub mod Following
pub mod Measure
pub mod Suiting
pub mod Saying
