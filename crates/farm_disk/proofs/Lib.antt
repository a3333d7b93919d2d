pub mod CertainBytes
pub mod Kept
pub mod MarkSteps
pub mod Model
pub mod Moments
pub mod Outcome
pub mod Sound
