pub mod Bar
pub mod Divisor
pub mod Limits
pub mod Miss
pub mod Rate
pub mod Tests
