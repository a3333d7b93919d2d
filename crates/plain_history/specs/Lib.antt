pub mod Held
pub mod Tests
