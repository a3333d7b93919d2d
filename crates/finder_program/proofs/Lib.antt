pub mod Saying
pub mod Serving
