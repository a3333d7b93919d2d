pub mod Replies
pub mod Steps
pub mod Told
pub mod Work
pub mod Agent
pub mod Answers
pub mod Requests
pub mod Object
