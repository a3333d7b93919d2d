pub mod Told
pub mod Verdict
pub mod Line
pub mod Reads
pub mod Added
pub mod Held
pub mod Audited
