pub mod CommitId
pub mod IdDigits
pub mod Limits
pub mod Moment
pub mod Name
