pub mod Core
pub mod Steps
pub mod Origins
pub mod Leases
pub mod Reports
pub mod Lists
pub mod Runs
