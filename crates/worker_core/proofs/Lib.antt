pub mod Origins
pub mod Leases
pub mod Reports
