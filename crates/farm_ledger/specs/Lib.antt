pub mod Rows
pub mod Booked
pub mod Waiting
pub mod RegisterInside
pub mod LedgerInside
