pub mod Lookups
pub mod Bookings
pub mod Entries
pub mod Slots
pub mod Outs
