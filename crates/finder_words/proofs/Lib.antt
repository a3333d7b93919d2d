pub mod Fitting
pub mod Foundings
pub mod Ranges
pub mod Cases
pub mod Commands
pub mod Named
pub mod Parsing
pub mod Plain
