pub mod FirstLines
pub mod Rows
pub mod Tables
pub mod Chains
pub mod Asked
