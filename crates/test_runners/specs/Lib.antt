pub mod Lines
pub mod Rows
pub mod Tables
pub mod Index
pub mod Named
pub mod Host
pub mod Runners
