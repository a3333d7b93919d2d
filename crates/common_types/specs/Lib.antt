pub mod Counts
pub mod Contents
pub mod Moments
pub mod Rows
pub mod Prefix
pub mod Decimals
