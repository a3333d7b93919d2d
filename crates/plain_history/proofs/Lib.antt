pub mod Holding
pub mod Items
pub mod Passes
