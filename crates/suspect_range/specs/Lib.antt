pub mod Faults
pub mod Range
pub mod SameRange
pub mod Marks
