pub mod Legal
pub mod Repeats
pub mod SameContents
pub mod Bits
pub mod Marked
