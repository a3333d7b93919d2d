pub mod FirstIndex
pub mod IdDigits
pub mod IdTexts
pub mod Limits
pub mod NameTexts
pub mod SameValues
