pub mod Choices
pub mod Looks
pub mod Numbers
pub mod Places
pub mod Ranges
pub mod Shapes
pub mod Texts
