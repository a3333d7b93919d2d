pub mod Spelling
pub mod Values
pub mod Reading
pub mod Grammar
pub mod Gives
pub mod LogPage
