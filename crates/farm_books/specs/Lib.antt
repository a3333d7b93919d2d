pub mod Kept
pub mod BooksInside
