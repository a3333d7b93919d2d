mod Keeping
mod Places
mod Counting
mod Looked
mod Searches
mod Paged
mod Replied
mod Active
mod Begun
pub mod Crossing
