pub mod Numbers
pub mod Keeps
pub mod Stills
pub mod JobRows
pub mod Hands
pub mod Stages
pub mod KeepsJobs
