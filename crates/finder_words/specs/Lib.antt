pub mod Named
pub mod Words
pub mod CommandLine
pub mod Forms
