pub mod Asked
pub mod Growing
pub mod Priors
pub mod SameSettings
