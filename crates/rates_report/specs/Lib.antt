pub mod RateLines
pub mod Rates
pub mod Object
pub mod Tally
pub mod Noted
pub mod Listed
pub mod BookInside
