pub mod Answers
pub mod Calendar
mod CommaTexts
pub mod Faults
pub mod JsonObjects
pub mod MadeValues
pub mod Objects
pub mod Quoted
pub mod Written
mod WrittenItems
pub mod WrittenOrders
mod WrittenRuns
mod WrittenSearches
