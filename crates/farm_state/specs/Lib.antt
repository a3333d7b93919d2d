pub mod StateInside
pub mod Telling
pub mod Moves
pub mod Turns
pub mod TurnsInside
pub mod Walking
pub mod TurnOrder
pub mod WhoseTurn
