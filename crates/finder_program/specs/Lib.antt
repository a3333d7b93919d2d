pub mod ServeCommand
pub mod World
pub mod FinderSays
