pub mod Command
pub mod Ending
pub mod Game
pub mod Outcome
pub mod Rendering
