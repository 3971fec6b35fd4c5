pub mod Order
pub mod Scopes
pub mod Handlers
pub mod Errors
pub mod Ticks
pub mod Library
pub mod Channels
pub mod Games
