pub mod Names
pub mod Reading
pub mod Ordered
pub mod Handled
pub mod Callers
pub mod Joined
