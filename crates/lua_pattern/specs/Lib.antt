pub mod Class
pub mod Element
pub mod Found
pub mod Gsub
pub mod Reading
pub mod Tree
pub mod Walk
pub mod Ways
