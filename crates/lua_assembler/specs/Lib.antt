pub mod Seats
pub mod Drafts
pub mod Writing
pub mod Places
pub mod Jumps
