pub mod Digits
pub mod Loading
pub mod MainFile
pub mod OneFile
pub mod Outcomes
pub mod Steps
pub mod Writing
