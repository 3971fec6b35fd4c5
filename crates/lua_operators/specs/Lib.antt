pub mod Faults
pub mod Doing
pub mod Events
pub mod Answers
