pub mod Answers
pub mod Calls
pub mod History
pub mod Index
pub mod Lawful
pub mod Taking
