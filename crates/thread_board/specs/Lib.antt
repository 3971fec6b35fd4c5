pub mod Answers
pub mod Calls
pub mod Lawful
pub mod Register
pub mod Sound
pub mod View
