pub mod Drafts
pub mod Writing
pub mod Adding
pub mod Remaining
pub mod Jumping
pub mod KnownSteps
pub mod ListSteps
