pub mod Parts
pub mod Views
pub mod UpvalueSteps
pub mod Callers
pub mod Refusals
