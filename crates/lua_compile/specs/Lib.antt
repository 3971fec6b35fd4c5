pub mod Lists
pub mod Functions
pub mod Fields
pub mod Locals
pub mod Arms
pub mod Loops
pub mod Fault
