pub mod Lawful
pub mod Calling
pub mod Evaluating
pub mod Functions
pub mod Runs
pub mod of_rows
pub mod Views
