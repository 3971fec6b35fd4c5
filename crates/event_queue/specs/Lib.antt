pub mod Routes
pub mod Views
pub mod Rule
pub mod Ready
pub mod Passes
pub mod Closing
pub mod Calls
