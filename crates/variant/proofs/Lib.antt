pub mod Histories
mod Logging
