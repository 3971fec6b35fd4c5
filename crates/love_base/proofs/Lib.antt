pub mod Content
pub mod Distinct
mod Parts
pub mod Prefixes
mod Readings
