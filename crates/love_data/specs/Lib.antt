pub mod Encoding
pub mod Hash
pub mod Value
