pub mod Parts
pub mod Upvalues
