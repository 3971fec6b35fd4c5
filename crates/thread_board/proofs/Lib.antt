pub mod Registering
pub mod Soundness
