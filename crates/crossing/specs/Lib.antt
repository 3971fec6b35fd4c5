pub mod Fault
pub mod Pairs
pub mod Unpacked
pub mod Laws
