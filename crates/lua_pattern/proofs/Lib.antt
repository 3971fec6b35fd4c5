pub mod SetLemmas
pub mod Fits
pub mod GsubLemmas
pub mod Once
pub mod ReadsLemmas
pub mod WaysLemmas
