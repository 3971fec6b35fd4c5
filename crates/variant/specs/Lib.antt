pub mod End
pub mod Fits
pub mod Histories
pub mod Log
pub mod LogParts
