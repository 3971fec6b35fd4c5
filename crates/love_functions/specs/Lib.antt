pub mod Asking
pub mod Replying
pub mod View
pub mod Serves
