pub mod Gaps
pub mod KeyHash
pub mod Places
pub mod Table
