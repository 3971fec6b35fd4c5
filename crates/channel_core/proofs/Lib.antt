pub mod Answering
pub mod Histories
pub mod Indexes
pub mod InOrder
pub mod Lawfulness
