pub mod Positions
pub mod TextsLemmas
pub mod NativeLemmas
pub mod ValueLemmas
pub mod HeapLemmas
pub mod IndexLemmas
pub mod NextLemmas
pub mod Callers
