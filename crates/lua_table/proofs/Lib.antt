pub mod BorderLemmas
pub mod GapLemmas
pub mod KeysLemmas
pub mod PlacesLemmas
pub mod ReachLemmas
