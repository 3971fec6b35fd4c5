-- What a crate above may use of events: they stay the heap's while it grows.
pub use Rattle.lua_operators.proofs.Names.{AreEvents-later}
