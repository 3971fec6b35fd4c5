-- What a crate above may use of how statements are seen.
pub use Rattle.lua_upvalues.proofs.Views.{stat_kind_view, generic_seen, function_seen, if_seen, numeric_seen, repeat_seen}
