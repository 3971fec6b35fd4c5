-- What a crate above may use of code that is being made.
pub use Rattle.lua_code.proofs.Viewing.{constant_before, constant_last, constant_added, inners_added, inners_last, instr_added, instr_replaced}
