-- What a machine of the definitions holds and the engine doesn't.
use Rattle.std.specs.Prelude.{[]}
use Rattle.lua_code.specs.Growing.{Past as what_was_done}
pub use Rattle.lua_code.specs.Growing.{Past}

abbrev pub no_past : what_was_done
no_past = record { asks = []; output = []; ends = [] }
