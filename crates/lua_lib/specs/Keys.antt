-- Keys that a walk of a table finds.
use Rattle.std.specs.Prelude.{Option, None, Result, Ok, Err}
use Rattle.std.specs.Option.{option_map}
use Rattle.lua_table.specs.declared.table.NoSuchKey.{NoSuchKey}

-- the key of a pair that was found, none where the key before it was never set
abbrev pub key_found : {K V : Type 0} → Result (Option (K × V)) NoSuchKey → Option K
key_found (Ok pair) = option_map (λ found. found.0) pair
key_found (Err refused) = None
