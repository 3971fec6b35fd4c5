-- What `select` gives where it isn't asked for a count.
use Rattle.std.specs.Prelude.{List}
use Rattle.lua_meaning.specs.Value.{Value}
use Rattle.lua_meaning.specs.Arguments.{Lib, number_argument, ◌>>=◌}
use Rattle.lua_meaning.specs.Basic.{selected}

-- some values from the n-th on, where n is the first argument
abbrev pub selected_by : (args values : List Value) → Lib (List Value)
selected_by args values = number_argument 0 args >>= λ n. selected n values
