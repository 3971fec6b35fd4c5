use Rattle.std.proofs.Common.{◌≡◌, length}
use Rattle.lua_meaning.specs.Store.{Store}
use Rattle.lua_meaning.specs.Math.{least, less}
use Rattle.lua_lib.specs.Causes.{values_of}
use Rattle.lua_lib.proofs.Outstanding.{rest_of}
use Rattle.lua_lib.proofs.call.math.min.Given as goal

-- what all arguments come to is what those from here on come to behind the number so far
abbrev pub invariant-loop-n : goal.invariant-loop-n
invariant-loop-n l =
    (s : Store) → least (values_of l.heap l.args) s ≡ rest_of less (values_of l.heap l.args) l.least l.n (length l.args) s
