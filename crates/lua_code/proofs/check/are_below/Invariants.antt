use Rattle.std.proofs.Common.{ℕ, ◌<◌, get_or}
use Rattle.lua_code.proofs.check.are_below.Given as goal

abbrev pub invariant-loop-capture : goal.invariant-loop-capture
invariant-loop-capture l = (k : ℕ) → k < l.capture-index → get_or l.captures k 0 < l.cells
