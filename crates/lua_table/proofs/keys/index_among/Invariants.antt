use Rattle.std.proofs.Common.{◌≡◌, ℕ, ◌<◌, false, slice_get, IfSome}
use Rattle.lua_table.proofs.keys.index_among.Given as goal

abbrev pub invariant-loop-index : goal.invariant-loop-index
invariant-loop-index g l = (k : ℕ) → k < l.index → IfSome (slice_get l.keys k) (λ other. g.K.PartialEq.eq l.key other ≡ false)
