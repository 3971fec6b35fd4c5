use Rattle.std.proofs.Common.{◌≡◌, ◌+◌, map, drop}
use Rattle.lua_tree.specs.View.{expr_view, exprs_of}
use Rattle.lua_code.specs.Code.{widths}
use Rattle.lua_compile.proofs.assignments.parts_end.Given as goal

abbrev pub invariant-loop-target : goal.invariant-loop-target
invariant-loop-target l = l.end + widths (exprs_of (map expr_view (drop l.target-index l.targets))) ≡ l.at + widths (exprs_of (map expr_view l.targets))
