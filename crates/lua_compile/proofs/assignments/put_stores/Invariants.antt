use Rattle.std.proofs.Common.{map, drop}
use Rattle.lua_tree.specs.View.{expr_view, exprs_of}
use Rattle.lua_code.specs.Code.{stores}
use Rattle.lua_assembler.proofs.Remaining.{Remains}
use Rattle.lua_compile.proofs.assignments.put_stores.Given as goal

abbrev pub invariant-loop-target : goal.invariant-loop-target
invariant-loop-target l =
    Remains (stores (exprs_of (map expr_view l.targets)) l.above l.scope l.fn.at l.fn.from)
    (stores (exprs_of (map expr_view (drop l.target-index l.targets))) l.above l.scope l.at l.from) l.fn.w l.w
