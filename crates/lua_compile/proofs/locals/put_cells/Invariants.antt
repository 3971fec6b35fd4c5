use Rattle.lua_compile.proofs.Scoping.{TakesSoFar}
use Rattle.lua_compile.proofs.locals.put_cells.Given as goal

abbrev pub invariant-locals : goal.invariant-locals
invariant-locals l = TakesSoFar l.count l.left l.fn.scope l.scope l.fn.w l.w

abbrev pub decreases-locals : goal.decreases-locals
decreases-locals l = l.left
