use Rattle.std.proofs.Common.{◌≡◌, vec_len}
use Rattle.lua_compile.specs.Locals.{on_top}
use Rattle.lua_compile.proofs.locals.enter.Given as goal

abbrev pub invariant-locals : goal.invariant-locals
invariant-locals l = on_top l.locals.items l.scope ≡ on_top l.initial.locals.items l.fn.scope

abbrev pub decreases-locals : goal.decreases-locals
decreases-locals l = vec_len l.locals
