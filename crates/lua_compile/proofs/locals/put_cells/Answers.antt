use Rattle.std.proofs.Common.{◌≡◌, ◌-◌, suc, subst, arith}
use Rattle.lua_compile.proofs.Scoping.{TakesSoFar, takes_begin, takes_one}
use Rattle.lua_compile.proofs.locals.put_cells.Goals as goal

pub locals-init : goal.locals-init
locals-init c = takes_begin c.args.count c.args.scope.now c.args.w.now

pub locals-preserved : goal.locals-preserved
locals-preserved c =
    let more : c.locals.left ≡ suc (c.locals.left - 1) = omega arith in
    takes_one c.args.count (c.locals.left - 1) c.args.scope.now c.locals.scope c.put_cell.new.scope c.args.w.now c.locals.w c.put_cell.new.w
    (subst (λ n. TakesSoFar c.args.count n c.args.scope.now c.locals.scope c.args.w.now c.locals.w) more c.locals.invariant)
    c.in_ok-put_cell.ensures
