use Rattle.std.proofs.Common.{Option, subst}
use Rattle.lua_heap.specs.declared.value.Value.{Value}
use Rattle.crossing.proofs.Walk.{IsWalked, walk-step, walk-end, walk-smaller}
use Rattle.crossing.proofs.pairs.pairs_in.Goals as goal

pub loop-next-preserved : goal.loop-next-preserved
loop-next-preserved c =
    let walked = subst (λ (next : Option (Value × Value)). IsWalked c.args.table.now c.loop-next.pairs.items next) c.in-Some.is c.loop-next.invariant in
    walk-step c.args.table.now c.loop-next.pairs.items c.push.new.self.items c.in-Some.pair c.pair_behind-next-in-Some.result c.border.ensures.distinct walked c.pair_behind-next-in-Some.ensures
    c.in_ok-push.ensures.items

pub loop-next-smaller : goal.loop-next-smaller
loop-next-smaller c =
    let walked = subst (λ (next : Option (Value × Value)). IsWalked c.args.table.now c.loop-next.pairs.items next) c.in-Some.is c.loop-next.invariant in
    walk-smaller c.args.table.now c.loop-next.pairs.items c.push.new.self.items c.in-Some.pair walked c.in_ok-push.ensures.items

pub returns : goal.returns
returns c =
    walk-end c.args.table.now c.loop-next.pairs.items
    (subst (λ (next : Option (Value × Value)). IsWalked c.args.table.now c.loop-next.pairs.items next) c.in_default.is c.loop-next.invariant)
