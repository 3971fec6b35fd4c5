use Rattle.std.proofs.Common.{Option, subst}
use Rattle.lua_heap.specs.declared.value.Value.{Value}
use Rattle.lua_lib.proofs.Walked.{IsWalked, walk-start, walk-step, walk-smaller, walk-end}
use Rattle.lua_lib.proofs.call.keys.greatest_key.Goals as goal

pub loop-next-init : goal.loop-next-init
loop-next-init c = walk-start c.args.table.now c.zero-greatest.result c.key_behind-next.result c.zero-greatest.ensures c.key_behind-next.ensures

pub loop-next-preserved : goal.loop-next-preserved
loop-next-preserved c =
    let walked = subst (λ (next : Option Value). IsWalked c.args.table.now c.loop-next.greatest next) c.in-Some.is c.loop-next.invariant in
    walk-step c.args.table.now c.loop-next.greatest c.in-Some.key c.border-border.ensures.distinct walked c.greater_key-greatest.result c.key_behind-next-in-Some.result
    c.key_behind-next-in-Some.ensures c.greater_key-greatest.ensures

pub loop-next-smaller : goal.loop-next-smaller
loop-next-smaller c =
    let walked = subst (λ (next : Option Value). IsWalked c.args.table.now c.loop-next.greatest next) c.in-Some.is c.loop-next.invariant in
    rw c.in-Some.is (walk-smaller c.args.table.now c.loop-next.greatest c.in-Some.key c.border-border.ensures.distinct walked c.greater_key-greatest.result c.key_behind-next-in-Some.result
    c.key_behind-next-in-Some.ensures)

pub returns : goal.returns
returns c =
    walk-end c.args.table.now c.loop-next.greatest
    (subst (λ (next : Option Value). IsWalked c.args.table.now c.loop-next.greatest next) c.in_default.is c.loop-next.invariant)
