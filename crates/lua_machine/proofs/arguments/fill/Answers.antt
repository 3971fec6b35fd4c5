use Rattle.std.proofs.Common.{◌+◌, ◌<◌, sym, ◌∙◌, arith}
use Rattle.lua_machine.proofs.Taking.{length_set}
use Rattle.lua_machine.proofs.InSlots.{filled_next}
use Rattle.lua_machine.proofs.arguments.fill.Goals as goal

pub loop-n-preserved : goal.loop-n-preserved
loop-n-preserved c =
    let now = c.loop-n.values.items in
    let n = c.loop-n.n in
    let lt : n < c.args.count = omega (arith, c.loop-n-test.true) in (
      sym (filled_next now c.args.at n c.args.count c.args.more.now c.item.result lt c.item.ensures) ∙ c.loop-n.invariant.0,
      length_set now (c.args.at + n) c.item.result ∙ c.loop-n.invariant.1,
    )
