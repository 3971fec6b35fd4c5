use Rattle.std.proofs.Common.{◌+◌, ◌-◌, ◌<◌, length, arith}
use Rattle.lua_machine.proofs.Printed.{keeps_seen, keeps_last}
use Rattle.lua_machine.proofs.engine.Engine.keep_text.Goals as goal

pub returns-then-count-kept : goal.returns-then-count-kept
returns-then-count-kept c =
    let inside = c.if-count-kept.true in
    let long = c.len.ensures in
    keeps_seen _ c.args.self.now c.self.view_is c.self.invariant c.args.count c.args.text (omega (arith, inside, long))
