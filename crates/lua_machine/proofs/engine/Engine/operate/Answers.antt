use Rattle.std.proofs.Common.{sym, subst}
use Rattle.lua_machine.specs.declared.status.Status.TheVariants.{Goes}
use Rattle.lua_machine.specs.Settled.{Operates}
use Rattle.lua_machine.proofs.Settling.{operates_numbers}
use Rattle.lua_machine.proofs.engine.Engine.operate.Goals as goal

pub put-requires-clause-made : goal.put-requires-clause-made
put-requires-clause-made c = c.in-Some.ensures.made c.args.self.now.heap

pub returns-in-Some : goal.returns-in-Some
returns-in-Some c =
    let m = c.args.self.now in
    subst (Operates c.args.op c.args.to c.args.left c.args.right Goes m) (sym c.put.ensures)
    (operates_numbers c.args.op m c.args.to c.args.left c.args.right c.in-Some.value c.in-Num.x c.in-Num-right.y c.in-Num.is c.in-Num-right.is c.in-Some.ensures c.requires.ready c.requires.leads c.requires.slot)
