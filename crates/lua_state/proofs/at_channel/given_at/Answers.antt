use Rattle.std.proofs.Common.{sym, Ok}
use Rattle.lua_state.proofs.Repeating.{gives_same}
use Rattle.lua_state.proofs.at_channel.given_at.Goals as goal

pub returns-in-Demand : goal.returns-in-Demand
returns-in-Demand c = gives_same _ _ c.args.by c.args.depth c.args.channel.now c.demand.new.channel c.demand.result (sym c.in-Demand.is) (c.demand.ensures c.in-Demand.field-1)

pub returns-in-Await : goal.returns-in-Await
returns-in-Await c = gives_same _ _ c.args.by c.args.depth c.args.channel.now c.args.channel.now (Ok c.await_read.result) (sym c.in-Await.is) (c.await_read.ensures c.in-Await.field-0 c.in-Await.field-2)
