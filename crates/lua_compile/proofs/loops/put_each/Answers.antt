use Rattle.std.proofs.Common.{arith}
use Rattle.std.proofs.lemmas.Result.{on_ok_weaker}
use Rattle.lua_code.specs.View.{site_view}
use Rattle.lua_compile.proofs.Looping.{each_put}
use Rattle.lua_compile.proofs.loops.put_each.Goals as goal

pub returns : goal.returns
returns c =
    on_ok_weaker c.load_slot-3.result (λ a. each_put (site_view c.args.site) c.args.at c.args.names c.in_ok-state.state c.in_ok-variable.variable c.in_ok-call.call c.in_ok-first.first c.in_ok-next.field-0 c.max.result
    c.args.w.now c.spread.new.w c.invoke_all.new.w c.load_slot.new.w c.load_slot-2.new.w c.load_slot-3.new.w
    c.in_ok-state.ensures c.in_ok-variable.ensures c.in_ok-call.ensures c.in_ok-first.ensures c.in_ok-next.ensures (omega (arith, c.max.ensures))
    c.in_ok-spread.ensures c.in_ok-invoke_all.ensures c.in_ok-load_slot.ensures c.in_ok-load_slot-2.ensures a) c.load_slot-3.ensures
