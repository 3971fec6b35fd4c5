use Rattle.std.proofs.Common.{◌≡◌, ◌<◌, true, arith}
use Rattle.std.proofs.lemmas.Result.{on_ok_weaker}
use Rattle.lua_machine.proofs.InSlots.{kept_all}
use Rattle.lua_machine.proofs.engine.Engine.keep_extra.Goals as goal

pub returns : goal.returns
returns c =
    let all : c.args.varargs ≡ true = cc in
    let lt : c.args.params < c.args.count = omega (arith, c.if-params-count.false) in
    on_ok_weaker c.keep_behind-2.result
    (λ e. kept_all c.args.self.now c.keep_slots.new.self c.keep_behind-2.new.self c.args.varargs c.args.first c.args.count c.args.params c.args.behind all lt c.requires.slots c.in_ok-keep_slots.ensures e) c.keep_behind-2.ensures
