use Rattle.lua_machine.proofs.Printed.{takes_none, no_text}
use Rattle.lua_machine.proofs.engine.Engine.take_text.Goals as goal

pub returns-in_ok-error-in_default : goal.returns-in_ok-error-in_default
returns-in_ok-error-in_default c =
    let m = c.args.self.now in
    takes_none m c.refusal.new.self c.args.count c.first_arg-value.result c.in_ok-error-in_default.error c.first_arg-value.ensures.value
    (no_text m.heap.texts c.first_arg-value.result c.in_default.not-Num c.in_default.not-Str) c.in_ok-error-in_default.ensures
