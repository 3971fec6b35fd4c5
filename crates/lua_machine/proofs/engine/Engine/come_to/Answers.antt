use Rattle.lua_machine.proofs.Asked.{comes_refused}
use Rattle.lua_machine.proofs.engine.Engine.come_to.Goals as goal

pub returns-in_ok-value-in-Refuses : goal.returns-in_ok-value-in-Refuses
returns-in_ok-value-in-Refuses c = comes_refused c.args.called c.in-Refuses.text c.as_slice.result.now c.in_ok-value-in-Refuses.value c.args.self.now c.refusal.new.self c.in-Refuses.is c.as_slice.ensures.value c.in_ok-value-in-Refuses.ensures
