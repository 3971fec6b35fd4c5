use Rattle.std.proofs.Common.{refl}
use Rattle.lua_machine.proofs.Saying.{starts_in}
use Rattle.lua_machine.proofs.machine.Machine.start.Goals as goal

pub invariant_of-result : goal.invariant_of-result
invariant_of-result c = (c.is_sound.ensures c.args.state, c.in_ok-engine.ensures.ready)

pub returns-clause-begins : goal.returns-clause-begins
returns-clause-begins c = starts_in c.args.program.now c.args.code.now c.args.args.now c.args.steps c.args.state c.in_ok-engine.engine _ c.in_ok-engine.ensures.begins refl (λ past. refl) c.new.ensures.items
