use Rattle.lua_machine.specs.declared.errand.Errand.TheVariants.{Answers}
use Rattle.love_functions.specs.declared.errand.Errand.TheVariants.{GivesValues, Awaits}
use Rattle.lua_machine.specs.Asking.{Attends}
use Rattle.lua_machine.proofs.Called.{each_came}
use Rattle.lua_machine.proofs.Attended.{awaits_other}
use Rattle.lua_machine.proofs.engine.Engine.await_receipt.Goals as goal

pub returns-in_default : goal.returns-in_default
returns-in_default c =
    let m = c.args.self.now in
    let new = c.give_reply.new.self in
    each_came c.give_reply.result (λ status. Attends (Answers GivesValues) c.args.reply.now status m new) (λ status. Attends (Answers (Awaits c.args.channel c.args.limit)) c.args.reply.now status m new)
    (λ status a. awaits_other c.args.reply.now status m new c.args.channel c.args.limit c.in_default.not-Id a) c.give_reply.ensures
