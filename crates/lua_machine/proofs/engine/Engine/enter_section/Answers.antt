use Rattle.lua_machine.specs.declared.errand.Errand.TheVariants.{Answers}
use Rattle.love_functions.specs.declared.errand.Errand.TheVariants.{GivesValues, Enters}
use Rattle.lua_machine.specs.Asking.{Attends}
use Rattle.lua_machine.proofs.Called.{each_came}
use Rattle.lua_machine.proofs.Attended.{enters_refused, enters_other}
use Rattle.lua_machine.proofs.engine.Engine.enter_section.Goals as goal

pub returns-in-Refused : goal.returns-in-Refused
returns-in-Refused c =
    let m = c.args.self.now in
    let new = c.give_reply.new.self in
    each_came c.give_reply.result (λ status. Attends (Answers GivesValues) c.args.reply.now status m new) (λ status. Attends (Answers (Enters c.args.channel c.args.function c.args.args)) c.args.reply.now status m new)
    (λ status a. enters_refused c.args.reply.now c.in-Refused.field-0 status m new c.args.channel c.args.function c.args.args c.in-Refused.is a) c.give_reply.ensures

pub returns-in_ok-insert-in_default : goal.returns-in_ok-insert-in_default
returns-in_ok-insert-in_default c =
    let m = c.args.self.now in
    let new = c.call_back.new.self in
    each_came c.call_back.result _ (λ status. Attends (Answers (Enters c.args.channel c.args.function c.args.args)) c.args.reply.now status m new)
    (λ status calls. enters_other _ m c.self.view_is c.args.reply.now status new c.args.channel c.args.function c.args.args c.insert.new.self.items c.in_default.not-Refused c.in_ok-insert-in_default.ensures.items calls) c.call_back.ensures
