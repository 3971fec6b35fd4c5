use Rattle.std.proofs.Common.{◌≡◌, Option, Some, IfOk, sym, subst}
use Rattle.variant.specs.declared.reply.Reply.{Reply}
use Rattle.lua_code.specs.Growing.{Past}
use Rattle.lua_code.specs.Held.{program_view}
use Rattle.lua_machine.specs.declared.standing.Standing.{Standing}
use Rattle.lua_machine.specs.declared.standing.Standing.TheVariants.{Waits}
use Rattle.lua_machine.specs.Does.{step_as}
use Rattle.lua_machine.specs.Session.{resumed, told_past}
use Rattle.lua_machine.proofs.Sessions.{attends_on}
use Rattle.lua_machine.proofs.session.Session.resume.Goals as goal

pub returns-in-Waits-clause-step : goal.returns-in-Waits-clause-step
returns-in-Waits-clause-step c =
    let old = c.args.self.now in
    let program = program_view old.program.now old.state in
    subst (λ (s : Standing). IfOk c.attend.result (λ from. (past : Past) → resumed program s c.args.reply old.engine past ≡ step_as from (told_past s past) c.attend.new.self)) (sym c.in-Waits.is)
    (subst (λ (r : Option Reply). IfOk c.attend.result (λ from. (past : Past) → resumed program (Waits c.in-Waits.field-0 c.in-Waits.errand) r old.engine past ≡ step_as from (told_past (Waits c.in-Waits.field-0 c.in-Waits.errand) past) c.attend.new.self)) (sym c.in-Some.is)
    (attends_on program c.in-Waits.field-0 c.in-Waits.errand c.in-Some.reply old.engine c.attend.new.self c.attend.result c.attend.ensures))
