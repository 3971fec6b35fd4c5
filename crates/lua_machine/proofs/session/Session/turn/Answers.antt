use Rattle.std.proofs.Common.{◌≡◌, ℕ, ◌++◌, refl, List, sym, ap, ◌∙◌, subst}
use Rattle.lua_code.specs.Held.{program_view}
use Rattle.lua_machine.specs.declared.status.Pause.{Pause}
use Rattle.lua_machine.specs.Does.{step_as}
use Rattle.lua_machine.specs.Runs.{Runs}
use Rattle.lua_machine.specs.Session.{Stops}
use Rattle.lua_machine.proofs.Sessions.{stops_here, pauses_here, prints_here, turned_err}
use Rattle.lua_machine.proofs.session.Session.turn.Goals as goal

pub returns-in_err-pause-clause-turned : goal.returns-in_err-pause-clause-turned
returns-in_err-pause-clause-turned c =
    let old = c.args.self.now in
    let program = program_view old.program.now old.state in
    turned_err program c.args.from c.from_residual.result _ old.engine c.run.new.self old.output.items old.output.items c.from_residual.ensures.1
    (stops_here program c.args.from old.engine c.run.new.self old.output.items)

pub returns-in_err-extend_from_slice-in-Prints-clause-turned :
    goal.returns-in_err-extend_from_slice-in-Prints-clause-turned
returns-in_err-extend_from_slice-in-Prints-clause-turned c =
    let old = c.args.self.now in
    let program = program_view old.program.now old.state in
    turned_err program c.args.from c.from_residual-in_err-extend_from_slice-in-Prints.result _ old.engine c.run.new.self old.output.items c.extend_from_slice.new.self.items c.from_residual-in_err-extend_from_slice-in-Prints.ensures.1
    (subst (λ (o : List ℕ). Stops program (λ past. step_as c.args.from past old.engine) old.output.items o) (sym c.in_err-extend_from_slice-in-Prints.ensures.items)
    (stops_here program c.args.from old.engine c.run.new.self old.output.items))

pub returns-in_ok-extend_from_slice-in-Prints-clause-turned :
    goal.returns-in_ok-extend_from_slice-in-Prints-clause-turned
returns-in_ok-extend_from_slice-in-Prints-clause-turned c =
    let old = c.args.self.now in
    let program = program_view old.program.now old.state in
    prints_here program c.args.from old.engine c.run.new.self old.output.items c.in-Prints.line c.extend_from_slice.new.self.items
    (subst (λ (pause : Pause). Runs program c.args.from pause old.engine c.run.new.self) c.in-Prints.is c.in_ok-pause.ensures)
    (c.in_ok-extend_from_slice-in-Prints.ensures.items ∙ ap (λ (o : List ℕ). old.output.items ++ o) c.as_slice.ensures.value)

pub returns-in_default : goal.returns-in_default
returns-in_default c =
    record {
      turned = pauses_here (program_view c.args.self.now.program.now c.args.self.now.state) c.args.from c.args.self.now.engine c.run.new.self c.args.self.now.output.items c.in_ok-pause.pause c.in_ok-pause.ensures;
      program = refl;
      state = refl;
    }
