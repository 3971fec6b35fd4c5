use Rattle.std.proofs.Common.{◌≡◌, ℕ, List, Option, Some, None, Result, Ok, sym, ap₂, ◌∙◌, subst}
use Rattle.lua_code.specs.Held.{program_view}
use Rattle.lua_code.specs.Natives.{Program}
use Rattle.lua_machine.specs.declared.status.Pause.{Pause}
use Rattle.lua_machine.specs.Does.{step_as}
use Rattle.lua_machine.specs.Session.{Stops, Pauses, HasPrinted, HasTurned}
use Rattle.lua_machine.proofs.Sessions.{run_err, comes_next, comes_to_pause, comes_to_stop, stops_there}
use Rattle.lua_machine.proofs.session.Session.run.Goals as goal

pub returns-in_err-pause-clause-ran : goal.returns-in_err-pause-clause-ran
returns-in_err-pause-clause-ran c =
    let old = c.args.self.now in
    let mid = c.loop.self in
    let new = c.turn.new.self in
    let program = program_view old.program.now old.state in
    let same : program_view mid.program.now mid.state ≡ program = ap₂ program_view c.loop.invariant.1 c.loop.invariant.2 in
    run_err program (λ past. step_as c.args.from past old.engine) c.from_residual.result _ old.output.items new.engine new.output.items c.from_residual.ensures.1
    (comes_to_stop program (λ past. step_as c.args.from past old.engine) old.output.items c.loop.from mid.engine new.engine mid.output.items new.output.items c.loop.invariant.0
    (subst (λ (p : Program). Stops p (λ past. step_as c.loop.from past mid.engine) mid.output.items new.output.items) same c.in_err-pause.ensures.turned))

pub returns-in-Some-clause-ran : goal.returns-in-Some-clause-ran
returns-in-Some-clause-ran c =
    let old = c.args.self.now in
    let mid = c.loop.self in
    let new = c.turn.new.self in
    let program = program_view old.program.now old.state in
    let same : program_view mid.program.now mid.state ≡ program = ap₂ program_view c.loop.invariant.1 c.loop.invariant.2 in
    comes_to_pause program (λ past. step_as c.args.from past old.engine) old.output.items c.loop.from mid.engine new.engine mid.output.items new.output.items c.loop.invariant.0 c.in-Some.pause
    (subst (λ (p : Program). Pauses p (λ past. step_as c.loop.from past mid.engine) mid.output.items c.in-Some.pause new.engine new.output.items) same
    (subst (λ (o : Option Pause). HasTurned (program_view mid.program.now mid.state) c.loop.from (Ok o) mid.engine mid.output.items new.engine new.output.items) c.in-Some.is c.in_ok-pause.ensures.turned))

pub loop-preserved : goal.loop-preserved
loop-preserved c =
    let old = c.args.self.now in
    let mid = c.loop.self in
    let new = c.turn.new.self in
    let program = program_view old.program.now old.state in
    let same : program_view mid.program.now mid.state ≡ program = ap₂ program_view c.loop.invariant.1 c.loop.invariant.2 in (
      comes_next program (λ past. step_as c.args.from past old.engine) old.output.items c.loop.from mid.engine new.engine mid.output.items new.output.items c.loop.invariant.0
          (subst (λ (p : Program). HasPrinted p (λ past. step_as c.loop.from past mid.engine) mid.output.items new.engine new.output.items) same
          (subst (λ (o : Option Pause). HasTurned (program_view mid.program.now mid.state) c.loop.from (Ok o) mid.engine mid.output.items new.engine new.output.items) c.in_default.is c.in_ok-pause.ensures.turned)),
      c.turn.ensures.program ∙ c.loop.invariant.1,
      c.turn.ensures.state ∙ c.loop.invariant.2,
    )

pub returns-clause-ran : goal.returns-clause-ran
returns-clause-ran c =
    let old = c.args.self.now in
    stops_there (program_view old.program.now old.state) (λ past. step_as c.args.from past old.engine) old.output.items c.loop.from c.loop.self.engine c.loop.self.output.items c.loop.invariant.0
