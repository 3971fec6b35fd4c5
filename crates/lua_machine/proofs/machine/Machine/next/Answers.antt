use Rattle.std.proofs.Common.{◌≡◌, ℕ, List, refl, sym, ap, ap₂, ◌∙◌, subst}
use Rattle.love_base.specs.Prefix.{IsPrefix}
use Rattle.lua_code.specs.Held.{program_view}
use Rattle.lua_machine.specs.declared.standing.Standing.{Standing}
use Rattle.lua_machine.specs.declared.status.Pause.{Pause}
use Rattle.lua_machine.specs.declared.status.Pause.TheVariants.{Asks}
use Rattle.variant.specs.declared.ask.Ask.{Ask}
use Rattle.lua_machine.specs.Standing.{stand_of}
use Rattle.lua_machine.specs.Session.{Fails, Reaches}
use Rattle.lua_machine.specs.Machine.{MachineView, program_in}
use Rattle.lua_machine.proofs.Sessions.{fails_there}
use Rattle.lua_machine.proofs.Saying.{stop_says, pause_says, ask_says}
use Rattle.lua_machine.proofs.machine.Machine.next.Goals as goal

pub returns-in_default-clause-says : goal.returns-in_default-clause-says
returns-in_default-clause-says c =
    let after : List ℕ = c.go_on.new.self.output.items in
    stop_says c.args.reply c.args.self.now _ c.requires.expected
    (subst (λ (v : MachineView). Fails (program_in v) v.standing c.args.reply v.engine v.output after) c.self.view_is
    (subst (λ (s : Standing). Fails (program_view c.self.inside.session.program.now c.self.inside.session.state) s c.args.reply c.self.inside.session.engine c.self.inside.session.output.items after) c.replace-standing.ensures.value c.in_default.ensures.gone))

pub returns-in-Ok-wait-clause-says : goal.returns-in-Ok-wait-clause-says
returns-in-Ok-wait-clause-says c =
    let after : List ℕ = c.go_on.new.self.output.items in
    let new = c.go_on.new.self.engine in
    let now : MachineView = record {
      program = c.go_on.new.self.program.now;
      state = c.go_on.new.self.state;
      engine = new;
      standing = c.in-Ok-wait.field-0.standing;
      output = after;
    } in
    ask_says c.args.reply c.args.self.now now c.requires.expected c.in-Ok-wait.field-0.question c.in-Asks.question c.in-Asks.errand
    (subst (λ (q : Ask). Reaches (program_in c.args.self.now) c.args.self.now.standing c.args.reply c.args.self.now.engine c.args.self.now.output (Asks q c.in-Asks.errand) new after) (sym c.in-Ok-wait.ensures.question)
    (subst (λ (p : Pause). Reaches (program_in c.args.self.now) c.args.self.now.standing c.args.reply c.args.self.now.engine c.args.self.now.output p new after) c.in-Asks.is
    (subst (λ (v : MachineView). Reaches (program_in v) v.standing c.args.reply v.engine v.output c.in-Ok.pause new after) c.self.view_is
    (subst (λ (s : Standing). Reaches (program_view c.self.inside.session.program.now c.self.inside.session.state) s c.args.reply c.self.inside.session.engine c.self.inside.session.output.items c.in-Ok.pause new after) c.replace-standing.ensures.value c.in-Ok.ensures.gone))))
    (ap₂ program_view c.go_on.ensures.program c.go_on.ensures.state ∙ ap program_in c.self.view_is)
    c.in-Ok-wait.ensures.standing (sym c.in-Ok-wait.ensures.question)

pub returns-in-Err-clause-says : goal.returns-in-Err-clause-says
returns-in-Err-clause-says c =
    let after : List ℕ = c.go_on.new.self.output.items in
    let new = c.go_on.new.self.engine in
    stop_says c.args.reply c.args.self.now _ c.requires.expected
    (fails_there (program_in c.args.self.now) c.args.self.now.standing c.args.reply c.args.self.now.engine c.args.self.now.output c.in-Ok.pause new after
    (subst (λ (v : MachineView). Reaches (program_in v) v.standing c.args.reply v.engine v.output c.in-Ok.pause new after) c.self.view_is
    (subst (λ (s : Standing). Reaches (program_view c.self.inside.session.program.now c.self.inside.session.state) s c.args.reply c.self.inside.session.engine c.self.inside.session.output.items c.in-Ok.pause new after) c.replace-standing.ensures.value c.in-Ok.ensures.gone)))

pub returns-in-Err-clause-output : goal.returns-in-Err-clause-output
returns-in-Err-clause-output c =
    subst (λ (v : MachineView). IsPrefix v.output c.go_on.new.self.output.items) c.self.view_is c.in-Ok.ensures.gone.longer

pub returns-in_default-pause : goal.returns-in_default-pause
returns-in_default-pause c =
    let after : List ℕ = c.go_on.new.self.output.items in
    let new = c.go_on.new.self.engine in
    record {
      says = pause_says c.args.reply c.args.self.now _ c.requires.expected c.in-Ok.pause
          (subst (λ (v : MachineView). Reaches (program_in v) v.standing c.args.reply v.engine v.output c.in-Ok.pause new after) c.self.view_is
          (subst (λ (s : Standing). Reaches (program_view c.self.inside.session.program.now c.self.inside.session.state) s c.args.reply c.self.inside.session.engine c.self.inside.session.output.items c.in-Ok.pause new after) c.replace-standing.ensures.value c.in-Ok.ensures.gone))
          c.end_at.result c.end_at.ensures;
      output = subst (λ (v : MachineView). IsPrefix v.output c.go_on.new.self.output.items) c.self.view_is c.in-Ok.ensures.gone.longer;
      stand = ap stand_of c.replace-standing.ensures.after;
    }
