use Rattle.std.proofs.Common.{◌≡◌, ℕ, List, sym, subst}
use Rattle.lua_code.specs.Held.{program_view}
use Rattle.lua_machine.specs.Session.{Fails}
use Rattle.lua_machine.proofs.Sessions.{gone_err, fails_here}
use Rattle.lua_machine.proofs.session.Session.go_on.Goals as goal

pub returns-in_err-from-clause-gone : goal.returns-in_err-from-clause-gone
returns-in_err-from-clause-gone c =
    let old = c.args.self.now in
    let program = program_view old.program.now old.state in
    gone_err program c.args.standing c.args.reply c.from_residual.result _ old.engine old.output.items c.resume.new.self.engine c.resume.new.self.output.items c.from_residual.ensures.1
    (subst (λ (o : List ℕ). Fails program c.args.standing c.args.reply old.engine old.output.items o) (sym c.resume.ensures.output)
    (fails_here program c.args.standing c.args.reply old.engine old.output.items c.requires.expected))
