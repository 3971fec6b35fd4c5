use Rattle.std.proofs.Common.{subst, Option}
use Rattle.std.specs.Prelude.{IfOk}
use Rattle.lua_meaning.specs.Fault.{Place, placed}
use Rattle.lua_machine.specs.Serving.{IsText}
use Rattle.lua_machine.proofs.Levels.{caller_site, caller_place}
use Rattle.lua_machine.proofs.engine.Engine.refusal.Goals as goal

pub text_at-requires-clause-site : goal.text_at-requires-clause-site
text_at-requires-clause-site c = caller_site c.caller-frame.result c.args.self.now c.caller-frame.ensures

pub returns : goal.returns
returns c =
    subst (λ (o : Option Place). IfOk c.text_at.result (λ value. IsText (placed o c.args.text.now) value c.args.self.now c.text_at.new.self))
    (caller_place c.caller-frame.result c.args.self.now c.caller-frame.ensures) c.text_at.ensures
