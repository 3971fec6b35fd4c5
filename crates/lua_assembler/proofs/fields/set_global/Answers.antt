use Rattle.std.proofs.Common.{ap}
use Rattle.std.proofs.lemmas.Result.{on_ok_weaker}
use Rattle.lua_meaning.specs.Value.{str}
use Rattle.lua_meaning.specs.Expressions.{globals}
use Rattle.lua_code.specs.Instr as i
use Rattle.lua_code.specs.View.{site_view}
use Rattle.lua_assembler.proofs.KnownSteps.{known_put}
use Rattle.lua_assembler.proofs.fields.set_global.Goals as goal

pub returns : goal.returns
returns c =
    on_ok_weaker c.put.result (λ p. known_put _ (str c.args.name.now) (λ v. i.set_field (site_view c.args.site) (i.constant globals) (i.constant v) (i.slot c.args.from))
    c.in_ok-name.name c.args.w.now c.constant.new.self c.put.new.self c.in_ok-name.ensures.ok (ap str c.in_ok-copy.ensures)
    c.in_ok-name.ensures.number p) c.put.ensures
