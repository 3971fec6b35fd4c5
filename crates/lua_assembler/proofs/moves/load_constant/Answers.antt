use Rattle.std.proofs.Common.{refl}
use Rattle.std.proofs.lemmas.Result.{on_ok_weaker}
use Rattle.lua_code.specs.Instr as i
use Rattle.lua_assembler.proofs.KnownSteps.{known_put}
use Rattle.lua_assembler.proofs.moves.load_constant.Goals as goal

pub returns : goal.returns
returns c =
    on_ok_weaker c.put.result (λ p. known_put c.args.constant _ (λ v. i.load c.args.to (i.constant v)) c.in_ok-constant.constant
    c.args.w.now c.constant.new.self c.put.new.self c.in_ok-constant.ensures.ok refl c.in_ok-constant.ensures.number p)
    c.put.ensures
