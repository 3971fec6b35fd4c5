use Rattle.std.proofs.Common.{◌-◌, rules, arith}
use Rattle.lua_assembler.proofs.Drafts.{ordered_more}
use Rattle.lua_assembler.proofs.draft.Draft.finish.Goals as goal

pub steps-preserved : goal.steps-preserved
steps-preserved c =
    ordered_more c.self.inside.proto c.self.inside.steps.items c.steps.proto c.append.new.self c.steps.at
    (c.steps.at - 1) c.index-step.result.now c.steps.invariant
    (omega (arith, c.steps-test.true)) (search (rules, c.index-step.ensures))
    c.in_ok-append.ensures.ok c.in_ok-append.ensures.held
