use Rattle.std.proofs.Common.{◌≡◌, ◌+◌, ◌<◌, ◌≤◌, ℕ, Some, ap, refl, sym, ◌∙◌, arith}
use Rattle.lua_tree.specs.declared.stop.Fault.TheVariants as faults
use Rattle.lua_tree.specs.Tree as t
use Rattle.lua_tree.specs.View.{expr_view}
use Rattle.lua_tree.proofs.Taking.{look_at, passed_at, take_at, keeps_deep, passes_deep}
use Rattle.lua_tree.proofs.Views.{view_number}
use Rattle.lua_tree.proofs.Descent.{faulted, ended}
use Rattle.lua_tree.proofs.ExpressionSteps.{number_stands, number_there, not_none}
use Rattle.lua_tree.proofs.expressions.number.Goals as goal

pub returns-in_err-may_nest-clause-answer : goal.returns-in_err-may_nest-clause-answer
returns-in_err-may_nest-clause-answer c words sp =
    let z = number_there _ c.requires.here in
    let h = number_stands sp c.args.at z.0 z.1 in
    faulted expr_view c.args.at words faults.TooDeep c.args.at (200 < c.args.scope.depth + 1) c.in_err-may_nest.field-0.0 c.from_residual.result c.from_residual.ensures.1 c.in_err-may_nest.ensures.err
    (λ over. look_at h.is (passed_at h.is (passes_deep _ (omega (arith, over)))))

pub returns-in-Some-clause-answer : goal.returns-in-Some-clause-answer
returns-in-Some-clause-answer c words sp =
    let h = number_stands sp c.args.at c.in-Some.value c.in-Some.ensures in
    look_at h.is (take_at h.is (keeps_deep _ (omega (arith, c.in_ok-may_nest.ensures.ok)))
    (ended c.args.at c.leaf.result.at words (ap (λ l. t.number l c.in-Some.value) h.line ∙ (sym (view_number _ _) ∙ sym c.leaf.ensures.view)) (sym c.leaf.ensures.at)))

pub returns-in-None-clause-answer : goal.returns-in-None-clause-answer
returns-in-None-clause-answer c words sp = absurd (not_none _ c.requires.here c.in-None.ensures)
