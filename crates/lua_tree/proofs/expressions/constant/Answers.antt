use Rattle.std.proofs.Common.{◌≡◌, ◌+◌, ◌<◌, ◌≤◌, ℕ, arith}
use Rattle.lua_tree.specs.declared.stop.Fault.TheVariants as faults
use Rattle.lua_tree.specs.View.{expr_view}
use Rattle.lua_tree.specs.Answer.{counts}
use Rattle.lua_tree.proofs.Descent.{faulted}
use Rattle.lua_tree.proofs.ExpressionSteps.{constant_deep, constant_read}
use Rattle.lua_tree.proofs.expressions.constant.Goals as goal

pub returns-in_err-may_nest-clause-answer : goal.returns-in_err-may_nest-clause-answer
returns-in_err-may_nest-clause-answer c words sp =
    faulted expr_view c.args.at words faults.TooDeep c.args.at (200 < c.args.scope.depth + 1) c.in_err-may_nest.field-0.0 c.from_residual.result c.from_residual.ensures.1 c.in_err-may_nest.ensures.err
    (λ over. constant_deep c.args.source.now words sp (counts c.args.scope) c.args.at c.args.what c.requires.here (omega (arith, over)))

pub returns-clause-answer : goal.returns-clause-answer
returns-clause-answer c words sp =
    constant_read c.args.source.now words sp (counts c.args.scope) c.args.at c.leaf.result.at c.args.what _ c.requires.here (omega (arith, c.in_ok-may_nest.ensures.ok)) c.leaf.ensures.view c.leaf.ensures.at
