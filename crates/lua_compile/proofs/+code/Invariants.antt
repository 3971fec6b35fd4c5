use Rattle.std.proofs.Common.{◌≡◌, ◌<◌, ◌+◌, ◌*◌, ◌≤◌, max, map, drop, length}
use Rattle.lua_tree.specs.View.{expr_view, arm_view, exprs_of, arms_of, else_of}
use Rattle.lua_code.specs.Code.{exprs_code, arms_code}
use Rattle.lua_assembler.specs.Writing.{Adds, code_of}
use Rattle.lua_upvalues.specs.Parts.{block_option}
use Rattle.lua_compile.proofs.Scoping.{BlockFrom}
use Rattle.lua_compile.proofs.Storing.{TargetsFrom}
use Rattle.lua_compile.proofs.FieldSteps.{Left}
use Rattle.lua_tree.specs.declared.tree.Expr.{Expr}
use Rattle.lua_tree.specs.declared.tree.Block.{Block}
use Rattle.lua_tree.specs.declared.tree.ExprKind.TheViews.{size-Expr, size-Field, size-Func, size-Stat, size-Block, size-Arm}
use Rattle.lua_tree.specs.declared.tree.ExprKind.TheShapes.{weighed-StatKind-If-1, weighed-StatKind-NumFor-3}
use denote.Param.Weighed.{most}
use Rattle.lua_compile.proofs.+code.Given as goal

abbrev pub invariant-expressions::exprs_code-exprs : goal.invariant-expressions::exprs_code-exprs
invariant-expressions::exprs_code-exprs l = (l.at ≤ length l.exprs) × Adds (exprs_code (exprs_of (map expr_view (drop l.at l.exprs))) l.file l.scope (l.h + l.at)) l.fn.w l.w

abbrev pub decreases-expressions::exprs_code-exprs : goal.decreases-expressions::exprs_code-exprs
decreases-expressions::exprs_code-exprs l = l.at

abbrev pub invariant-tables::fields_code-fields : goal.invariant-tables::fields_code-fields
invariant-tables::fields_code-fields l = (0 < l.number) × Left l.line l.file l.scope l.table l.fields l.number l.at l.fn.w l.w

abbrev pub decreases-tables::fields_code-fields : goal.decreases-tables::fields_code-fields
decreases-tables::fields_code-fields l = l.at

-- ---- statements

abbrev pub invariant-blocks::stats_code-stats : goal.invariant-blocks::stats_code-stats
invariant-blocks::stats_code-stats l = (l.at ≤ length l.stats) × (l.end ≡ length (code_of l.fn.w)) × BlockFrom l.at l.stats l.exit l.file l.fn.scope l.scope l.fn.w l.w

abbrev pub decreases-blocks::stats_code-stats : goal.decreases-blocks::stats_code-stats
decreases-blocks::stats_code-stats l = l.at

abbrev pub invariant-assignments::targets_code-targets : goal.invariant-assignments::targets_code-targets
invariant-assignments::targets_code-targets l = (l.at ≤ length l.targets) × TargetsFrom l.at l.targets l.file l.scope l.end l.h l.fn.w l.w

abbrev pub decreases-assignments::targets_code-targets : goal.decreases-assignments::targets_code-targets
decreases-assignments::targets_code-targets l = l.at

abbrev pub invariant-branches::if_code-arms : goal.invariant-branches::if_code-arms
invariant-branches::if_code-arms l =
    (l.at ≤ length l.arms)
    × (l.end ≡ length (code_of l.fn.w))
    × (l.scope ≡ l.fn.scope)
    × Adds (arms_code (arms_of (map arm_view (drop l.at l.arms)) (else_of (block_option l.last))) l.exit l.file l.fn.scope) l.fn.w l.w

abbrev pub decreases-branches::if_code-arms : goal.decreases-branches::if_code-arms
decreases-branches::if_code-arms l = l.at

-- ---- how deep calls nest: by the depth of what a function is given, and functions of the same depth by their order

abbrev pub decreases-expressions::expr_code : goal.decreases-expressions::expr_code
decreases-expressions::expr_code l = 8 * size-Expr l.expr.now

abbrev pub decreases-expressions::tail_code : goal.decreases-expressions::tail_code
decreases-expressions::tail_code l = 8 * size-Expr l.expr.now

abbrev pub decreases-expressions::right_code : goal.decreases-expressions::right_code
decreases-expressions::right_code l = 8 * size-Expr l.expr.now + 1

abbrev pub decreases-expressions::left_code : goal.decreases-expressions::left_code
decreases-expressions::left_code l = 8 * size-Expr l.expr.now + 1

abbrev pub decreases-expressions::listed_code : goal.decreases-expressions::listed_code
decreases-expressions::listed_code l = 8 * size-Expr l.expr.now + 1

abbrev pub decreases-expressions::exprs_code : goal.decreases-expressions::exprs_code
decreases-expressions::exprs_code l = 8 * most size-Expr l.exprs.now + 2

abbrev pub decreases-tables::item_code : goal.decreases-tables::item_code
decreases-tables::item_code l = 8 * size-Expr l.value.now + 2

abbrev pub decreases-tables::field_code : goal.decreases-tables::field_code
decreases-tables::field_code l = 8 * size-Field l.field.now

abbrev pub decreases-tables::fields_code : goal.decreases-tables::fields_code
decreases-tables::fields_code l = 8 * most size-Field l.fields.now + 1

abbrev pub decreases-functions::body_code : goal.decreases-functions::body_code
decreases-functions::body_code l = 8 * size-Func l.func.now

abbrev pub decreases-functions::function : goal.decreases-functions::function
decreases-functions::function l = 8 * size-Func l.func.now + 1

abbrev pub decreases-functions::function_code : goal.decreases-functions::function_code
decreases-functions::function_code l = 8 * size-Func l.func.now + 2

abbrev pub decreases-statements::stat_code : goal.decreases-statements::stat_code
decreases-statements::stat_code l = 8 * size-Stat l.stat.now

abbrev pub decreases-statements::local_code : goal.decreases-statements::local_code
decreases-statements::local_code l = 8 * most size-Expr l.values.now + 3

abbrev pub decreases-statements::function_stat_code : goal.decreases-statements::function_stat_code
decreases-statements::function_stat_code l = 8 * max (size-Expr l.target.now) (size-Func l.func.now) + 3

abbrev pub decreases-statements::local_function_code : goal.decreases-statements::local_function_code
decreases-statements::local_function_code l = 8 * size-Func l.func.now + 3

abbrev pub decreases-statements::return_code : goal.decreases-statements::return_code
decreases-statements::return_code l = 8 * most size-Expr l.values.now + 3

abbrev pub decreases-blocks::stats_code : goal.decreases-blocks::stats_code
decreases-blocks::stats_code l = 8 * size-Block l.block.now

abbrev pub decreases-blocks::block_code : goal.decreases-blocks::block_code
decreases-blocks::block_code l = 8 * size-Block l.block.now + 1

abbrev pub decreases-branches::arm_code : goal.decreases-branches::arm_code
decreases-branches::arm_code l = 8 * size-Arm l.arm.now

abbrev pub decreases-branches::else_code : goal.decreases-branches::else_code
decreases-branches::else_code l = 8 * weighed-StatKind-If-1.weight Block size-Block l.last.now + 2

abbrev pub decreases-branches::if_code : goal.decreases-branches::if_code
decreases-branches::if_code l = 8 * max (most size-Arm l.arms.now) (weighed-StatKind-If-1.weight Block size-Block l.last.now) + 3

abbrev pub decreases-assignments::target_code : goal.decreases-assignments::target_code
decreases-assignments::target_code l = 8 * size-Expr l.target.now

abbrev pub decreases-assignments::targets_code : goal.decreases-assignments::targets_code
decreases-assignments::targets_code l = 8 * most size-Expr l.targets.now + 1

abbrev pub decreases-assignments::assign_code : goal.decreases-assignments::assign_code
decreases-assignments::assign_code l = 8 * max (most size-Expr l.targets.now) (most size-Expr l.values.now) + 3

abbrev pub decreases-loops::while_code : goal.decreases-loops::while_code
decreases-loops::while_code l = 8 * max (size-Expr l.test.now) (size-Block l.block.now) + 3

abbrev pub decreases-loops::repeat_code : goal.decreases-loops::repeat_code
decreases-loops::repeat_code l = 8 * max (size-Block l.block.now) (size-Expr l.test.now) + 3

abbrev pub decreases-loops::turn_code : goal.decreases-loops::turn_code
decreases-loops::turn_code l = 8 * size-Block l.block.now + 2

abbrev pub decreases-loops::count_code : goal.decreases-loops::count_code
decreases-loops::count_code l = 8 * size-Block l.block.now + 3

abbrev pub decreases-loops::step_code : goal.decreases-loops::step_code
decreases-loops::step_code l = 8 * weighed-StatKind-NumFor-3.weight Expr size-Expr l.step.now + 1

abbrev pub decreases-loops::numeric_code : goal.decreases-loops::numeric_code
decreases-loops::numeric_code l = 8 * max (max (size-Expr l.first.now) (size-Expr l.limit.now)) (max (weighed-StatKind-NumFor-3.weight Expr size-Expr l.step.now) (size-Block l.block.now)) + 4

abbrev pub decreases-loops::generic_code : goal.decreases-loops::generic_code
decreases-loops::generic_code l = 8 * max (most size-Expr l.values.now) (size-Block l.block.now) + 3
