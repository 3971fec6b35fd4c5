use Rattle.std.proofs.Common.{◌∙◌, ap, sym, take}
use Rattle.lua_tree.specs.View.{block_view}
use Rattle.lua_upvalues.specs.Upvalues.{locals_behind}
use Rattle.lua_upvalues.proofs.UpvalueSteps.{cut_block}
use Rattle.lua_upvalues.proofs.Views.{repeat_seen}
use Rattle.lua_upvalues.proofs.Refusals.{arms_refused, fields_refused, if_refused}
use Rattle.lua_upvalues.proofs.+upvalues.Goals as goal

pub stat_walk::check_arms-returns-in_err-check_arm-clause-found :
    goal.stat_walk::check_arms-returns-in_err-check_arm-clause-found
stat_walk::check_arms-returns-in_err-check_arm-clause-found t c =
    arms_refused c.args.arms.now c.loop-arm.arm-index c.arm-item.result c.loop-arm.locals c.args.locals.now c.in_err-check_arm.field-0.0 c.from_residual.result
    c.loop-arm-test.true c.arm-item.is c.loop-arm.invariant.0 c.loop-arm.invariant.1 c.in_err-check_arm.ensures.found c.from_residual.ensures.1

pub stat_walk::check_stat-returns-in_err-check_arms-in-If-clause-found :
    goal.stat_walk::check_stat-returns-in_err-check_arms-in-If-clause-found
stat_walk::check_stat-returns-in_err-check_arms-in-If-clause-found t c =
    if_refused c.args.stat.now c.in-If.arms c.as_slice-in-If.result.now c.in-If.last c.args.locals.now c.in_err-check_arms-in-If.field-0.0 c.from_residual-in_err-check_arms-in-If.result
    c.in-If.is c.as_slice-in-If.ensures c.in_err-check_arms-in-If.ensures.found c.from_residual-in_err-check_arms-in-If.ensures.1

pub stat_walk::check_stat-returns-in_ok-check_expr-in-Repeat-clause-locals :
    goal.stat_walk::check_stat-returns-in_ok-check_expr-in-Repeat-clause-locals
stat_walk::check_stat-returns-in_ok-check_expr-in-Repeat-clause-locals t c =
    let n = c.len-outer.result in
    let locals = c.args.locals.now in
    c.cut.ensures
    ∙ ap (λ l. take n l) (c.in_ok-check_expr-in-Repeat.ensures.same ∙ c.in_ok-check_stats-in-Repeat.ensures.locals)
    ∙ cut_block (block_view c.in-Repeat.block) locals n c.len-outer.ensures
    ∙ sym (ap (λ s. locals_behind s locals) (repeat_seen c.args.stat.now c.in-Repeat.block c.in-Repeat.test c.in-Repeat.is))

pub walk::check_fields-returns-in_err-check_field-clause-found :
    goal.walk::check_fields-returns-in_err-check_field-clause-found
walk::check_fields-returns-in_err-check_field-clause-found t c =
    fields_refused c.args.fields.now c.loop-field.field-index c.field-item.result c.loop-field.locals c.args.locals.now c.in_err-check_field.field-0.0 c.from_residual.result
    c.loop-field-test.true c.field-item.is c.loop-field.invariant.0 c.loop-field.invariant.1 c.in_err-check_field.ensures.found c.from_residual.ensures.1
