use Rattle.std.proofs.Common.{◌++◌, [], ◌∙◌, ap, sym, map, append_assoc}
use Rattle.std.proofs.lemmas.Result.{on_ok_weaker}
use Rattle.lua_tree.specs.View.{expr_view, func_view, arm_view, block_view, exprs_of, arms_of, else_of}
use Rattle.lua_meaning.specs.Names.{expr_names, exprs_names, func_names, block_names, stat_names, arms_names, without}
use Rattle.lua_upvalues.specs.Parts.{block_option, expr_option, option_names}
use Rattle.lua_upvalues.proofs.Parts.{numeric_names}
use Rattle.lua_upvalues.proofs.Views.{generic_seen, function_seen, if_seen, numeric_seen}
use Rattle.lua_upvalues.proofs.+names.Goals as goal

pub statements::stat_names-returns-in_ok-func_names-in-Function :
    goal.statements::stat_names-returns-in_ok-func_names-in-Function
statements::stat_names-returns-in_ok-func_names-in-Function t c =
    let here = c.args.here in
    let old = c.args.names.now in
    let target = expr_names here (expr_view c.in-Function.target) in
    let inside = func_names (func_view c.in-Function.func) in
    on_ok_weaker c.expr_names-in-Function.result (λ h. h
    ∙ ap (λ l. target ++ l) (c.in_ok-func_names-in-Function.ensures)
    ∙ sym (append_assoc target inside old)
    ∙ ap (λ s. stat_names here s old) (sym (function_seen c.args.stat.now c.in-Function.target c.in-Function.func c.in-Function.is)))
    c.expr_names-in-Function.ensures

pub statements::stat_names-returns-in_ok-inner_names-in-GenFor :
    goal.statements::stat_names-returns-in_ok-inner_names-in-GenFor
statements::stat_names-returns-in_ok-inner_names-in-GenFor t c =
    let here = c.args.here in
    let old = c.args.names.now in
    let values = exprs_names here (exprs_of (map expr_view c.in-GenFor.values)) in
    let inside = without c.in-GenFor.declared (block_names here (block_view c.in-GenFor.block) []) in
    on_ok_weaker c.exprs_names-in-GenFor.result (λ h. h
    ∙ ap (λ es. exprs_names here (exprs_of (map expr_view es)) ++ c.inner_names-in-GenFor.new.names) c.as_slice-in-GenFor-2.ensures
    ∙ ap (λ l. values ++ l) (c.in_ok-inner_names-in-GenFor.ensures ∙ ap (λ xs. without xs (block_names here (block_view c.in-GenFor.block) []) ++ old) c.as_slice-in-GenFor.ensures)
    ∙ sym (append_assoc values inside old)
    ∙ ap (λ s. stat_names here s old) (sym (generic_seen c.args.stat.now c.in-GenFor.declared c.in-GenFor.values c.in-GenFor.block c.in-GenFor.is)))
    c.exprs_names-in-GenFor.ensures

pub statements::stat_names-returns-in_ok-else_names-in-If :
    goal.statements::stat_names-returns-in_ok-else_names-in-If
statements::stat_names-returns-in_ok-else_names-in-If t c =
    let here = c.args.here in
    let old = c.args.names.now in
    on_ok_weaker c.arms_names.result (λ h. h (else_of (block_option c.in-If.last)) old (c.in_ok-else_names-in-If.ensures)
    ∙ ap (λ arms. arms_names here (arms_of (map arm_view arms) (else_of (block_option c.in-If.last))) ++ old) c.as_slice-in-If.ensures
    ∙ ap (λ s. stat_names here s old) (sym (if_seen c.args.stat.now c.in-If.arms c.in-If.last c.in-If.is)))
    c.arms_names.ensures

pub statements::stat_names-returns-in_ok-expr_names-in-NumFor :
    goal.statements::stat_names-returns-in_ok-expr_names-in-NumFor
statements::stat_names-returns-in_ok-expr_names-in-NumFor t c =
    let here = c.args.here in
    let old = c.args.names.now in
    let first = expr_names here (expr_view c.in-NumFor.first) in
    let limit = expr_names here (expr_view c.in-NumFor.limit) in
    let step = option_names here (expr_option c.in-NumFor.step) in
    on_ok_weaker c.expr_names-in-NumFor-2.result (λ h. h
    ∙ ap (λ l. first ++ l) (c.in_ok-expr_names-in-NumFor.ensures
    ∙ ap (λ l. limit ++ l) (c.in_ok-step_names-in-NumFor.ensures
    ∙ ap (λ l. step ++ l) (c.in_ok-inner_names-in-NumFor.ensures ∙ ap (λ xs. without xs (block_names here (block_view c.in-NumFor.block) []) ++ old) c.from_ref.ensures.value)))
    ∙ sym (numeric_names here c.in-NumFor.name (expr_view c.in-NumFor.first) (expr_view c.in-NumFor.limit) (expr_option c.in-NumFor.step) (block_view c.in-NumFor.block) c.args.stat.now.line old)
    ∙ ap (λ s. stat_names here s old) (sym (numeric_seen c.args.stat.now c.in-NumFor.name c.in-NumFor.first c.in-NumFor.limit c.in-NumFor.step c.in-NumFor.block c.in-NumFor.is)))
    c.expr_names-in-NumFor-2.ensures
