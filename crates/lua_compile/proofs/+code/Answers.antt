use Rattle.std.proofs.Common.{◌≡◌, suc, ◌+◌, ◌-◌, List, ◌∙◌, ap, sym, subst, map, arith, length, zero-add, zero, ◌∷◌, [], drop, refl}
use Rattle.std.proofs.lemmas.Result.{on_ok_weaker}
use Rattle.std.specs.Prelude.{false}
use Rattle.lua_tree.specs.Tree as t
use Rattle.lua_tree.specs.Tree.{Bytes}
use Rattle.lua_tree.specs.declared.tree.BinOp.{BinOp}
use Rattle.lua_tree.specs.declared.tree.Expr.{Expr}
use Rattle.lua_tree.specs.declared.tree.ExprKind.TheViews.{out-Func, out-Arm}
use Rattle.lua_tree.specs.declared.tree.Field.{Field}
use Rattle.lua_tree.specs.View.{expr_view, exprs_of, field_view, fields_of, func_view, unary_view, binary_view, block_view, arm_view, arms_of, else_of, num_for_of}
use Rattle.lua_meaning.specs.Names.{block_names, captured_in}
use Rattle.lua_code.specs.Instr as i
use Rattle.lua_code.specs.Code.{site, arms_code, scope_at_end}
use Rattle.lua_code.specs.Scope.{declared, around, cell_names, cell_places, Scope}
use Rattle.lua_compile.specs.Functions.{IsMade, func_inner}
use Rattle.lua_assembler.proofs.Adding.{function_inside}
use Rattle.lua_compile.proofs.ExprViews.{nil_seen, true_seen, false_seen, number_seen, str_seen, dots_seen, function_seen, name_seen, index_seen, call_seen, method_seen, table_seen, unary_seen, binary_seen, paren_seen}
use Rattle.lua_compile.proofs.ExprSteps.{seen_adds, seen_tail, same_code, same_right, same_left, same_operands, same_operand, index_adds, call_adds, method_adds, table_adds, unary_adds, and_adds, or_adds, binary_adds}
use Rattle.lua_compile.proofs.ExprLists.{list_next, list_whole}
use Rattle.lua_compile.proofs.FieldSteps.{item_counts, item_adds, some_number, one_next, none_left}
use Rattle.lua_compile.proofs.FunctionSteps.{function_is, body_takes, head_as, closure_adds}
use Rattle.lua_compile.proofs.+code.Goals as goal
use Rattle.lua_assembler.specs.Writing.{Adds}
use Rattle.lua_code.specs.View.{site_view}
use Rattle.lua_compile.specs.Arms.{AddsArm}
use Rattle.lua_compile.specs.Loops.{turn_code}
use Rattle.lua_upvalues.specs.Parts.{block_option, expr_option}
use Rattle.lua_compile.proofs.Scoping.{BlockFrom, block_begins, block_step}
use Rattle.lua_compile.proofs.Storing.{TargetsFrom, targets_begin, targets_step, targets_end, counted}
use Rattle.lua_compile.proofs.Looping.{while_put, while_long, repeat_put, repeat_leaves, repeat_mends, turn_put, count_put, count_mends, numeric_put, numeric_scope, numeric_same, numeric_exit, generic_put, generic_mends}
use Rattle.lua_compile.proofs.Branching.{arm_put, arms_step}
use Rattle.lua_tree.specs.declared.tree.Arm.{Arm}
use Rattle.lua_compile.proofs.Stating.{call_put, local_put, function_stat_put, local_function_put, assign_put, return_put}
use Rattle.lua_upvalues.proofs.Callers.{generic_seen, function_seen as function_stat_seen, if_seen, numeric_seen}
use Rattle.lua_compile.proofs.StatViews.{assign_seen, local_seen, call_seen as call_stat_seen, do_seen, while_seen, repeat_seen, local_function_seen, return_seen, break_seen, arm_opened, stats_put, on_both, takes_plain, takes_seen}

-- ---- expressions, tables and functions

pub expressions::expr_code-returns-in-Nil : goal.expressions::expr_code-returns-in-Nil
expressions::expr_code-returns-in-Nil rank c = on_ok_weaker c.put_constant.result (λ a. seen_adds c.args.expr.now _ c.args.file.now c.args.scope.now c.args.h c.args.to _ _ (nil_seen c.args.expr.now c.in-Nil.is) a) c.put_constant.ensures

pub expressions::expr_code-returns-in-True : goal.expressions::expr_code-returns-in-True
expressions::expr_code-returns-in-True rank c = on_ok_weaker c.put_constant-in-True.result (λ a. seen_adds c.args.expr.now _ c.args.file.now c.args.scope.now c.args.h c.args.to _ _ (true_seen c.args.expr.now c.in-True.is) a) c.put_constant-in-True.ensures

pub expressions::expr_code-returns-in-False : goal.expressions::expr_code-returns-in-False
expressions::expr_code-returns-in-False rank c = on_ok_weaker c.put_constant-in-False.result (λ a. seen_adds c.args.expr.now _ c.args.file.now c.args.scope.now c.args.h c.args.to _ _ (false_seen c.args.expr.now c.in-False.is) a) c.put_constant-in-False.ensures

pub expressions::expr_code-returns-in-Number : goal.expressions::expr_code-returns-in-Number
expressions::expr_code-returns-in-Number rank c = on_ok_weaker c.put_constant-in-Number.result (λ a. seen_adds c.args.expr.now _ c.args.file.now c.args.scope.now c.args.h c.args.to _ _ (number_seen c.args.expr.now c.in-Number.number c.in-Number.is) a) c.put_constant-in-Number.ensures

pub expressions::expr_code-returns-in-Str : goal.expressions::expr_code-returns-in-Str
expressions::expr_code-returns-in-Str rank c = on_ok_weaker c.put_text.result (λ a. seen_adds c.args.expr.now _ c.args.file.now c.args.scope.now c.args.h c.args.to _ _ (str_seen c.args.expr.now c.in-Str.text c.in-Str.is) a) c.put_text.ensures

pub expressions::expr_code-returns-in-Dots : goal.expressions::expr_code-returns-in-Dots
expressions::expr_code-returns-in-Dots rank c = on_ok_weaker c.put_dots.result (λ a. seen_adds c.args.expr.now _ c.args.file.now c.args.scope.now c.args.h c.args.to _ _ (dots_seen c.args.expr.now c.in-Dots.is) a) c.put_dots.ensures

pub expressions::expr_code-returns-in-Function : goal.expressions::expr_code-returns-in-Function
expressions::expr_code-returns-in-Function rank c = on_ok_weaker c.function_code.result (λ a. seen_adds c.args.expr.now _ c.args.file.now c.args.scope.now c.args.h c.args.to _ _ (function_seen c.args.expr.now c.in-Function.func c.in-Function.is) a) c.function_code.ensures

pub expressions::expr_code-returns-in-Name : goal.expressions::expr_code-returns-in-Name
expressions::expr_code-returns-in-Name rank c = on_ok_weaker c.put_name.result (λ a. seen_adds c.args.expr.now _ c.args.file.now c.args.scope.now c.args.h c.args.to _ _ (name_seen c.args.expr.now c.in-Name.name c.in-Name.is) a) c.put_name.ensures

pub expressions::expr_code-returns-in_ok-right_code-in-Index : goal.expressions::expr_code-returns-in_ok-right_code-in-Index
expressions::expr_code-returns-in_ok-right_code-in-Index rank c =
    let base = c.in-Index.base.value in
    let key = c.in-Index.key.value in
    on_ok_weaker c.left_code.result (λ a. seen_adds c.args.expr.now _ c.args.file.now c.args.scope.now c.args.h c.args.to _ _ (index_seen c.args.expr.now c.in-Index.base c.in-Index.key c.in-Index.is)
    (index_adds c.args.expr.now.line c.args.file.now c.args.scope.now c.args.h c.args.to (expr_view base) (expr_view key) c.in_ok-next-in-Index.field-0 c.args.w.now c.put_index.new.w c.right_code.new.w c.left_code.new.w
    c.in_ok-next-in-Index.ensures
    (same_operands c.deref.result.now base c.deref-in-Index.result.now key c.args.scope.now c.args.h (λ x y. i.get_field (site c.args.expr.now.line (c.args.h + 2) c.args.scope.now) c.args.to x y) c.args.w.now c.put_index.new.w c.deref.ensures c.deref-in-Index.ensures c.in_ok-put_index-in-Index.ensures)
    (same_right c.deref-in-Index-2.result.now key c.args.file.now c.args.scope.now c.in_ok-next-in-Index.field-0 c.put_index.new.w c.right_code.new.w c.deref-in-Index-2.ensures c.in_ok-right_code-in-Index.ensures)
    (same_left c.deref-in-Index-3.result.now base c.args.file.now c.args.scope.now c.args.h c.right_code.new.w c.left_code.new.w c.deref-in-Index-3.ensures a))) c.left_code.ensures

pub expressions::expr_code-returns-in_ok-exprs_code-in-Call : goal.expressions::expr_code-returns-in_ok-exprs_code-in-Call
expressions::expr_code-returns-in_ok-exprs_code-in-Call rank c =
    let line = c.args.expr.now.line in
    let callee = c.in-Call.callee.value in
    let args = exprs_of (map expr_view c.as_slice-args.result.now) in
    on_ok_weaker c.expr_code.result (λ a. seen_adds c.args.expr.now (t.call line (expr_view callee) args) c.args.file.now c.args.scope.now c.args.h c.args.to _ _
    (call_seen c.args.expr.now c.in-Call.callee c.in-Call.args c.in-Call.is ∙ ap (λ (es : List Expr). t.call line (expr_view callee) (exprs_of (map expr_view es))) (sym c.as_slice-args.ensures))
    (call_adds line c.args.file.now c.args.scope.now c.args.h c.args.to (expr_view callee) args _ c.in_ok-next-in-Call.field-0 c.args.w.now c.put_call.new.w c.exprs_code.new.w c.expr_code.new.w
    c.in_ok-next-in-Call.ensures c.in_ok-put_call-in-Call.ensures c.in_ok-exprs_code-in-Call.ensures
    (same_code c.deref-in-Call.result.now callee c.args.file.now c.args.scope.now c.args.h c.args.h c.exprs_code.new.w c.expr_code.new.w c.deref-in-Call.ensures a))) c.expr_code.ensures

pub expressions::expr_code-returns-in_ok-put_method-in-Method : goal.expressions::expr_code-returns-in_ok-put_method-in-Method
expressions::expr_code-returns-in_ok-put_method-in-Method rank c =
    let line = c.args.expr.now.line in
    let object = c.in-Method.object.value in
    let args = exprs_of (map expr_view c.as_slice-args-in-Method.result.now) in
    let second = c.in_ok-second-in-Method.second in
    on_ok_weaker c.expr_code-in-Method.result (λ a. seen_adds c.args.expr.now (t.method line (expr_view object) c.in-Method.name args) c.args.file.now c.args.scope.now c.args.h c.args.to _ _
    (method_seen c.args.expr.now c.in-Method.object c.in-Method.name c.in-Method.args c.in-Method.is ∙ ap (λ (es : List Expr). t.method line (expr_view object) c.in-Method.name (exprs_of (map expr_view es))) (sym c.as_slice-args-in-Method.ensures))
    (method_adds line c.args.file.now c.args.scope.now c.args.h c.args.to (expr_view object) args _ _ second c.in_ok-next-in-Method.field-0 c.args.w.now c.put_method_call.new.w c.exprs_code-in-Method.new.w c.put_method.new.w c.expr_code-in-Method.new.w
    c.in_ok-second-in-Method.ensures c.in_ok-next-in-Method.ensures c.in_ok-put_method_call-in-Method.ensures c.in_ok-exprs_code-in-Method.ensures c.in_ok-put_method-in-Method.ensures
    (same_code c.deref-in-Method.result.now object c.args.file.now c.args.scope.now second second c.put_method.new.w c.expr_code-in-Method.new.w c.deref-in-Method.ensures a))) c.expr_code-in-Method.ensures

pub expressions::expr_code-returns-in_ok-fields_code-in-Table : goal.expressions::expr_code-returns-in_ok-fields_code-in-Table
expressions::expr_code-returns-in_ok-fields_code-in-Table rank c =
    let line = c.args.expr.now.line in
    let fields = fields_of (map field_view c.as_slice-fields.result.now) in
    on_ok_weaker c.put_table.result (λ a. seen_adds c.args.expr.now (t.table line fields) c.args.file.now c.args.scope.now c.args.h c.args.to _ _
    (table_seen c.args.expr.now c.in-Table.fields c.in-Table.is ∙ ap (λ (fs : List Field). t.table line (fields_of (map field_view fs))) (sym c.as_slice-fields.ensures))
    (table_adds line c.args.file.now c.args.scope.now c.args.h c.args.to fields c.args.w.now c.put_settle.new.w c.fields_code.new.w c.put_table.new.w
    c.in_ok-put_settle-in-Table.ensures c.in_ok-fields_code-in-Table.ensures a)) c.put_table.ensures

pub expressions::expr_code-returns-in_ok-put_unary-in-Unary : goal.expressions::expr_code-returns-in_ok-put_unary-in-Unary
expressions::expr_code-returns-in_ok-put_unary-in-Unary rank c =
    let line = c.args.expr.now.line in
    let operand = c.in-Unary.operand.value in
    let op = unary_view c.in-Unary.op in
    on_ok_weaker c.left_code-in-Unary.result (λ a. seen_adds c.args.expr.now (t.unary line op (expr_view operand)) c.args.file.now c.args.scope.now c.args.h c.args.to _ _ (unary_seen c.args.expr.now c.in-Unary.op c.in-Unary.operand c.in-Unary.is)
    (unary_adds line c.args.file.now c.args.scope.now c.args.h c.args.to op (expr_view operand) c.args.w.now c.put_unary.new.w c.left_code-in-Unary.new.w
    (same_operand c.deref-in-Unary.result.now operand c.args.scope.now c.args.h (λ x. i.unary (site line (suc c.args.h) c.args.scope.now) op c.args.to x) c.args.w.now c.put_unary.new.w c.deref-in-Unary.ensures c.in_ok-put_unary-in-Unary.ensures)
    (same_left c.deref-in-Unary-2.result.now operand c.args.file.now c.args.scope.now c.args.h c.put_unary.new.w c.left_code-in-Unary.new.w c.deref-in-Unary-2.ensures a))) c.left_code-in-Unary.ensures

pub expressions::expr_code-returns-in_ok-put_skip_unless-in-And : goal.expressions::expr_code-returns-in_ok-put_skip_unless-in-And
expressions::expr_code-returns-in_ok-put_skip_unless-in-And rank c =
    let line = c.args.expr.now.line in
    let left = c.in-Binary.left.value in
    let right = c.in-Binary.right.value in
    on_ok_weaker c.expr_code-in-And-2.result (λ a. seen_adds c.args.expr.now (t.binary line t.and_ (expr_view left) (expr_view right)) c.args.file.now c.args.scope.now c.args.h c.args.to _ _
    (binary_seen c.args.expr.now c.in-Binary.op c.in-Binary.left c.in-Binary.right c.in-Binary.is ∙ ap (λ (op : BinOp). t.binary line (binary_view op) (expr_view left) (expr_view right)) c.in-And.is)
    (and_adds line c.args.file.now c.args.scope.now c.args.h c.args.to (expr_view left) (expr_view right) c.len-end.result c.args.w.now c.put_settle-in-And.new.w c.expr_code-in-And.new.w c.put_skip_unless.new.w c.expr_code-in-And-2.new.w
    c.in_ok-put_settle-in-And.ensures c.len-end.ensures
    (same_code c.deref-in-And.result.now right c.args.file.now c.args.scope.now c.args.h c.args.h c.put_settle-in-And.new.w c.expr_code-in-And.new.w c.deref-in-And.ensures c.in_ok-expr_code-in-And.ensures)
    c.in_ok-put_skip_unless-in-And.ensures
    (same_code c.deref-in-And-2.result.now left c.args.file.now c.args.scope.now c.args.h c.args.h c.put_skip_unless.new.w c.expr_code-in-And-2.new.w c.deref-in-And-2.ensures a))) c.expr_code-in-And-2.ensures

pub expressions::expr_code-returns-in_ok-put_skip_if-in-Or : goal.expressions::expr_code-returns-in_ok-put_skip_if-in-Or
expressions::expr_code-returns-in_ok-put_skip_if-in-Or rank c =
    let line = c.args.expr.now.line in
    let left = c.in-Binary.left.value in
    let right = c.in-Binary.right.value in
    on_ok_weaker c.expr_code-in-Or-2.result (λ a. seen_adds c.args.expr.now (t.binary line t.or_ (expr_view left) (expr_view right)) c.args.file.now c.args.scope.now c.args.h c.args.to _ _
    (binary_seen c.args.expr.now c.in-Binary.op c.in-Binary.left c.in-Binary.right c.in-Binary.is ∙ ap (λ (op : BinOp). t.binary line (binary_view op) (expr_view left) (expr_view right)) c.in-Or.is)
    (or_adds line c.args.file.now c.args.scope.now c.args.h c.args.to (expr_view left) (expr_view right) c.len-end-in-Or.result c.args.w.now c.put_settle-in-Or.new.w c.expr_code-in-Or.new.w c.put_skip_if.new.w c.expr_code-in-Or-2.new.w
    c.in_ok-put_settle-in-Or.ensures c.len-end-in-Or.ensures
    (same_code c.deref-in-Or.result.now right c.args.file.now c.args.scope.now c.args.h c.args.h c.put_settle-in-Or.new.w c.expr_code-in-Or.new.w c.deref-in-Or.ensures c.in_ok-expr_code-in-Or.ensures)
    c.in_ok-put_skip_if-in-Or.ensures
    (same_code c.deref-in-Or-2.result.now left c.args.file.now c.args.scope.now c.args.h c.args.h c.put_skip_if.new.w c.expr_code-in-Or-2.new.w c.deref-in-Or-2.ensures a))) c.expr_code-in-Or-2.ensures

pub expressions::expr_code-returns-in_ok-right_code-in_default : goal.expressions::expr_code-returns-in_ok-right_code-in_default
expressions::expr_code-returns-in_ok-right_code-in_default rank c =
    let line = c.args.expr.now.line in
    let left = c.in-Binary.left.value in
    let right = c.in-Binary.right.value in
    let op = c.in-Binary.op in
    on_ok_weaker c.left_code-in_default.result (λ a. seen_adds c.args.expr.now (t.binary line (binary_view op) (expr_view left) (expr_view right)) c.args.file.now c.args.scope.now c.args.h c.args.to _ _ (binary_seen c.args.expr.now op c.in-Binary.left c.in-Binary.right c.in-Binary.is)
    (binary_adds line c.args.file.now c.args.scope.now c.args.h c.args.to op (expr_view left) (expr_view right) c.in_ok-next-in_default.field-0 c.args.w.now c.put_binary.new.w c.right_code-in_default.new.w c.left_code-in_default.new.w
    c.in_default.not-And c.in_default.not-Or c.in_ok-next-in_default.ensures
    (same_operands c.deref-in_default.result.now left c.deref-in_default-2.result.now right c.args.scope.now c.args.h (λ x y. i.binary (site line (c.args.h + 2) c.args.scope.now) (binary_view op) c.args.to x y) c.args.w.now c.put_binary.new.w c.deref-in_default.ensures c.deref-in_default-2.ensures c.in_ok-put_binary-in_default.ensures)
    (same_right c.deref-in_default-3.result.now right c.args.file.now c.args.scope.now c.in_ok-next-in_default.field-0 c.put_binary.new.w c.right_code-in_default.new.w c.deref-in_default-3.ensures c.in_ok-right_code-in_default.ensures)
    (same_left c.deref-in_default-4.result.now left c.args.file.now c.args.scope.now c.args.h c.right_code-in_default.new.w c.left_code-in_default.new.w c.deref-in_default-4.ensures a))) c.left_code-in_default.ensures

pub expressions::expr_code-returns-in-Paren : goal.expressions::expr_code-returns-in-Paren
expressions::expr_code-returns-in-Paren rank c =
    on_ok_weaker c.expr_code-in-Paren.result (λ a. seen_adds c.args.expr.now (t.paren c.args.expr.now.line (expr_view c.in-Paren.inner.value)) c.args.file.now c.args.scope.now c.args.h c.args.to _ _ (paren_seen c.args.expr.now c.in-Paren.inner c.in-Paren.is)
    (same_code c.deref-in-Paren.result.now c.in-Paren.inner.value c.args.file.now c.args.scope.now c.args.h c.args.to c.args.w.now c.expr_code-in-Paren.new.w c.deref-in-Paren.ensures a)) c.expr_code-in-Paren.ensures

pub expressions::tail_code-returns-in-Dots : goal.expressions::tail_code-returns-in-Dots
expressions::tail_code-returns-in-Dots rank c = on_ok_weaker c.put_all_dots.result (λ a. seen_tail c.args.expr.now _ c.args.file.now c.args.scope.now c.args.h _ _ (dots_seen c.args.expr.now c.in-Dots.is) a) c.put_all_dots.ensures

pub expressions::tail_code-returns-in_ok-exprs_code-in-Call : goal.expressions::tail_code-returns-in_ok-exprs_code-in-Call
expressions::tail_code-returns-in_ok-exprs_code-in-Call rank c =
    let line = c.args.expr.now.line in
    let callee = c.in-Call.callee.value in
    let args = exprs_of (map expr_view c.as_slice-args.result.now) in
    on_ok_weaker c.expr_code.result (λ a. seen_tail c.args.expr.now (t.call line (expr_view callee) args) c.args.file.now c.args.scope.now c.args.h _ _
    (call_seen c.args.expr.now c.in-Call.callee c.in-Call.args c.in-Call.is ∙ ap (λ (es : List Expr). t.call line (expr_view callee) (exprs_of (map expr_view es))) (sym c.as_slice-args.ensures))
    (call_adds line c.args.file.now c.args.scope.now c.args.h 0 (expr_view callee) args _ c.in_ok-next-in-Call.field-0 c.args.w.now c.put_tail_call.new.w c.exprs_code.new.w c.expr_code.new.w
    c.in_ok-next-in-Call.ensures c.in_ok-put_tail_call-in-Call.ensures c.in_ok-exprs_code-in-Call.ensures
    (same_code c.deref.result.now callee c.args.file.now c.args.scope.now c.args.h c.args.h c.exprs_code.new.w c.expr_code.new.w c.deref.ensures a))) c.expr_code.ensures

pub expressions::tail_code-returns-in_ok-put_method-in-Method : goal.expressions::tail_code-returns-in_ok-put_method-in-Method
expressions::tail_code-returns-in_ok-put_method-in-Method rank c =
    let line = c.args.expr.now.line in
    let object = c.in-Method.object.value in
    let args = exprs_of (map expr_view c.as_slice-args-in-Method.result.now) in
    let second = c.in_ok-second-in-Method.second in
    on_ok_weaker c.expr_code-in-Method.result (λ a. seen_tail c.args.expr.now (t.method line (expr_view object) c.in-Method.name args) c.args.file.now c.args.scope.now c.args.h _ _
    (method_seen c.args.expr.now c.in-Method.object c.in-Method.name c.in-Method.args c.in-Method.is ∙ ap (λ (es : List Expr). t.method line (expr_view object) c.in-Method.name (exprs_of (map expr_view es))) (sym c.as_slice-args-in-Method.ensures))
    (method_adds line c.args.file.now c.args.scope.now c.args.h 0 (expr_view object) args _ _ second c.in_ok-next-in-Method.field-0 c.args.w.now c.put_method_tail_call.new.w c.exprs_code-in-Method.new.w c.put_method.new.w c.expr_code-in-Method.new.w
    c.in_ok-second-in-Method.ensures c.in_ok-next-in-Method.ensures c.in_ok-put_method_tail_call-in-Method.ensures c.in_ok-exprs_code-in-Method.ensures c.in_ok-put_method-in-Method.ensures
    (same_code c.deref-in-Method.result.now object c.args.file.now c.args.scope.now second second c.put_method.new.w c.expr_code-in-Method.new.w c.deref-in-Method.ensures a))) c.expr_code-in-Method.ensures

pub expressions::exprs_code-exprs-preserved : goal.expressions::exprs_code-exprs-preserved
expressions::exprs_code-exprs-preserved rank c = (
  omega (arith, c.exprs.invariant.0),
  list_next c.args.exprs.now c.exprs.at c.in_ok-slot_at.field-0 c.args.h c.index-exprs-at.result c.args.file.now c.args.scope.now c.args.w.now c.exprs.w c.listed_code.new.w c.exprs-test.true c.exprs.invariant.0 c.index-exprs-at.is c.in_ok-slot_at.ensures c.exprs.invariant.1 c.in_ok-listed_code.ensures,
)

pub tables::fields_code-fields-preserved : goal.tables::fields_code-fields-preserved
tables::fields_code-fields-preserved rank c =
    let left = one_next c.args.line c.args.file.now c.args.scope.now c.args.table c.args.fields.now c.fields.number c.in_ok-number-2.number c.fields.at c.index-fields-at.result c.args.w.now c.fields.w c.field_code.new.w c.fields.invariant.1 c.fields-test.true c.index-fields-at.is c.in_ok-number-2.ensures.count c.in_ok-number-2.ensures.code in
    (some_number c.args.line c.args.file.now c.args.scope.now c.args.table c.args.fields.now c.in_ok-number-2.number (c.fields.at - 1) c.args.w.now c.field_code.new.w left, left)

pub tables::field_code-returns-in_ok-item_code-in-Item : goal.tables::field_code-returns-in_ok-item_code-in-Item
tables::field_code-returns-in_ok-item_code-in-Item rank c = record {
  count = item_counts c.args.field.now c.in-Item.value (c.args.behind - 1) c.args.behind c.in-Item.is (omega (arith, c.requires));
  code = item_adds c.args.line c.args.file.now c.args.scope.now c.args.table c.args.field.now c.in-Item.value (c.args.behind - 1) c.args.behind c.args.last c.args.w.now c.item_code.new.w
      c.in-Item.is (omega (arith, c.requires)) c.in_ok-item_code-in-Item.ensures;
}

pub functions::function_code-returns : goal.functions::function_code-returns
functions::function_code-returns rank c =
    on_ok_weaker c.close.result (λ a. closure_adds c.args.to c.in_ok-proto.proto (func_inner (func_view c.args.func.now) c.args.file.now c.args.scope.now) c.args.w.now c.function.new.w c.close.new.w c.in_ok-proto.ensures.same c.in_ok-proto.ensures.made a) c.close.ensures

pub functions::function-returns : goal.functions::function-returns
functions::function-returns rank c = record {
  made = subst (λ n. IsMade n (func_inner (func_view c.args.func.now) c.args.file.now c.args.scope.now) c.close.new.self) (sym c.in_ok-number.ensures.number)
      (function_is c.args.func.now c.args.file.now c.args.scope.now c.in_ok-inside.inside _ c.open-around.result c.args.w.now c.open-around.new.self c.body_code.new.w c.close.new.self
      (head_as c.args.func.now c.args.file.now c.in_ok-copy.field-0 c.args.scope.now c.in_ok-params.params c.from_vec-captures.result
      c.in_ok-copy.ensures (c.in_ok-params.ensures ∙ zero-add c.len.result ∙ c.len.ensures) (c.from_vec-captures.ensures ∙ c.in_ok-places.ensures ∙ ap (λ (names : List Bytes). cell_places c.args.scope.now names) c.in_ok-names.ensures))
      (c.in_ok-inside.ensures ∙ ap (λ (names : List Bytes). around (cell_names c.args.scope.now names)) c.in_ok-names.ensures)
      c.open-around.ensures c.in_ok-body_code.ensures c.in_ok-number.ensures.ok);
  same = function_inside _ c.open-around.result _ c.args.w.now c.open-around.new.self c.body_code.new.w c.close.new.self c.open-around.ensures c.in_ok-body_code.ensures c.in_ok-number.ensures.ok;
}

pub functions::body_code-returns : goal.functions::body_code-returns
functions::body_code-returns rank c =
    let func = c.args.func.now in
    let scope = c.args.scope.now in
    let block = block_view (out-Func c.args.func.now).body in
    let captured : c.block_names.new.names ≡ captured_in block = c.in_ok-block_names.ensures ∙ ap (λ (after : List Bytes). block_names false block after) c.new-captured.ensures in
    on_ok_weaker c.put_cells.result (λ takes. body_takes func c.args.file.now scope c.declare.new.scope c.block_code.new.scope c.put_cells.new.scope (length c.as_slice-params.result.now)
    c.args.w.now c.leave.new.w c.block_code.new.w c.put_cells.new.w
    (c.in_ok-declare.ensures ∙ ap (λ (xs : List Bytes). declared xs c.block_names.new.names scope) c.as_slice-params.ensures ∙ ap (λ (cs : List Bytes). declared (out-Func func).params cs scope) captured)
    c.in_ok-block_code.ensures.scope (ap (λ (xs : List Bytes). length xs) (sym c.as_slice-params.ensures)) c.in_ok-leave.ensures c.in_ok-block_code.ensures.code takes) c.put_cells.ensures

pub expressions::exprs_code-returns : goal.expressions::exprs_code-returns
expressions::exprs_code-returns rank c = list_whole c.args.exprs.now c.exprs.at c.args.h c.args.file.now c.args.scope.now c.args.w.now c.exprs.w c.exprs-test.false c.exprs.invariant.1

pub tables::fields_code-returns : goal.tables::fields_code-returns
tables::fields_code-returns rank c =
    none_left c.args.line c.args.file.now c.args.scope.now c.args.table c.args.fields.now c.fields.number c.fields.at c.args.w.now c.fields.w c.fields.invariant.1 c.fields-test.false

-- ---- statements

-- blocks

pub blocks::block_code-returns-clause-scope : goal.blocks::block_code-returns-clause-scope
blocks::block_code-returns-clause-scope rank c =
    on_ok_weaker c.stats_code.result (λ h. (h [] c.args.scope.now (c.in_ok-enter_block.ensures ∙ ap (λ after. scope_at_end (block_view c.args.block.now) after c.args.scope.now) c.new.ensures)).0) c.stats_code.ensures

pub blocks::block_code-returns-clause-code : goal.blocks::block_code-returns-clause-code
blocks::block_code-returns-clause-code rank c =
    on_ok_weaker c.stats_code.result (λ h. (h [] c.args.scope.now (c.in_ok-enter_block.ensures ∙ ap (λ after. scope_at_end (block_view c.args.block.now) after c.args.scope.now) c.new.ensures)).1) c.stats_code.ensures

pub blocks::stats_code-stats-init : goal.blocks::stats_code-stats-init
blocks::stats_code-stats-init rank c =
    (omega arith, c.len-end.ensures, block_begins c.as_slice-stats.result.now c.args.exit c.args.file.now c.args.scope.now c.args.w.now)

pub blocks::stats_code-stats-preserved : goal.blocks::stats_code-stats-preserved
blocks::stats_code-stats-preserved rank c =
    let more : c.stats.at ≡ suc (c.stats.at - 1) = omega arith in
    let from = subst (λ n. BlockFrom n c.as_slice-stats.result.now c.args.exit c.args.file.now c.args.scope.now c.stats.scope c.args.w.now c.stats.w) more c.stats.invariant.2 in (
      omega arith,
      c.stats.invariant.1,
      block_step c.as_slice-stats.result.now (c.stats.at - 1) c.index-stats-at.result c.args.exit c.in_ok-behind.behind c.args.file.now c.args.scope.now c.stats.scope c.stat_code.new.scope
          c.args.w.now c.stats.w c.stat_code.new.w c.tick.new.w (omega arith) c.index-stats-at.is
          (omega (arith, c.in_ok-behind.ensures, c.in_ok-since.ensures, c.stats.invariant.1))
          from c.in_ok-stat_code.ensures c.in_ok-tick.ensures,
    )

pub blocks::stats_code-returns : goal.blocks::stats_code-returns
blocks::stats_code-returns rank c =
    let none : c.stats.at ≡ zero = omega arith in
    stats_put c.args.block.now c.as_slice-stats.result.now c.args.exit c.args.file.now c.args.scope.now c.stats.scope c.args.w.now c.stats.w c.as_slice-stats.ensures
    (subst (λ n. BlockFrom n c.as_slice-stats.result.now c.args.exit c.args.file.now c.args.scope.now c.stats.scope c.args.w.now c.stats.w) none c.stats.invariant.2)

-- loops

pub loops::while_code-mend_back-requires : goal.loops::while_code-mend_back-requires
loops::while_code-mend_back-requires rank c =
    while_long c.left_slot.result c.len-end.result c.in_ok-since.field-0 _ (block_view c.args.block.now) c.args.file.now c.args.scope.now c.args.w.now c.put_back.new.w c.left_code.new.w c.block_code.new.w
    c.len-end.ensures c.in_ok-put_back.ensures c.in_ok-left_code.ensures c.in_ok-block_code.ensures.code

pub loops::while_code-returns-clause-code : goal.loops::while_code-returns-clause-code
loops::while_code-returns-clause-code rank c =
    on_ok_weaker c.skip.result (λ h. while_put c.args.line (expr_view c.args.test.now) (block_view c.args.block.now) c.args.file.now c.args.scope.now
    c.slots-h.result c.left_slot.result c.len-end.result c.len-head.result c.in_ok-since.field-0 c.in_ok-since-2.field-0
    c.args.w.now c.put_back.new.w c.left_code.new.w c.block_code.new.w c.mend_back.new.w c.skip.new.w
    c.slots-h.ensures c.left_slot.ensures c.len-end.ensures c.len-head.ensures
    c.in_ok-put_back.ensures c.in_ok-left_code.ensures c.in_ok-since.ensures c.in_ok-block_code.ensures.code c.in_ok-mend_back.ensures c.in_ok-since-2.ensures h)
    c.skip.ensures

pub loops::repeat_code-mend_back-requires : goal.loops::repeat_code-mend_back-requires
loops::repeat_code-mend_back-requires rank c =
    repeat_mends (expr_view c.args.test.now) (block_view c.args.block.now) c.args.file.now c.args.scope.now c.enter_repeat.new.scope c.stats_code.new.scope c.left_slot.result c.len-end.result c.in_ok-since.field-0 _
    c.args.w.now c.put_back.new.w c.left_code.new.w c.stats_code.new.w
    c.in_ok-enter_repeat.ensures c.len-end.ensures c.in_ok-put_back.ensures c.in_ok-left_code.ensures c.in_ok-stats_code.ensures

pub loops::repeat_code-returns-clause-scope : goal.loops::repeat_code-returns-clause-scope
loops::repeat_code-returns-clause-scope rank c =
    on_ok_weaker c.tick.result (λ h. repeat_leaves (expr_view c.args.test.now) (block_view c.args.block.now) c.args.file.now c.args.scope.now c.enter_repeat.new.scope c.stats_code.new.scope c.in_ok-since.field-0
    c.left_code.new.w c.stats_code.new.w c.in_ok-enter_repeat.ensures c.in_ok-stats_code.ensures)
    c.tick.ensures

pub loops::repeat_code-returns-clause-code : goal.loops::repeat_code-returns-clause-code
loops::repeat_code-returns-clause-code rank c =
    on_ok_weaker c.tick.result (λ h. repeat_put c.args.line (expr_view c.args.test.now) (block_view c.args.block.now) c.args.file.now c.args.scope.now c.enter_repeat.new.scope c.stats_code.new.scope
    c.slots-h.result c.left_slot.result c.len-end.result c.in_ok-since.field-0
    c.args.w.now c.put_back.new.w c.left_code.new.w c.stats_code.new.w c.mend_back.new.w c.tick.new.w
    c.in_ok-enter_repeat.ensures c.slots-h.ensures c.left_slot.ensures c.len-end.ensures
    c.in_ok-put_back.ensures c.in_ok-left_code.ensures c.in_ok-since.ensures c.in_ok-stats_code.ensures c.in_ok-mend_back.ensures h)
    c.tick.ensures

pub loops::numeric_code-returns-clause-code : goal.loops::numeric_code-returns-clause-code
loops::numeric_code-returns-clause-code rank c =
    on_ok_weaker c.expr_code-2.result (λ h. numeric_put c.args.name.now (expr_view c.args.first.now) (expr_view c.args.limit.now) (expr_option c.args.step.now) (block_view c.args.block.now) c.args.line c.args.file.now c.args.scope.now c.count_code.new.scope
    c.slots-h.result c.in_ok-second.second c.in_ok-next.field-0
    c.args.w.now c.count_code.new.w c.step_code.new.w c.expr_code.new.w c.expr_code-2.new.w
    c.slots-h.ensures c.in_ok-second.ensures c.in_ok-next.ensures c.in_ok-count_code.ensures.scope
    c.in_ok-count_code.ensures.code c.in_ok-step_code.ensures c.in_ok-expr_code.ensures h)
    c.expr_code-2.ensures

pub loops::count_code-mend_back-requires : goal.loops::count_code-mend_back-requires
loops::count_code-mend_back-requires rank c =
    count_mends c.slots-h.result c.len-end.result _ c.args.w.now c.put_back.new.w c.turn_code.new.w c.len-end.ensures c.in_ok-put_back.ensures c.in_ok-turn_code.ensures.code

pub loops::count_code-returns-clause-code : goal.loops::count_code-returns-clause-code
loops::count_code-returns-clause-code rank c =
    on_ok_weaker c.for_begin.result (λ h. count_put c.args.line c.args.scope.now (site_view c.site_of-site.result) c.slots-h.result c.in_ok-slot_at.field-0 c.len-end.result c.in_ok-since.field-0
    (turn_code (c.args.name.now ∷ []) (block_view c.args.block.now) 1 c.args.file.now c.args.scope.now)
    c.args.w.now c.put_back.new.w c.turn_code.new.w c.mend_back.new.w c.for_begin.new.w
    c.slots-h.ensures c.in_ok-slot_at.ensures c.site_of-site.ensures c.len-end.ensures
    c.in_ok-put_back.ensures
    (subst (λ xs. Adds (turn_code xs (block_view c.args.block.now) 1 c.args.file.now c.args.scope.now) c.put_back.new.w c.turn_code.new.w) c.from_ref.ensures.value c.in_ok-turn_code.ensures.code)
    c.in_ok-mend_back.ensures c.in_ok-since.ensures h)
    c.for_begin.ensures

pub loops::turn_code-returns-clause-scope : goal.loops::turn_code-returns-clause-scope
loops::turn_code-returns-clause-scope rank c =
    (turn_put c.args.names.now (block_view c.args.block.now) c.args.exit (length c.args.names.now) c.args.file.now c.args.scope.now c.enter_turn.new.scope c.block_code.new.scope c.put_cells.new.scope c.leave_numbers.new.scope
    c.args.w.now c.block_code.new.w c.put_cells.new.w c.in_ok-enter_turn.ensures c.in_ok-block_code.ensures.code c.in_ok-block_code.ensures.scope refl c.in_ok-put_cells.ensures c.leave_numbers.ensures).0

pub loops::turn_code-returns-clause-code : goal.loops::turn_code-returns-clause-code
loops::turn_code-returns-clause-code rank c =
    (turn_put c.args.names.now (block_view c.args.block.now) c.args.exit (length c.args.names.now) c.args.file.now c.args.scope.now c.enter_turn.new.scope c.block_code.new.scope c.put_cells.new.scope c.leave_numbers.new.scope
    c.args.w.now c.block_code.new.w c.put_cells.new.w c.in_ok-enter_turn.ensures c.in_ok-block_code.ensures.code c.in_ok-block_code.ensures.scope refl c.in_ok-put_cells.ensures c.leave_numbers.ensures).1

pub loops::generic_code-mend_back-requires : goal.loops::generic_code-mend_back-requires
loops::generic_code-mend_back-requires rank c =
    generic_mends (site_view c.site_of-site.result) c.slots-h.result c.len-end.result c.in_ok-slots_of.field-0 c.in_ok-since.field-0 c.args.names.now (block_view c.args.block.now) c.args.file.now c.args.scope.now
    c.args.w.now c.put_back.new.w c.put_each.new.w c.turn_code.new.w
    c.len-end.ensures c.in_ok-put_back.ensures c.in_ok-put_each.ensures c.in_ok-turn_code.ensures.code

pub loops::generic_code-returns-clause-code : goal.loops::generic_code-returns-clause-code
loops::generic_code-returns-clause-code rank c =
    on_ok_weaker c.exprs_code.result (λ h. generic_put c.args.line c.args.names.now (exprs_of (map expr_view c.args.values.now)) (block_view c.args.block.now) c.args.file.now c.args.scope.now c.turn_code.new.scope (site_view c.site_of-site.result)
    c.slots-h.result c.in_ok-slot_at.field-0 c.len-end.result c.len-head.result c.in_ok-since.field-0 c.in_ok-since-2.field-0 c.in_ok-slots_of.field-0 c.in_ok-count_of.field-0 c.is_tailed.result
    c.args.w.now c.put_back.new.w c.put_each.new.w c.turn_code.new.w c.mend_back.new.w c.skip.new.w c.put_fitted.new.w c.exprs_code.new.w
    c.slots-h.ensures c.in_ok-slot_at.ensures c.site_of-site.ensures c.len-end.ensures c.len-head.ensures
    c.in_ok-slots_of.ensures c.in_ok-count_of.ensures c.is_tailed.ensures c.in_ok-turn_code.ensures.scope
    c.in_ok-put_back.ensures c.in_ok-put_each.ensures c.in_ok-since.ensures c.in_ok-turn_code.ensures.code c.in_ok-mend_back.ensures c.in_ok-since-2.ensures c.in_ok-skip.ensures c.in_ok-put_fitted.ensures h)
    c.exprs_code.ensures

-- branches

pub branches::arm_code-returns-clause-code : goal.branches::arm_code-returns-clause-code
branches::arm_code-returns-clause-code rank c =
    on_ok_weaker c.left_code.result (λ h. arm_put (arm_view c.args.arm.now) (expr_view (out-Arm c.args.arm.now).test) (block_view (out-Arm c.args.arm.now).block) c.args.exit c.args.file.now c.args.scope.now c.block_code.new.scope
    c.slots-h.result c.left_slot.result c.args.end c.len-rest.result c.in_ok-since.field-0 c.in_ok-sum.field-0 c.in_ok-since-2.field-0
    c.args.w.now c.put_skip_over.new.w c.block_code.new.w c.skip_unless.new.w c.left_code.new.w
    (arm_opened c.args.arm.now) c.slots-h.ensures c.in_ok-block_code.ensures.scope c.left_slot.ensures c.len-rest.ensures
    c.in_ok-put_skip_over.ensures c.in_ok-since.ensures c.in_ok-sum.ensures c.in_ok-block_code.ensures.code c.in_ok-since-2.ensures c.in_ok-skip_unless.ensures h)
    c.left_code.ensures

pub branches::if_code-arms-preserved : goal.branches::if_code-arms-preserved
branches::if_code-arms-preserved rank c =
    let more : c.arms.at ≡ suc (c.arms.at - 1) = omega arith in
    let last = else_of (block_option c.args.last.now) in
    let there = subst (λ (sc : Scope). AddsArm (arm_view c.index-arms-at.result) c.args.exit c.args.file.now sc c.len-end.result c.arms.w c.arm_code.new.w) c.arms.invariant.2 c.in_ok-arm_code.ensures.code in
    let from = subst (λ n. Adds (arms_code (arms_of (map arm_view (drop n c.args.arms.now)) last) c.args.exit c.args.file.now c.args.scope.now) c.args.w.now c.arms.w) more c.arms.invariant.3 in (
      omega arith,
      c.arms.invariant.1,
      c.in_ok-arm_code.ensures.scope ∙ c.arms.invariant.2,
      arms_step c.args.arms.now (c.arms.at - 1) c.index-arms-at.result last c.args.exit c.args.file.now c.args.scope.now c.len-end.result c.args.w.now c.arms.w c.arm_code.new.w (omega arith) c.index-arms-at.is c.arms.invariant.1 from there,
    )

pub branches::if_code-returns-clause-code : goal.branches::if_code-returns-clause-code
branches::if_code-returns-clause-code rank c =
    let none : c.arms.at ≡ zero = omega arith in
    subst (λ n. Adds (arms_code (arms_of (map arm_view (drop n c.args.arms.now)) (else_of (block_option c.args.last.now))) c.args.exit c.args.file.now c.args.scope.now) c.args.w.now c.arms.w) none c.arms.invariant.3

-- assignments

pub assignments::assign_code-returns : goal.assignments::assign_code-returns
assignments::assign_code-returns rank c =
    on_ok_weaker c.targets_code.result (λ h. assign_put c.args.line (exprs_of (map expr_view c.args.targets.now)) (exprs_of (map expr_view c.args.values.now)) c.args.file.now c.args.scope.now
    c.slots-at.result c.in_ok-from.from c.in_ok-slot_at.field-0 c.in_ok-slots_of.field-0 c.in_ok-count_of.field-0 (length c.args.targets.now) c.is_tailed.result
    c.args.w.now c.put_stores.new.w c.put_fitted.new.w c.exprs_code.new.w c.targets_code.new.w
    (sym c.in_default.is ∙ c.own_slot.ensures.slot) c.slots-at.ensures c.in_ok-from.ensures (sym (counted c.args.targets.now)) c.in_ok-slot_at.ensures c.in_ok-slots_of.ensures c.in_ok-count_of.ensures c.is_tailed.ensures
    c.in_ok-put_stores.ensures c.in_ok-put_fitted.ensures c.in_ok-exprs_code.ensures h)
    c.targets_code.ensures

pub assignments::targets_code-targets-init : goal.assignments::targets_code-targets-init
assignments::targets_code-targets-init rank c = (omega arith, targets_begin c.args.targets.now c.args.file.now c.args.scope.now c.args.end c.args.w.now)

pub assignments::targets_code-targets-preserved : goal.assignments::targets_code-targets-preserved
assignments::targets_code-targets-preserved rank c =
    let more : c.targets.at ≡ suc (c.targets.at - 1) = omega arith in (
      omega arith,
      targets_step c.args.targets.now (c.targets.at - 1) c.index-targets-at.result c.args.file.now c.args.scope.now c.args.end c.targets.h c.saturating_sub-h.result
          c.args.w.now c.targets.w c.target_code.new.w (omega arith) c.index-targets-at.is (omega (arith, c.saturating_sub-h.ensures, c.width.ensures))
          (subst (λ n. TargetsFrom n c.args.targets.now c.args.file.now c.args.scope.now c.args.end c.targets.h c.args.w.now c.targets.w) more c.targets.invariant.1)
          c.in_ok-target_code.ensures,
    )

pub assignments::targets_code-returns : goal.assignments::targets_code-returns
assignments::targets_code-returns rank c =
    let none : c.targets.at ≡ zero = omega arith in
    targets_end c.args.targets.now c.args.file.now c.args.scope.now c.args.end c.targets.h c.args.w.now c.targets.w
    (subst (λ n. TargetsFrom n c.args.targets.now c.args.file.now c.args.scope.now c.args.end c.targets.h c.args.w.now c.targets.w) none c.targets.invariant.1)

-- single statements

pub statements::local_code-returns : goal.statements::local_code-returns
statements::local_code-returns rank c =
    on_ok_weaker c.exprs_code.result (λ h. local_put c.args.line c.args.names.now (exprs_of (map expr_view c.args.values.now)) c.args.file.now c.args.scope.now c.put_cells.new.scope
    (length c.args.names.now) c.slots-at.result c.in_ok-slots_of.field-0 c.in_ok-count_of.field-0 c.is_tailed.result
    c.args.w.now c.put_cells.new.w c.put_fitted.new.w c.exprs_code.new.w
    refl c.in_ok-put_cells.ensures c.slots-at.ensures c.in_ok-slots_of.ensures c.in_ok-count_of.ensures c.is_tailed.ensures c.in_ok-put_fitted.ensures h)
    c.exprs_code.ensures

pub statements::function_stat_code-returns : goal.statements::function_stat_code-returns
statements::function_stat_code-returns rank c =
    on_ok_weaker c.target_code.result (λ h. function_stat_put c.args.line (expr_view c.args.target.now) (func_view c.args.func.now) c.args.file.now c.args.scope.now
    c.slots-at.result c.in_ok-from.from c.in_ok-next.field-0 c.args.w.now c.put_store.new.w c.function_code.new.w c.target_code.new.w
    c.slots-at.ensures c.in_ok-from.ensures c.in_ok-next.ensures c.in_ok-put_store.ensures c.in_ok-function_code.ensures h)
    c.target_code.ensures

pub statements::local_function_code-returns : goal.statements::local_function_code-returns
statements::local_function_code-returns rank c =
    on_ok_weaker c.load_constant.result (λ h. local_function_put c.args.line c.args.name.now (func_view c.args.func.now) c.args.file.now c.args.scope.now c.put_cells.new.scope
    c.slots.result c.saturating_sub-at.result c.args.w.now c.put_local.new.w c.function_code.new.w c.put_cells.new.w c.load_constant.new.w
    c.slots.ensures c.saturating_sub-at.ensures c.in_ok-put_local.ensures c.in_ok-function_code.ensures c.in_ok-put_cells.ensures h)
    c.load_constant.ensures

pub statements::return_code-returns : goal.statements::return_code-returns
statements::return_code-returns rank c =
    on_ok_weaker c.exprs_code.result (λ h. return_put c.args.line (exprs_of (map expr_view c.args.values.now)) c.args.file.now c.args.scope.now c.slots-h.result c.in_ok-count_of.field-0 c.is_tailed.result
    c.args.w.now c.leave.new.w c.exprs_code.new.w c.slots-h.ensures c.in_ok-count_of.ensures c.is_tailed.ensures c.in_ok-leave.ensures h)
    c.exprs_code.ensures

-- a statement is seen as the kind that it is

pub statements::stat_code-returns-in-While : goal.statements::stat_code-returns-in-While
statements::stat_code-returns-in-While rank c =
    on_both c.while_code.result (λ o a. takes_plain c.args.stat.now (t.while_loop c.args.stat.now.line (expr_view c.in-While.test) (block_view c.in-While.block)) c.args.exit c.args.file.now c.args.scope.now c.while_code.new.scope c.args.w.now c.while_code.new.w (while_seen c.args.stat.now c.in-While.test c.in-While.block c.in-While.is) (λ later scope. refl) (λ later scope. refl) o a) c.while_code.ensures.scope c.while_code.ensures.code

pub statements::stat_code-returns-in-Repeat : goal.statements::stat_code-returns-in-Repeat
statements::stat_code-returns-in-Repeat rank c =
    on_both c.repeat_code.result (λ o a. takes_plain c.args.stat.now (t.repeat_loop c.args.stat.now.line (block_view c.in-Repeat.block) (expr_view c.in-Repeat.test)) c.args.exit c.args.file.now c.args.scope.now c.repeat_code.new.scope c.args.w.now c.repeat_code.new.w (repeat_seen c.args.stat.now c.in-Repeat.block c.in-Repeat.test c.in-Repeat.is) (λ later scope. refl) (λ later scope. refl) o a) c.repeat_code.ensures.scope c.repeat_code.ensures.code

pub statements::stat_code-returns-in-Do : goal.statements::stat_code-returns-in-Do
statements::stat_code-returns-in-Do rank c =
    on_both c.block_code.result (λ o a. takes_plain c.args.stat.now (t.do_block c.args.stat.now.line (block_view c.in-Do.block)) c.args.exit c.args.file.now c.args.scope.now c.block_code.new.scope c.args.w.now c.block_code.new.w (do_seen c.args.stat.now c.in-Do.block c.in-Do.is) (λ later scope. refl) (λ later scope. refl) o a) c.block_code.ensures.scope c.block_code.ensures.code

pub statements::stat_code-returns-in-If : goal.statements::stat_code-returns-in-If
statements::stat_code-returns-in-If rank c =
    let v : List Arm → t.Stat = λ (arms : List Arm). t.if_stat c.args.stat.now.line (arms_of (map arm_view arms) (else_of (block_option c.in-If.last))) in
    on_both c.if_code.result (λ o a. takes_plain c.args.stat.now (v c.as_slice-in-If.result.now) c.args.exit c.args.file.now c.args.scope.now c.if_code.new.scope c.args.w.now c.if_code.new.w (if_seen c.args.stat.now c.in-If.arms c.in-If.last c.in-If.is ∙ ap v (sym c.as_slice-in-If.ensures)) (λ later scope. refl) (λ later scope. refl) o a) c.if_code.ensures.scope c.if_code.ensures.code

pub statements::stat_code-returns-in-GenFor : goal.statements::stat_code-returns-in-GenFor
statements::stat_code-returns-in-GenFor rank c =
    let v : List Bytes → List Expr → t.Stat = λ (names : List Bytes) (values : List Expr). t.gen_for c.args.stat.now.line names (exprs_of (map expr_view values)) (block_view c.in-GenFor.block) in
    on_both c.generic_code.result (λ o a. takes_plain c.args.stat.now (v c.as_slice-in-GenFor.result.now c.as_slice-in-GenFor-2.result.now) c.args.exit c.args.file.now c.args.scope.now c.generic_code.new.scope c.args.w.now c.generic_code.new.w
    (generic_seen c.args.stat.now c.in-GenFor.names c.in-GenFor.values c.in-GenFor.block c.in-GenFor.is ∙ ap (λ names. v names c.in-GenFor.values) (sym c.as_slice-in-GenFor.ensures) ∙ ap (λ values. v c.as_slice-in-GenFor.result.now values) (sym c.as_slice-in-GenFor-2.ensures))
    (λ later scope. refl) (λ later scope. refl) o a) c.generic_code.ensures.scope c.generic_code.ensures.code

pub statements::stat_code-returns-in-Assign : goal.statements::stat_code-returns-in-Assign
statements::stat_code-returns-in-Assign rank c =
    let v : List Expr → List Expr → t.Stat = λ (targets values : List Expr). t.assign c.args.stat.now.line (exprs_of (map expr_view targets)) (exprs_of (map expr_view values)) in
    on_ok_weaker c.assign_code.result (λ a. takes_plain c.args.stat.now (v c.as_slice.result.now c.as_slice-in-Assign.result.now) c.args.exit c.args.file.now c.args.scope.now c.args.scope.now c.args.w.now c.assign_code.new.w
    (assign_seen c.args.stat.now c.in-Assign.targets c.in-Assign.values c.in-Assign.is ∙ ap (λ targets. v targets c.in-Assign.values) (sym c.as_slice.ensures) ∙ ap (λ values. v c.as_slice.result.now values) (sym c.as_slice-in-Assign.ensures))
    (λ later scope. refl) (λ later scope. refl) refl a) c.assign_code.ensures

pub statements::stat_code-returns-in-Call : goal.statements::stat_code-returns-in-Call
statements::stat_code-returns-in-Call rank c =
    on_ok_weaker c.expr_code.result (λ a. takes_plain c.args.stat.now (t.call_stat c.args.stat.now.line (expr_view c.in-Call.call)) c.args.exit c.args.file.now c.args.scope.now c.args.scope.now c.args.w.now c.expr_code.new.w (call_stat_seen c.args.stat.now c.in-Call.call c.in-Call.is) (λ later scope. refl) (λ later scope. refl) refl
    (call_put c.args.stat.now.line (expr_view c.in-Call.call) c.args.file.now c.args.scope.now c.slots-h.result c.args.w.now c.expr_code.new.w c.slots-h.ensures a)) c.expr_code.ensures

pub statements::stat_code-returns-in-Function : goal.statements::stat_code-returns-in-Function
statements::stat_code-returns-in-Function rank c =
    on_ok_weaker c.function_stat_code.result (λ a. takes_plain c.args.stat.now (t.function_stat c.args.stat.now.line (expr_view c.in-Function.target) (func_view c.in-Function.func)) c.args.exit c.args.file.now c.args.scope.now c.args.scope.now c.args.w.now c.function_stat_code.new.w (function_stat_seen c.args.stat.now c.in-Function.target c.in-Function.func c.in-Function.is) (λ later scope. refl) (λ later scope. refl) refl a) c.function_stat_code.ensures

pub statements::stat_code-returns-in-Return : goal.statements::stat_code-returns-in-Return
statements::stat_code-returns-in-Return rank c =
    let v : List Expr → t.Stat = λ (values : List Expr). t.return_stat c.args.stat.now.line (exprs_of (map expr_view values)) in
    on_ok_weaker c.return_code.result (λ a. takes_plain c.args.stat.now (v c.as_slice-in-Return.result.now) c.args.exit c.args.file.now c.args.scope.now c.args.scope.now c.args.w.now c.return_code.new.w (return_seen c.args.stat.now c.in-Return.values c.in-Return.is ∙ ap v (sym c.as_slice-in-Return.ensures)) (λ later scope. refl) (λ later scope. refl) refl a) c.return_code.ensures

pub statements::stat_code-returns-in-Break : goal.statements::stat_code-returns-in-Break
statements::stat_code-returns-in-Break rank c =
    on_ok_weaker c.skip.result (λ a. takes_plain c.args.stat.now (t.break_stat c.args.stat.now.line) c.args.exit c.args.file.now c.args.scope.now c.args.scope.now c.args.w.now c.skip.new.w (break_seen c.args.stat.now c.in-Break.is) (λ later scope. refl) (λ later scope. refl) refl a) c.skip.ensures

pub statements::stat_code-returns-in-Local : goal.statements::stat_code-returns-in-Local
statements::stat_code-returns-in-Local rank c =
    let v : List Bytes → List Expr → t.Stat = λ (names : List Bytes) (values : List Expr). t.local c.args.stat.now.line names (exprs_of (map expr_view values)) in
    on_ok_weaker c.local_code.result (λ h. takes_seen c.args.stat.now (v c.as_slice-in-Local.result.now c.as_slice-in-Local-2.result.now) c.args.exit c.args.file.now c.args.scope.now c.local_code.new.scope c.args.w.now c.local_code.new.w
    (local_seen c.args.stat.now c.in-Local.names c.in-Local.values c.in-Local.is ∙ ap (λ names. v names c.in-Local.values) (sym c.as_slice-in-Local.ensures) ∙ ap (λ values. v c.as_slice-in-Local.result.now values) (sym c.as_slice-in-Local-2.ensures)) h) c.local_code.ensures

pub statements::stat_code-returns-in-LocalFunction : goal.statements::stat_code-returns-in-LocalFunction
statements::stat_code-returns-in-LocalFunction rank c =
    on_ok_weaker c.local_function_code.result (λ h. takes_seen c.args.stat.now (t.local_function c.args.stat.now.line c.in-LocalFunction.name (func_view c.in-LocalFunction.func)) c.args.exit c.args.file.now c.args.scope.now c.local_function_code.new.scope c.args.w.now c.local_function_code.new.w (local_function_seen c.args.stat.now c.in-LocalFunction.name c.in-LocalFunction.func c.in-LocalFunction.is) h) c.local_function_code.ensures

pub statements::stat_code-returns-in-NumFor : goal.statements::stat_code-returns-in-NumFor
statements::stat_code-returns-in-NumFor rank c =
    let v = num_for_of c.in-NumFor.name (expr_view c.in-NumFor.first) (expr_view c.in-NumFor.limit) (expr_option c.in-NumFor.step) (block_view c.in-NumFor.block) c.args.stat.now.line in
    on_both c.numeric_code.result (λ o a. takes_plain c.args.stat.now v c.args.exit c.args.file.now c.args.scope.now c.numeric_code.new.scope c.args.w.now c.numeric_code.new.w
    (numeric_seen c.args.stat.now c.in-NumFor.name c.in-NumFor.first c.in-NumFor.limit c.in-NumFor.step c.in-NumFor.block c.in-NumFor.is)
    (λ later scope. numeric_scope c.in-NumFor.name (expr_view c.in-NumFor.first) (expr_view c.in-NumFor.limit) (expr_option c.in-NumFor.step) (block_view c.in-NumFor.block) c.args.stat.now.line later scope)
    (λ later scope. numeric_same c.in-NumFor.name (expr_view c.in-NumFor.first) (expr_view c.in-NumFor.limit) (expr_option c.in-NumFor.step) (block_view c.in-NumFor.block) c.args.stat.now.line c.args.exit c.args.file.now later scope)
    o (numeric_exit c.in-NumFor.name (expr_view c.in-NumFor.first) (expr_view c.in-NumFor.limit) (expr_option c.in-NumFor.step) (block_view c.in-NumFor.block) c.args.stat.now.line c.args.exit c.args.file.now c.args.scope.now c.args.w.now c.numeric_code.new.w a)) c.numeric_code.ensures.scope c.numeric_code.ensures.code
