use Rattle.std.proofs.Common.{◌≡◌, ◌+◌, ◌<◌, ◌≤◌, ◌++◌, ◌∷◌, [], ℕ, List, Option, Some, None, Result, Ok, Err, true, false, drop, length, map, refl, sym, ap, ◌∙◌, subst, rules, arith}
use Rattle.std.proofs.lemmas.Bool.{false≢true}
use Rattle.lua_token.specs.declared.kind.Kind.TheVariants as kinds
use Rattle.lua_tree.specs.declared.stop.Fault.TheVariants as faults
use Rattle.lua_tree.specs.declared.tree.Arm.{Arm}
use Rattle.lua_tree.specs.Tree as t
use Rattle.lua_tree.specs.Words as w
use Rattle.lua_tree.specs.Words.{key}
use Rattle.lua_tree.specs.Attributes as a
use Rattle.lua_tree.specs.Reading as r
use Rattle.lua_tree.specs.Reading.{gives, stops, thens}
use Rattle.lua_tree.specs.Spelled.{kind_at}
use Rattle.lua_tree.specs.View.{arm_view, block_view, expr_view, exprs_view, stat_view}
use Rattle.lua_tree.specs.Answer.{counts, limits}
use Rattle.lua_tree.proofs.Taking.{expect_at, just, keeps_deep, keeps_free, keeps_many, look_at, name_at, name_passed, passed_at, passes_deep, passes_many, take_at}
use Rattle.lua_tree.proofs.Marks.{key_stands, name_stands, no_key, no_name_there, str_stands}
use Rattle.lua_tree.proofs.Others as others
use Rattle.lua_tree.proofs.Others.{look_as}
use Rattle.lua_tree.proofs.Descent.{at_counts, ended, faulted, forgotten, gave, given, next, moved, not_there, of_part, onward, part_faulted, part_stopped, stopped}
use Rattle.lua_tree.proofs.Lists as lists
use Rattle.lua_tree.proofs.KindWords as by_kind
use Rattle.lua_tree.proofs.KindWords.{word_for}
use Rattle.lua_tree.proofs.StatementSteps as st
use Rattle.lua_tree.proofs.SuffixSteps as sx
use Rattle.lua_tree.proofs.LoopSteps as lp
use Rattle.lua_tree.proofs.TargetSteps as tg
use Rattle.lua_tree.specs.Answer.{args_view, block_tall, declares, expr_tall, exprs_tall, NoLocalAt, place_of}
use Rattle.lua_tree.specs.Begins.{begins_suffix, opens_arguments, shape_view}
use Rattle.lua_tree.specs.View.{fields_view}
use Rattle.lua_tree.specs.declared.tree.Expr as expr_type
use Rattle.lua_tree.specs.declared.tree.Expr.{Expr}
use Rattle.lua_tree.proofs.TableSteps as tb
use Rattle.lua_tree.proofs.FieldSteps as fd
use Rattle.lua_tree.specs.Answer.{as_part}
use Rattle.lua_tree.specs.View.{field_view}
use Rattle.lua_tree.proofs.Descent.{greater_is}
use Rattle.lua_tree.specs.Grammar.{right_level, unary_level}
use Rattle.lua_tree.specs.View.{binary_view}
use Rattle.lua_tree.proofs.ExpressionSteps as es
use Rattle.lua_tree.proofs.BodySteps as bd
use Rattle.lua_tree.specs.Begins.{hidden_of}
use Rattle.lua_tree.specs.View.{func_view}
use Rattle.lua_tree.proofs.+grammar.Goals as goal

-- ---- statements

pub statements::do_statement-returns-in_err-may_nest-clause-answer : goal.statements::do_statement-returns-in_err-may_nest-clause-answer
statements::do_statement-returns-in_err-may_nest-clause-answer rank c words sp =
    let h = key_stands sp c.args.at kinds.Do tt c.requires.here in
    faulted stat_view c.args.at words faults.TooDeep c.args.at (200 < c.args.scope.depth + 1) c.in_err-may_nest.field-0.0 c.from_residual.result c.from_residual.ensures.1 c.in_err-may_nest.ensures.err
    (λ over. look_at h.is (passed_at h.is (passes_deep _ (omega (arith, over)))))

pub statements::do_statement-returns-in_err-body-clause-answer : goal.statements::do_statement-returns-in_err-body-clause-answer
statements::do_statement-returns-in_err-body-clause-answer rank c words sp =
    let h = key_stands sp c.args.at kinds.Do tt c.requires.here in
    let d = at_counts block_view r.block _ _ (c.args.at + 1) words (Err c.in_err-body.field-0.0) c.deeper.ensures.counts (c.in_err-body.ensures.answer words sp) in
    stopped block_view stat_view (c.args.at + 1) c.args.at words c.in_err-body.field-0.0 c.from_residual-in_err-body.result c.from_residual-in_err-body.ensures.1
    (λ x us e. look_at h.is (take_at h.is (keeps_deep _ (omega (arith, c.in_ok-may_nest.ensures.ok))) (next c.args.at words (stops e)))) d

pub statements::do_statement-returns-in_err-at-clause-answer : goal.statements::do_statement-returns-in_err-at-clause-answer
statements::do_statement-returns-in_err-at-clause-answer rank c words sp =
    let h = key_stands sp c.args.at kinds.Do tt c.requires.here in
    let d = at_counts block_view r.block _ _ (c.args.at + 1) words (Ok c.in_ok-body.body) c.deeper.ensures.counts (c.in_ok-body.ensures.answer words sp) in
    let end = c.in_ok-body.body.at in
    faulted stat_view c.args.at words faults.Unexpected end (kind_at c.args.source.now.tokens.now end ≡ Some kinds.End → ⊥) c.in_err-at.field-0.0 c.from_residual-in_err-at.result c.from_residual-in_err-at.ensures.1 c.in_err-at.ensures.err
    (λ none. look_at h.is (take_at h.is (keeps_deep _ (omega (arith, c.in_ok-may_nest.ensures.ok))) (next c.args.at words (thens d (not_there (no_key sp end kinds.End (key w.end_) refl none))))))

pub statements::do_statement-returns-clause-answer : goal.statements::do_statement-returns-clause-answer
statements::do_statement-returns-clause-answer rank c words sp =
    let h = key_stands sp c.args.at kinds.Do tt c.requires.here in
    let body = c.in_ok-body.body in
    let d = at_counts block_view r.block _ _ (c.args.at + 1) words (Ok body) c.deeper.ensures.counts (c.in_ok-body.ensures.answer words sp) in
    let e = key_stands sp body.at kinds.End tt c.in_ok-at.ensures.there in
    look_at h.is (take_at h.is (keeps_deep _ (omega (arith, c.in_ok-may_nest.ensures.ok)))
    (next c.args.at words (thens d (expect_at e.is keeps_free (ended body.at _ words (ap (λ l. t.do_block l (block_view body.node)) (h.line ∙ sym c.line_at-line.ensures) ∙ sym (st.view_do _ _)) (sym c.in_ok-at.ensures.next))))))

pub statements::do_statement-returns-clause-moves : goal.statements::do_statement-returns-clause-moves
statements::do_statement-returns-clause-moves rank c = record {
  forth = search rules;
  within = search rules;
  high = st.high_do _ _ _ c.in_ok-body.ensures.moves.high;
  low = search rules;
}

pub statements::last_statement-break_statement-requires-clause-here : goal.statements::last_statement-break_statement-requires-clause-here
statements::last_statement-break_statement-requires-clause-here rank c =
    by_kind.is_break _ c.requires.here (λ e. false≢true (sym c.if-is.false ∙ c.is.ensures.value.1 e))

pub statements::return_statement-returns-then-ends_return-clause-answer : goal.statements::return_statement-returns-then-ends_return-clause-answer
statements::return_statement-returns-then-ends_return-clause-answer rank c words sp =
    let h = key_stands sp c.args.at kinds.Return tt c.requires.here in
    look_at h.is (take_at h.is keeps_free (next c.args.at words (just
    (look_as (by_kind.return_ends _ _ _ _ _ (word_for sp (c.args.at + 1)) (sym c.ends_return.ensures ∙ c.if-ends_return.true)) (gave (st.bare_return _ _ _ (h.line ∙ sym c.line_at-line.ensures) c.new.ensures))))))

pub statements::return_statement-returns-in_err-values-clause-answer : goal.statements::return_statement-returns-in_err-values-clause-answer
statements::return_statement-returns-in_err-values-clause-answer rank c words sp =
    let h = key_stands sp c.args.at kinds.Return tt c.requires.here in
    stopped exprs_view stat_view (c.args.at + 1) c.args.at words c.in_err-values.field-0.0 c.from_residual.result c.from_residual.ensures.1
    (λ x us e. look_at h.is (take_at h.is keeps_free (next c.args.at words (just
    (look_as (by_kind.return_goes _ _ _ _ _ (word_for sp (c.args.at + 1)) (sym c.ends_return.ensures ∙ c.if-ends_return.false)) (stops e)))))) (c.in_err-values.ensures.answer words sp)

pub statements::return_statement-returns-clause-answer : goal.statements::return_statement-returns-clause-answer
statements::return_statement-returns-clause-answer rank c words sp =
    let h = key_stands sp c.args.at kinds.Return tt c.requires.here in
    look_at h.is (take_at h.is keeps_free (next c.args.at words (just
    (look_as (by_kind.return_goes _ _ _ _ _ (word_for sp (c.args.at + 1)) (sym c.ends_return.ensures ∙ c.if-ends_return.false))
    (thens (c.in_ok-values.ensures.answer words sp) (gave (st.return_is _ _ c.in_ok-values.values.node (h.line ∙ sym c.line_at-line.ensures))))))))

-- ---- conditions

pub conditions::arm-returns-in_err-test-clause-answer : goal.conditions::arm-returns-in_err-test-clause-answer
conditions::arm-returns-in_err-test-clause-answer rank c words sp =
    part_stopped {whole = r.program (r.arms (counts c.args.scope))} expr_view (λ (_ : Arm). r.program (r.more_arms (counts c.args.scope))) arm_view c.args.at c.args.at words c.in_err-test.field-0.0 c.from_residual.result c.from_residual.ensures.1
    (λ x us e. stops e) (c.in_err-test.ensures.answer words sp)

pub conditions::arm-returns-in_err-at-clause-answer : goal.conditions::arm-returns-in_err-at-clause-answer
conditions::arm-returns-in_err-at-clause-answer rank c words sp =
    let end = c.in_ok-test.test.at in
    part_faulted {whole = r.program (r.arms (counts c.args.scope))} (λ (_ : Arm). r.program (r.more_arms (counts c.args.scope))) arm_view c.args.at words faults.Unexpected end (kind_at c.args.source.now.tokens.now end ≡ Some kinds.Then → ⊥) c.in_err-at.field-0.0 c.from_residual-in_err-at.result c.from_residual-in_err-at.ensures.1 c.in_err-at.ensures.err
    (λ none. thens (c.in_ok-test.ensures.answer words sp) (not_there (no_key sp end kinds.Then (key w.then_) refl none)))

pub conditions::arm-returns-in_err-body-clause-answer : goal.conditions::arm-returns-in_err-body-clause-answer
conditions::arm-returns-in_err-body-clause-answer rank c words sp =
    let end = c.in_ok-test.test.at in
    let h = key_stands sp end kinds.Then tt c.in_ok-at.ensures.there in
    let d = at_counts block_view r.block _ _ c.in_ok-at.at words (Err c.in_err-body.field-0.0) c.deeper.ensures.counts (c.in_err-body.ensures.answer words sp) in
    part_stopped {whole = r.program (r.arms (counts c.args.scope))} block_view (λ (_ : Arm). r.program (r.more_arms (counts c.args.scope))) arm_view c.in_ok-at.at c.args.at words c.in_err-body.field-0.0 c.from_residual-in_err-body.result c.from_residual-in_err-body.ensures.1
    (λ x us e. thens (c.in_ok-test.ensures.answer words sp) (expect_at h.is keeps_free (moved end _ words c.in_ok-at.ensures.next (stops e)))) d

pub conditions::arm-returns-clause-answer : goal.conditions::arm-returns-clause-answer
conditions::arm-returns-clause-answer rank c words sp o more =
    let end = c.in_ok-test.test.at in
    let body = c.in_ok-body.body in
    let h = key_stands sp end kinds.Then tt c.in_ok-at.ensures.there in
    let d = at_counts block_view r.block _ _ c.in_ok-at.at words (Ok body) c.deeper.ensures.counts (c.in_ok-body.ensures.answer words sp) in
    st.as_arm c.in_ok-test.test.node body.node o
    (thens (c.in_ok-test.ensures.answer words sp) (expect_at h.is keeps_free (moved end _ words c.in_ok-at.ensures.next (thens d (given o more)))))

pub conditions::arm-returns-clause-moves : goal.conditions::arm-returns-clause-moves
conditions::arm-returns-clause-moves rank c = record {
  forth = search rules;
  within = search rules;
  high = st.arm_high _ _ _ _ _ c.max.ensures c.in_ok-test.ensures.moves.high c.in_ok-body.ensures.moves.high;
  low = search rules;
}

pub conditions::else_part-returns-in_err-expect-clause-answer : goal.conditions::else_part-returns-in_err-expect-clause-answer
conditions::else_part-returns-in_err-expect-clause-answer rank c words sp =
    faulted _ c.args.at words faults.Unexpected c.args.at (kind_at c.args.source.now.tokens.now c.args.at ≡ Some kinds.End → ⊥) c.in_err-expect.field-0.0 c.from_residual.result c.from_residual.ensures.1 c.in_err-expect.ensures.err
    (λ none. look_as (others.more_arms_other _ _ _
    (no_key sp c.args.at kinds.ElseIf (key w.elseif) refl c.requires.here)
    (no_key sp c.args.at kinds.Else (key w.else_) refl (λ e. false≢true (sym c.if-not-is.true ∙ c.is.ensures.value.1 e)))
    (no_key sp c.args.at kinds.End (key w.end_) refl none)) r.fails)

pub conditions::else_part-returns-then-not-is-clause-answer : goal.conditions::else_part-returns-then-not-is-clause-answer
conditions::else_part-returns-then-not-is-clause-answer rank c words sp =
    let h = key_stands sp c.args.at kinds.End tt c.in_ok-expect.ensures.there in
    look_at h.is (take_at h.is keeps_free (ended c.args.at _ words refl (sym c.in_ok-expect.ensures.next)))

pub conditions::else_part-returns-in_err-body-clause-answer : goal.conditions::else_part-returns-in_err-body-clause-answer
conditions::else_part-returns-in_err-body-clause-answer rank c words sp =
    let h = key_stands sp c.args.at kinds.Else tt (c.is.ensures.value.0 c.if-not-is.false) in
    let d = at_counts block_view r.block _ _ (c.args.at + 1) words (Err c.in_err-body.field-0.0) c.deeper.ensures.counts (c.in_err-body.ensures.answer words sp) in
    stopped block_view _ (c.args.at + 1) c.args.at words c.in_err-body.field-0.0 c.from_residual-in_err-body.result c.from_residual-in_err-body.ensures.1
    (λ x us e. look_at h.is (take_at h.is keeps_free (next c.args.at words (stops e)))) d

pub conditions::else_part-returns-in_err-expect-2-clause-answer : goal.conditions::else_part-returns-in_err-expect-2-clause-answer
conditions::else_part-returns-in_err-expect-2-clause-answer rank c words sp =
    let h = key_stands sp c.args.at kinds.Else tt (c.is.ensures.value.0 c.if-not-is.false) in
    let body = c.in_ok-body.body in
    let d = at_counts block_view r.block _ _ (c.args.at + 1) words (Ok body) c.deeper.ensures.counts (c.in_ok-body.ensures.answer words sp) in
    faulted _ c.args.at words faults.Unexpected body.at (kind_at c.args.source.now.tokens.now body.at ≡ Some kinds.End → ⊥) c.in_err-expect-2.field-0.0 c.from_residual-in_err-expect-2.result c.from_residual-in_err-expect-2.ensures.1 c.in_err-expect-2.ensures.err
    (λ none. look_at h.is (take_at h.is keeps_free (next c.args.at words (thens d (not_there (no_key sp body.at kinds.End (key w.end_) refl none))))))

pub conditions::else_part-returns-clause-answer : goal.conditions::else_part-returns-clause-answer
conditions::else_part-returns-clause-answer rank c words sp =
    let h = key_stands sp c.args.at kinds.Else tt (c.is.ensures.value.0 c.if-not-is.false) in
    let body = c.in_ok-body.body in
    let d = at_counts block_view r.block _ _ (c.args.at + 1) words (Ok body) c.deeper.ensures.counts (c.in_ok-body.ensures.answer words sp) in
    let e = key_stands sp body.at kinds.End tt c.in_ok-expect-2.ensures.there in
    look_at h.is (take_at h.is keeps_free (next c.args.at words (thens d (expect_at e.is keeps_free (ended body.at _ words refl (sym c.in_ok-expect-2.ensures.next))))))

pub conditions::else_part-returns-clause-moves : goal.conditions::else_part-returns-clause-moves
conditions::else_part-returns-clause-moves rank c = record {
  forth = search rules;
  within = search rules;
  high = st.high_else _ _ c.in_ok-body.ensures.moves.high;
  low = search rules;
}

pub conditions::if_statement-returns-in_err-may_nest-clause-answer : goal.conditions::if_statement-returns-in_err-may_nest-clause-answer
conditions::if_statement-returns-in_err-may_nest-clause-answer rank c words sp =
    let h = key_stands sp c.args.at kinds.If tt c.requires.here in
    faulted stat_view c.args.at words faults.TooDeep c.args.at (200 < c.args.scope.depth + 1) c.in_err-may_nest.field-0.0 c.from_residual.result c.from_residual.ensures.1 c.in_err-may_nest.ensures.err
    (λ over. look_at h.is (passed_at h.is (passes_deep _ (omega (arith, over)))))

pub conditions::if_statement-returns-in_err-first-clause-answer : goal.conditions::if_statement-returns-in_err-first-clause-answer
conditions::if_statement-returns-in_err-first-clause-answer rank c words sp =
    let h = key_stands sp c.args.at kinds.If tt c.requires.here in
    stopped {whole = r.program (r.stat (counts c.args.scope))} st.arm_shown stat_view (c.args.at + 1) c.args.at words c.in_err-first.field-0.0 c.from_residual-in_err-first.result c.from_residual-in_err-first.ensures.1
    (λ x us e. look_at h.is (take_at h.is (keeps_deep _ (omega (arith, c.in_ok-may_nest.ensures.ok))) (next c.args.at words (stops e))))
    (of_part (r.program (r.arms (counts c.args.scope))) (λ (_ : Arm). r.program (r.more_arms (counts c.args.scope))) arm_view st.arm_shown (c.args.at + 1) words c.in_err-first.field-0.0 (c.in_err-first.ensures.answer words sp))

pub conditions::if_statement-returns-in_err-next-clause-answer : goal.conditions::if_statement-returns-in_err-next-clause-answer
conditions::if_statement-returns-in_err-next-clause-answer rank c words sp =
    let h = key_stands sp c.args.at kinds.If tt c.requires.here in
    let i = key_stands sp c.arms.end kinds.ElseIf tt (c.is.ensures.value.0 c.arms-test.true) in
    stopped {whole = r.program (r.stat (counts c.args.scope))} st.arm_shown stat_view (c.arms.end + 1) c.args.at words c.in_err-next.field-0.0 c.from_residual-in_err-next.result c.from_residual-in_err-next.ensures.1
    (λ x us e. look_at h.is (take_at h.is (keeps_deep _ (omega (arith, c.in_ok-may_nest.ensures.ok))) (next c.args.at words (stops (c.arms.invariant.so_far words sp (r.stuck x us) (look_at i.is (take_at i.is keeps_free (next c.arms.end words (stops e)))))))))
    (of_part (r.program (r.arms (counts c.args.scope))) (λ (_ : Arm). r.program (r.more_arms (counts c.args.scope))) arm_view st.arm_shown (c.arms.end + 1) words c.in_err-next.field-0.0 (c.in_err-next.ensures.answer words sp))

pub conditions::if_statement-returns-in_err-last-clause-answer : goal.conditions::if_statement-returns-in_err-last-clause-answer
conditions::if_statement-returns-in_err-last-clause-answer rank c words sp =
    let h = key_stands sp c.args.at kinds.If tt c.requires.here in
    stopped {whole = r.program (r.stat (counts c.args.scope))} st.else_shown stat_view c.arms.end c.args.at words c.in_err-last.field-0.0 c.from_residual-in_err-last.result c.from_residual-in_err-last.ensures.1
    (λ x us e. look_at h.is (take_at h.is (keeps_deep _ (omega (arith, c.in_ok-may_nest.ensures.ok))) (next c.args.at words (stops (c.arms.invariant.so_far words sp (r.stuck x us) e)))))
    (c.in_err-last.ensures.answer words sp)

pub conditions::if_statement-returns-clause-answer : goal.conditions::if_statement-returns-clause-answer
conditions::if_statement-returns-clause-answer rank c words sp =
    let h = key_stands sp c.args.at kinds.If tt c.requires.here in
    look_at h.is (take_at h.is (keeps_deep _ (omega (arith, c.in_ok-may_nest.ensures.ok))) (next c.args.at words
    (thens (c.arms.invariant.so_far words sp _ (c.in_ok-last.ensures.answer words sp)) (gave (st.if_is _ _ c.from_vec.result c.arms.arms.items c.in_ok-last.last.node (h.line ∙ sym c.line_at-line.ensures) c.from_vec.ensures)))))

-- ---- blocks

pub statements::block-returns-in_err-read-clause-answer : goal.statements::block-returns-in_err-read-clause-answer
statements::block-returns-in_err-read-clause-answer rank c words sp =
    let l = c.statements in
    let b = by_kind.block_begins (counts l.inner) _ _ _ (word_for sp l.end) (sym c.begins_statement.ensures.value ∙ c.statements-test.true) in
    stopped {whole = r.program (r.block (counts c.args.scope))} stat_view block_view l.end c.args.at words c.in_err-read.field-0.0 c.from_residual.result c.from_residual.ensures.1
    (λ x us e. l.invariant.so_far words sp (r.stuck x us) (look_as b (stops e))) (c.in_err-read.ensures.answer words sp)

pub statements::block-returns-in_err-last-clause-answer : goal.statements::block-returns-in_err-last-clause-answer
statements::block-returns-in_err-last-clause-answer rank c words sp =
    let l = c.statements in
    let b = by_kind.block_lasts (counts l.inner) _ _ _ (word_for sp l.end) (sym c.begins_last_statement.ensures.value ∙ c.if-not-begins_last_statement.false) in
    stopped {whole = r.program (r.block (counts c.args.scope))} stat_view block_view l.end c.args.at words c.in_err-last.field-0.0 c.from_residual-in_err-last.result c.from_residual-in_err-last.ensures.1
    (λ x us e. l.invariant.so_far words sp (r.stuck x us) (look_as b (stops e))) (c.in_err-last.ensures.answer words sp)

pub statements::block-statements-init : goal.statements::block-statements-init
statements::block-statements-init rank c = record {
  forth = search rules;
  within = search rules;
  high = st.no_stats_high _ c.new-stats.ensures.items;
  low = search rules;
  fits = search rules;
  depth = refl;
  so_far = λ words sp o d. st.no_stats_yet _ o c.new-stats.ensures.items d;
}

pub statements::block-statements-preserved : goal.statements::block-statements-preserved
statements::block-statements-preserved rank c = record {
  forth = search rules;
  within = search rules;
  high = st.longer_high _ c.statements.stats.items c.in_ok-read.read.node _ _ _ c.in_ok-push.ensures.items c.max-height.ensures c.statements.invariant.high c.in_ok-read.ensures.moves.high;
  low = search rules;
  fits = search rules;
  depth = search rules;
  so_far = λ words sp o d.
      let l = c.statements in
      let s = c.in_ok-read.read.node in
      let b = by_kind.block_begins (counts l.inner) _ _ _ (word_for sp l.end) (sym c.begins_statement.ensures.value ∙ c.statements-test.true) in
      let same = c.declared-inner.ensures.counts (stat_view s) (sym c.locals_of.ensures) in
      let e = subst (λ (x : a.Counts). r.Reads limits r.a_block (r.program (r.block x)) (drop c.behind_semicolon-end.result words) o) same d in
      st.longer_stats _ l.stats.items s o c.in_ok-push.ensures.items
      (l.invariant.so_far words sp _ (look_as b (thens (c.in_ok-read.ensures.answer words sp) (thens (c.behind_semicolon-end.ensures.read words sp) (given o e)))));
}

pub statements::block-returns-then-not-begins_last_statement-clause-answer : goal.statements::block-returns-then-not-begins_last_statement-clause-answer
statements::block-returns-then-not-begins_last_statement-clause-answer rank c words sp =
    let l = c.statements in
    let b = by_kind.block_ends (counts l.inner) _ _ _ (word_for sp l.end) (sym c.begins_statement.ensures.value ∙ c.statements-test.false) (sym c.begins_last_statement.ensures.value ∙ c.if-not-begins_last_statement.true) in
    st.block_is _ l.stats.items c.from_vec.ensures (l.invariant.so_far words sp _ (look_as b gives))

pub statements::block-returns-clause-moves : goal.statements::block-returns-clause-moves
statements::block-returns-clause-moves rank c = record {
  forth = search rules;
  within = search rules;
  high = st.block_high _ _ c.statements.stats.items c.in_ok-last.last.node _ _ _ c.from_vec-2.ensures c.in_ok-push-2.ensures.items c.max.ensures c.statements.invariant.high c.in_ok-last.ensures.moves.high;
  low = search rules;
}

pub statements::block-returns-clause-answer : goal.statements::block-returns-clause-answer
statements::block-returns-clause-answer rank c words sp =
    let l = c.statements in
    let b = by_kind.block_lasts (counts l.inner) _ _ _ (word_for sp l.end) (sym c.begins_last_statement.ensures.value ∙ c.if-not-begins_last_statement.false) in
    st.block_with _ _ l.stats.items c.in_ok-last.last.node c.from_vec-2.ensures c.in_ok-push-2.ensures.items
    (l.invariant.so_far words sp _ (look_as b (thens (c.in_ok-last.ensures.answer words sp) (thens (c.behind_semicolon.ensures.read words sp) gives))))

pub conditions::if_statement-arms-init : goal.conditions::if_statement-arms-init
conditions::if_statement-arms-init rank c = record {
  forth = search rules;
  within = search rules;
  high = st.first_arm_high _ _ c.in_ok-first.first.node _ c.in_ok-push.ensures.items c.new-arms.ensures.items c.in_ok-first.ensures.moves.high;
  low = search rules;
  so_far = λ words sp o d. st.first_arm _ _ c.in_ok-first.first.node o c.in_ok-push.ensures.items c.new-arms.ensures.items (c.in_ok-first.ensures.answer words sp o d);
}

pub conditions::if_statement-arms-preserved : goal.conditions::if_statement-arms-preserved
conditions::if_statement-arms-preserved rank c = record {
  forth = search rules;
  within = search rules;
  high = st.longer_arms_high _ c.arms.arms.items c.in_ok-next.next.node _ _ _ c.in_ok-push-2.ensures.items c.max-height.ensures c.arms.invariant.high c.in_ok-next.ensures.moves.high;
  low = search rules;
  so_far = λ words sp o d.
      let l = c.arms in
      let i = key_stands sp l.end kinds.ElseIf tt (c.is.ensures.value.0 c.arms-test.true) in
      st.longer_arms _ l.arms.items c.in_ok-next.next.node o c.in_ok-push-2.ensures.items
      (l.invariant.so_far words sp _ (look_at i.is (take_at i.is keeps_free (next l.end words (just (c.in_ok-next.ensures.answer words sp o d))))));
}

pub conditions::if_statement-returns-clause-moves : goal.conditions::if_statement-returns-clause-moves
conditions::if_statement-returns-clause-moves rank c = record {
  forth = search rules;
  within = search rules;
  high = st.if_high _ _ _ _ _ c.arms.arms.items c.in_ok-last.last.node c.from_vec.ensures c.max.ensures c.arms.invariant.high c.in_ok-last.ensures.moves.high;
  low = search rules;
}

-- ---- expressions

pub expressions::expression-returns-in_err-left-clause-answer : goal.expressions::expression-returns-in_err-left-clause-answer
expressions::expression-returns-in_err-left-clause-answer rank c words sp =
    stopped {whole = r.program (r.expr c.args.level (counts c.args.scope))} expr_view expr_view c.args.at c.args.at words c.in_err-left.field-0.0 c.from_residual.result c.from_residual.ensures.1
    (λ x us e. stops e) (c.in_err-left.ensures.answer words sp)

pub expressions::expression-returns-clause-answer : goal.expressions::expression-returns-clause-answer
expressions::expression-returns-clause-answer rank c words sp =
    onward {p = r.program (r.expr c.args.level (counts c.args.scope))} expr_view c.in_ok-left.left.at c.args.at words c.operations.result
    (λ o d. thens (c.in_ok-left.ensures.answer words sp) (just d)) (c.operations.ensures.answer words sp)

pub expressions::operations-operators-preserved : goal.expressions::operations-operators-preserved
expressions::operations-operators-preserved rank c = record {
  behind = search rules;
  forth = search rules;
  so_far = λ words sp o d. c.operators.invariant.so_far words sp o (es.as_it_was o (c.in_ok-left.ensures.answer c.args.level c.in-Some.ensures.some.1 words sp o d));
}

pub expressions::operations-returns-in_err-left-clause-answer : goal.expressions::operations-returns-in_err-left-clause-answer
expressions::operations-returns-in_err-left-clause-answer rank c words sp =
    let l = c.operators in
    let p = r.program (r.more c.args.level (counts c.args.scope) (expr_view l.left.node)) in
    stopped {p = p} {whole = r.program (r.more c.args.level (counts c.args.scope) (expr_view c.args.first.node))} expr_view expr_view l.left.at c.args.first.at words c.in_err-left.field-0.0 c.from_residual.result c.from_residual.ensures.1
    (λ x us e. l.invariant.so_far words sp (r.stuck x us) e)
    (of_part p (λ (e : Expr). r.program (r.more c.args.level (counts c.args.scope) (expr_view e))) (λ (e : Expr) (whole : t.Expr). whole) expr_view l.left.at words c.in_err-left.field-0.0 (c.in_err-left.ensures.answer c.args.level c.in-Some.ensures.some.1 words sp))

pub expressions::operations-returns-clause-answer : goal.expressions::operations-returns-clause-answer
expressions::operations-returns-clause-answer rank c words sp =
    let l = c.operators in
    l.invariant.so_far words sp _ (es.no_more sp l.left.at c.args.level (counts c.args.scope) (expr_view l.left.node) (c.operator_at.ensures.none c.in_default.is))

pub expressions::operation-returns-in_err-may_nest-clause-answer : goal.expressions::operation-returns-in_err-may_nest-clause-answer
expressions::operation-returns-in_err-may_nest-clause-answer rank c p le words sp =
    let k = counts c.args.scope in
    let left = c.args.left in
    let h = es.operator_stands sp left.at c.requires.here.0 (binary_view c.args.op) c.requires.here.1 c.requires.here.2 in
    part_faulted {whole = r.program (r.more p k (expr_view left.node))} (λ e. r.program (r.more p k (expr_view e))) (λ e whole. whole) left.at words faults.TooDeep left.at (200 < c.args.scope.depth + 1 + left.height) c.in_err-may_nest.field-0.0 c.from_residual.result c.from_residual.ensures.1 c.in_err-may_nest.ensures.err
    (λ over. look_at h.is (es.more_binary p k (expr_view left.node) (binary_view c.args.op) h.spot le (passed_at h.is (passes_deep _ (omega (arith, over, c.requires.behind.high))))))

pub expressions::operation-returns-in_err-right-clause-answer : goal.expressions::operation-returns-in_err-right-clause-answer
expressions::operation-returns-in_err-right-clause-answer rank c p le words sp =
    let k = counts c.args.scope in
    let left = c.args.left in
    let h = es.operator_stands sp left.at c.requires.here.0 (binary_view c.args.op) c.requires.here.1 c.requires.here.2 in
    part_stopped {whole = r.program (r.more p k (expr_view left.node))} expr_view (λ e. r.program (r.more p k (expr_view e))) (λ e whole. whole) (left.at + 1) left.at words c.in_err-right.field-0.0 c.from_residual-in_err-right.result c.from_residual-in_err-right.ensures.1
    (λ x us e. look_at h.is (es.more_binary p k (expr_view left.node) (binary_view c.args.op) h.spot le (take_at h.is (keeps_deep _ (omega (arith, c.in_ok-may_nest.ensures.ok, c.requires.behind.high))) (next left.at words (stops e)))))
    (es.at_level _ (right_level (binary_view c.args.op)) _ (r.down k) (left.at + 1) words (Err c.in_err-right.field-0.0) c.priority_of.ensures.right c.deeper.ensures.counts (c.in_err-right.ensures.answer words sp))

pub expressions::operation-returns-clause-moves : goal.expressions::operation-returns-clause-moves
expressions::operation-returns-clause-moves rank c = record {
  forth = omega (arith, c.in_ok-right.ensures.moves.forth);
  within = c.in_ok-right.ensures.moves.within;
  high = omega (arith, es.tall_at_binary c.line_at-line.result c.args.op c.in_ok-left.left c.in_ok-right-2.right c.args.left.node c.in_ok-right.right.node c.in_ok-left.ensures.ok c.in_ok-right-2.ensures.ok, c.max-height.ensures, c.in_ok-right.ensures.moves.high, c.requires.behind.high);
  low = omega (arith, c.max-height.ensures, c.in_ok-right.ensures.moves.low, c.deeper.ensures.depth, c.in_ok-may_nest.ensures.ok);
}

pub expressions::operation-returns-clause-answer : goal.expressions::operation-returns-clause-answer
expressions::operation-returns-clause-answer rank c p le words sp o d =
    let k = counts c.args.scope in
    let left = c.args.left in
    let op = binary_view c.args.op in
    let right = c.in_ok-right.right in
    let h = es.operator_stands sp left.at c.requires.here.0 op c.requires.here.1 c.requires.here.2 in
    let e = es.at_level _ (right_level op) _ (r.down k) (left.at + 1) words (Ok right) c.priority_of.ensures.right c.deeper.ensures.counts (c.in_ok-right.ensures.answer words sp) in
    let same = es.binary_is c.line_at-line.result h.spot.line c.args.op c.in_ok-left.left c.in_ok-right-2.right left.node right.node c.in_ok-left.ensures.ok c.in_ok-right-2.ensures.ok (c.line_at-line.ensures ∙ sym h.line) in
    es.as_it_is o (look_at h.is (es.more_binary p k (expr_view left.node) op h.spot le (take_at h.is (keeps_deep _ (omega (arith, c.in_ok-may_nest.ensures.ok, c.requires.behind.high)))
    (next left.at words (thens e (just (subst (λ (a : t.Expr). r.Reads limits r.an_expr (r.program (r.more p k a)) (drop right.at words) o) same d)))))))

pub expressions::unary-returns-in_err-may_nest-clause-answer : goal.expressions::unary-returns-in_err-may_nest-clause-answer
expressions::unary-returns-in_err-may_nest-clause-answer rank c words sp =
    let u = es.unary_stands sp (counts c.args.scope) c.args.at c.args.op c.requires.here in
    faulted {whole = r.program (r.first (counts c.args.scope))} expr_view c.args.at words faults.TooDeep c.args.at (200 < c.args.scope.depth + 2) c.in_err-may_nest.field-0.0 c.from_residual.result c.from_residual.ensures.1 c.in_err-may_nest.ensures.err
    (λ over. u.begins _ (passed_at u.stands.is (passes_deep _ (omega (arith, over)))))

pub expressions::unary-returns-in_err-operand-clause-answer : goal.expressions::unary-returns-in_err-operand-clause-answer
expressions::unary-returns-in_err-operand-clause-answer rank c words sp =
    let u = es.unary_stands sp (counts c.args.scope) c.args.at c.args.op c.requires.here in
    stopped {whole = r.program (r.first (counts c.args.scope))} expr_view expr_view (c.args.at + 1) c.args.at words c.in_err-operand.field-0.0 c.from_residual-in_err-operand.result c.from_residual-in_err-operand.ensures.1
    (λ x us e. u.begins _ (take_at u.stands.is (keeps_deep _ (omega (arith, c.in_ok-may_nest.ensures.ok))) (next c.args.at words (stops e))))
    (at_counts expr_view (r.expr unary_level) _ _ (c.args.at + 1) words (Err c.in_err-operand.field-0.0) c.deeper.ensures.counts (c.in_err-operand.ensures.answer words sp))

pub expressions::unary-returns-clause-moves : goal.expressions::unary-returns-clause-moves
expressions::unary-returns-clause-moves rank c = record {
  forth = omega (arith, c.in_ok-operand.ensures.moves.forth);
  within = c.in_ok-operand.ensures.moves.within;
  high = omega (arith, es.tall_at_unary c.line_at-line.result c.args.op c.in_ok-operand-2.operand c.in_ok-operand.operand.node c.in_ok-operand-2.ensures.ok, c.in_ok-operand.ensures.moves.high);
  low = omega (arith, c.in_ok-operand.ensures.moves.low, c.deeper.ensures.depth, c.in_ok-may_nest.ensures.ok);
}

pub expressions::unary-returns-clause-answer : goal.expressions::unary-returns-clause-answer
expressions::unary-returns-clause-answer rank c words sp =
    let u = es.unary_stands sp (counts c.args.scope) c.args.at c.args.op c.requires.here in
    let operand = c.in_ok-operand.operand in
    let e = at_counts expr_view (r.expr unary_level) _ _ (c.args.at + 1) words (Ok operand) c.deeper.ensures.counts (c.in_ok-operand.ensures.answer words sp) in
    u.begins _ (take_at u.stands.is (keeps_deep _ (omega (arith, c.in_ok-may_nest.ensures.ok))) (next c.args.at words (thens e
    (gave (es.unary_is c.line_at-line.result u.stands.spot.line c.args.op c.in_ok-operand-2.operand operand.node c.in_ok-operand-2.ensures.ok (c.line_at-line.ensures ∙ sym u.stands.line))))))

pub expressions::expressions-returns-in_err-first-clause-answer : goal.expressions::expressions-returns-in_err-first-clause-answer
expressions::expressions-returns-in_err-first-clause-answer rank c words sp =
    stopped {whole = r.program (r.exprs (counts c.args.scope))} expr_view exprs_view c.args.at c.args.at words c.in_err-first.field-0.0 c.from_residual.result c.from_residual.ensures.1
    (λ x us e. stops e) (c.in_err-first.ensures.answer words sp)

pub expressions::expressions-items-init : goal.expressions::expressions-items-init
expressions::expressions-items-init rank c = record {
  forth = search rules;
  within = search rules;
  high = es.first_expr_high _ _ c.in_ok-first.first.node _ c.in_ok-push.ensures.items c.new-items.ensures.items c.in_ok-first.ensures.moves.high;
  low = search rules;
  so_far = λ words sp o d. es.first_expr _ _ c.in_ok-first.first.node o c.in_ok-push.ensures.items c.new-items.ensures.items (thens (c.in_ok-first.ensures.answer words sp) (given o d));
}

pub expressions::expressions-items-preserved : goal.expressions::expressions-items-preserved
expressions::expressions-items-preserved rank c = record {
  forth = search rules;
  within = search rules;
  high = es.longer_exprs_high _ c.items.items.items c.in_ok-next.next.node _ _ _ c.in_ok-push-2.ensures.items c.max-height.ensures c.items.invariant.high c.in_ok-next.ensures.moves.high;
  low = search rules;
  so_far = λ words sp o d.
      let l = c.items in
      let h = key_stands sp l.end kinds.Comma tt (c.is.ensures.value.0 c.items-test.true) in
      es.longer_exprs _ l.items.items c.in_ok-next.next.node o c.in_ok-push-2.ensures.items
      (l.invariant.so_far words sp _ (look_at h.is (take_at h.is keeps_free (next l.end words (just (thens (c.in_ok-next.ensures.answer words sp) (given o d)))))));
}

pub expressions::expressions-returns-in_err-next-clause-answer : goal.expressions::expressions-returns-in_err-next-clause-answer
expressions::expressions-returns-in_err-next-clause-answer rank c words sp =
    let l = c.items in
    let h = key_stands sp l.end kinds.Comma tt (c.is.ensures.value.0 c.items-test.true) in
    stopped {whole = r.program (r.exprs (counts c.args.scope))} expr_view exprs_view (l.end + 1) c.args.at words c.in_err-next.field-0.0 c.from_residual-in_err-next.result c.from_residual-in_err-next.ensures.1
    (λ x us e. l.invariant.so_far words sp (r.stuck x us) (look_at h.is (take_at h.is keeps_free (next l.end words (just (stops e)))))) (c.in_err-next.ensures.answer words sp)

pub expressions::expressions-returns-clause-answer : goal.expressions::expressions-returns-clause-answer
expressions::expressions-returns-clause-answer rank c words sp =
    let l = c.items in
    es.exprs_are _ l.items.items c.from_vec.ensures
    (l.invariant.so_far words sp _ (look_as (others.more_exprs_other (counts c.args.scope) _ _ (no_key sp l.end kinds.Comma (key w.comma) refl (λ e. false≢true (sym c.items-test.false ∙ c.is.ensures.value.1 e)))) gives))

pub expressions::operand-returns-in_default-clause-answer : goal.expressions::operand-returns-in_default-clause-answer
expressions::operand-returns-in_default-clause-answer rank c words sp = es.first_ends sp (counts c.args.scope) c.args.at (sym c.in_default.is ∙ c.kind_at.ensures.value)

pub expressions::operand-returns-in_default-kind-clause-answer : goal.expressions::operand-returns-in_default-kind-clause-answer
expressions::operand-returns-in_default-kind-clause-answer rank c words sp =
    let d = c.in_default-kind in
    onward {p = r.program (r.first (counts c.args.scope))} {q = r.program (r.prefix r.in_expr (counts c.args.scope))} expr_view c.args.at c.args.at words c.prefix_expression.result
    (es.first_prefix sp (counts c.args.scope) c.args.at c.in-Some.kind c.in-Some.ensures.value (λ s v e. es.first_goes (counts c.args.scope) s c.in-Some.kind v e
    d.not-Function d.not-OpenBrace d.not-Not d.not-Hash d.not-Minus d.not-Dots d.not-Str d.not-Nil d.not-True d.not-False d.not-Number))
    (c.prefix_expression.ensures.answer words sp)

-- ---- suffixes

pub suffixes::prefix_expression-returns-clause-answer : goal.suffixes::prefix_expression-returns-clause-answer
suffixes::prefix_expression-returns-clause-answer rank c words sp =
    sx.behind_part (r.program (r.prefix (place_of c.args.position) (counts c.args.scope))) (λ (e : Expr). r.program (r.suffixes (place_of c.args.position) (counts c.args.scope) (expr_view e))) expr_view c.args.at words c.in_ok-base.base c.suffixes.result
    (c.in_ok-base.ensures.answer words sp) (c.suffixes.ensures.answer words sp)

pub suffixes::base_expression-returns-else-is-clause-answer : goal.suffixes::base_expression-returns-else-is-clause-answer
suffixes::base_expression-returns-else-is-clause-answer rank c words sp =
    sx.name_parts c.args.source.now sp (place_of c.args.position) c.args.scope c.args.at c.name.result (λ e. false≢true (sym c.if-is.false ∙ c.is.ensures.value.1 e)) c.name.ensures.ok c.name.ensures.next c.name.ensures.err c.name.ensures.moves

pub suffixes::suffixes-returns-in_err-base-clause-answer : goal.suffixes::suffixes-returns-in_err-base-clause-answer
suffixes::suffixes-returns-in_err-base-clause-answer rank c words sp =
    let base = c.suffixes.base in
    stopped (λ y. y) expr_view base.at c.args.first.at words c.in_err-base.field-0.0 c.from_residual.result c.from_residual.ensures.1
    (λ x us e. c.suffixes.invariant.so_far words sp (r.stuck x us) e)
    (sx.stopped_part (r.program (r.suffixes (place_of c.args.position) (counts c.args.scope) (expr_view base.node))) (sx.after (place_of c.args.position) (counts c.args.scope)) sx.put (λ y. y) base.at words c.in_err-base.field-0.0 (c.in_err-base.ensures.answer words sp))

pub suffixes::suffixes-suffixes-preserved : goal.suffixes::suffixes-suffixes-preserved
suffixes::suffixes-suffixes-preserved rank c =
    let m = c.in_ok-base.ensures.moves in
    record {
      behind = record { some = omega (arith, m.forth); within = m.within; high = m.high; low = m.low };
      forth = omega (arith, m.forth, c.suffixes.invariant.forth);
      so_far = λ words sp o d. c.suffixes.invariant.so_far words sp o (sx.one_more_suffix o (c.in_ok-base.ensures.answer words sp o d));
    }

pub suffixes::suffixes-returns-clause-answer : goal.suffixes::suffixes-returns-clause-answer
suffixes::suffixes-returns-clause-answer rank c words sp =
    let base = c.suffixes.base in
    c.suffixes.invariant.so_far words sp (r.got (expr_view base.node) (drop base.at words))
    (sx.suffixes_end sp (place_of c.args.position) (counts c.args.scope) (expr_view base.node) base.at (sym c.goes_on.ensures.value ∙ c.suffixes-test.false))

pub suffixes::parenthesized-returns-in_err-may_nest-clause-answer : goal.suffixes::parenthesized-returns-in_err-may_nest-clause-answer
suffixes::parenthesized-returns-in_err-may_nest-clause-answer rank c words sp =
    let outer = sx.held_counts (counts c.args.scope) c.held-outer.ensures.counts c.holds_parentheses.ensures in
    part_faulted (sx.after (place_of c.args.position) (counts c.args.scope)) sx.put c.args.at words faults.TooDeep c.args.at (200 < c.held-outer.result.depth + 2) c.in_err-may_nest.field-0.0 c.from_residual.result c.from_residual.ensures.1 c.in_err-may_nest.ensures.err
    (λ over. sx.paren_deep sp (place_of c.args.position) (counts c.args.scope) c.args.at c.requires.here (omega (arith, over, ap (λ (k : a.Counts). k a.nodes) outer)))

pub suffixes::parenthesized-returns-in_err-inner-clause-answer : goal.suffixes::parenthesized-returns-in_err-inner-clause-answer
suffixes::parenthesized-returns-in_err-inner-clause-answer rank c words sp =
    let outer = sx.held_counts (counts c.args.scope) c.held-outer.ensures.counts c.holds_parentheses.ensures in
    let d = at_counts expr_view (r.expr 0) _ _ (c.args.at + 1) words (Err c.in_err-inner.field-0.0) (c.deeper.ensures.counts ∙ ap r.down outer) (c.in_err-inner.ensures.answer words sp) in
    part_stopped expr_view (sx.after (place_of c.args.position) (counts c.args.scope)) sx.put (c.args.at + 1) c.args.at words c.in_err-inner.field-0.0 c.from_residual-in_err-inner.result c.from_residual-in_err-inner.ensures.1
    (λ x us e. sx.paren_opens sp (place_of c.args.position) (counts c.args.scope) c.args.at _ c.requires.here (omega (arith, c.in_ok-may_nest.ensures.ok, ap (λ (k : a.Counts). k a.nodes) outer)) (stops e)) d

pub suffixes::parenthesized-returns-in_err-at-clause-answer : goal.suffixes::parenthesized-returns-in_err-at-clause-answer
suffixes::parenthesized-returns-in_err-at-clause-answer rank c words sp =
    let outer = sx.held_counts (counts c.args.scope) c.held-outer.ensures.counts c.holds_parentheses.ensures in
    let inner = c.in_ok-inner.inner in
    let d = at_counts expr_view (r.expr 0) _ _ (c.args.at + 1) words (Ok inner) (c.deeper.ensures.counts ∙ ap r.down outer) (c.in_ok-inner.ensures.answer words sp) in
    part_faulted (sx.after (place_of c.args.position) (counts c.args.scope)) sx.put c.args.at words faults.Unexpected inner.at (kind_at c.args.source.now.tokens.now inner.at ≡ Some kinds.CloseParen → ⊥) c.in_err-at.field-0.0 c.from_residual-in_err-at.result c.from_residual-in_err-at.ensures.1 c.in_err-at.ensures.err
    (λ none. sx.paren_opens sp (place_of c.args.position) (counts c.args.scope) c.args.at _ c.requires.here (omega (arith, c.in_ok-may_nest.ensures.ok, ap (λ (k : a.Counts). k a.nodes) outer))
    (thens d (not_there (no_key sp inner.at kinds.CloseParen (key w.close_paren) refl none))))

pub suffixes::parenthesized-returns-clause-answer : goal.suffixes::parenthesized-returns-clause-answer
suffixes::parenthesized-returns-clause-answer rank c words sp o more =
    let outer = sx.held_counts (counts c.args.scope) c.held-outer.ensures.counts c.holds_parentheses.ensures in
    let inner = c.in_ok-inner.inner in
    let d = at_counts expr_view (r.expr 0) _ _ (c.args.at + 1) words (Ok inner) (c.deeper.ensures.counts ∙ ap r.down outer) (c.in_ok-inner.ensures.answer words sp) in
    sx.paren_opens sp (place_of c.args.position) (counts c.args.scope) c.args.at _ c.requires.here (omega (arith, c.in_ok-may_nest.ensures.ok, ap (λ (k : a.Counts). k a.nodes) outer))
    (thens d (sx.paren_closes sp (place_of c.args.position) (counts c.args.scope) _ inner.at _ (expr_view inner.node) _ o c.in_ok-at.ensures.there (sx.same_paren _ _ _ _ c.line_at-line.ensures c.in_ok-inner-2.ensures.ok) c.in_ok-at.ensures.next more))

pub suffixes::parenthesized-returns-clause-moves : goal.suffixes::parenthesized-returns-clause-moves
suffixes::parenthesized-returns-clause-moves rank c = record {
  forth = omega (arith, c.in_ok-inner.ensures.moves.forth, c.in_ok-at.ensures.next);
  within = omega (arith, c.in_ok-at.ensures.next, c.in_ok-at.ensures.within);
  high = sx.high_paren _ _ _ _ c.in_ok-inner-2.ensures.ok c.in_ok-inner.ensures.moves.high;
  low = omega (arith, c.in_ok-inner.ensures.moves.low, c.deeper.ensures.depth, c.held-outer.ensures.above);
}

pub suffixes::suffix-returns-in-Some-OpenBracket-clause-answer : goal.suffixes::suffix-returns-in-Some-OpenBracket-clause-answer
suffixes::suffix-returns-in-Some-OpenBracket-clause-answer rank c words sp = c.index.ensures.answer (place_of c.args.position) words sp

pub suffixes::suffix-returns-in-Some-Dot-clause-answer : goal.suffixes::suffix-returns-in-Some-Dot-clause-answer
suffixes::suffix-returns-in-Some-Dot-clause-answer rank c words sp =
    sx.member_parts c.args.source.now sp (place_of c.args.position) c.args.scope c.args.base c.member.result (sym c.kind_at.ensures.value ∙ (c.in-Some-Dot.is ∙ ap Some c.in-Some-Dot.field-0-is)) c.requires.behind.high c.member.ensures.ok c.member.ensures.next c.member.ensures.err c.member.ensures.moves

pub suffixes::index-returns-in_err-may_nest-clause-answer : goal.suffixes::index-returns-in_err-may_nest-clause-answer
suffixes::index-returns-in_err-may_nest-clause-answer rank c k words sp =
    part_faulted (sx.after k (counts c.args.scope)) sx.put c.args.base.at words faults.TooDeep c.args.base.at (200 < c.args.scope.depth + 1 + c.args.base.height) c.in_err-may_nest.field-0.0 c.from_residual.result c.from_residual.ensures.1 c.in_err-may_nest.ensures.err
    (λ over. sx.bracket_deep sp k (counts c.args.scope) (expr_view c.args.base.node) c.args.base.at c.requires.here (omega (arith, over, c.requires.behind.high)))

pub suffixes::index-returns-in_err-key-clause-answer : goal.suffixes::index-returns-in_err-key-clause-answer
suffixes::index-returns-in_err-key-clause-answer rank c k words sp =
    let d = at_counts expr_view (r.expr 0) _ _ (c.args.base.at + 1) words (Err c.in_err-key.field-0.0) c.deeper.ensures.counts (c.in_err-key.ensures.answer words sp) in
    part_stopped expr_view (sx.after k (counts c.args.scope)) sx.put (c.args.base.at + 1) c.args.base.at words c.in_err-key.field-0.0 c.from_residual-in_err-key.result c.from_residual-in_err-key.ensures.1
    (λ x us e. sx.bracket_opens sp k (counts c.args.scope) (expr_view c.args.base.node) c.args.base.at _ c.requires.here (omega (arith, c.in_ok-may_nest.ensures.ok, c.requires.behind.high)) (stops e)) d

pub suffixes::index-returns-in_err-at-clause-answer : goal.suffixes::index-returns-in_err-at-clause-answer
suffixes::index-returns-in_err-at-clause-answer rank c k words sp =
    let inner = c.in_ok-key.key in
    let d = at_counts expr_view (r.expr 0) _ _ (c.args.base.at + 1) words (Ok inner) c.deeper.ensures.counts (c.in_ok-key.ensures.answer words sp) in
    part_faulted (sx.after k (counts c.args.scope)) sx.put c.args.base.at words faults.Unexpected inner.at (kind_at c.args.source.now.tokens.now inner.at ≡ Some kinds.CloseBracket → ⊥) c.in_err-at.field-0.0 c.from_residual-in_err-at.result c.from_residual-in_err-at.ensures.1 c.in_err-at.ensures.err
    (λ none. sx.bracket_opens sp k (counts c.args.scope) (expr_view c.args.base.node) c.args.base.at _ c.requires.here (omega (arith, c.in_ok-may_nest.ensures.ok, c.requires.behind.high))
    (thens d (not_there (no_key sp inner.at kinds.CloseBracket (key w.close_bracket) refl none))))

pub suffixes::index-returns-clause-answer : goal.suffixes::index-returns-clause-answer
suffixes::index-returns-clause-answer rank c k words sp o more =
    let inner = c.in_ok-key.key in
    let d = at_counts expr_view (r.expr 0) _ _ (c.args.base.at + 1) words (Ok inner) c.deeper.ensures.counts (c.in_ok-key.ensures.answer words sp) in
    sx.bracket_opens sp k (counts c.args.scope) (expr_view c.args.base.node) c.args.base.at _ c.requires.here (omega (arith, c.in_ok-may_nest.ensures.ok, c.requires.behind.high))
    (thens d (sx.bracket_closes sp k (counts c.args.scope) _ inner.at _ (expr_view c.args.base.node) (expr_view inner.node) _ o c.in_ok-at.ensures.there (sx.same_index _ _ _ _ _ _ c.line_at-line.ensures c.in_ok-base.ensures.ok c.in_ok-key-2.ensures.ok) c.in_ok-at.ensures.next more))

pub suffixes::index-returns-clause-moves : goal.suffixes::index-returns-clause-moves
suffixes::index-returns-clause-moves rank c = record {
  forth = omega (arith, c.in_ok-key.ensures.moves.forth, c.in_ok-at.ensures.next);
  within = omega (arith, c.in_ok-at.ensures.next, c.in_ok-at.ensures.within);
  high = omega (arith, sx.tall_at_index c.line_at-line.result c.in_ok-base.base c.in_ok-key-2.key c.args.base.node c.in_ok-key.key.node c.in_ok-base.ensures.ok c.in_ok-key-2.ensures.ok, c.in_ok-key.ensures.moves.high, c.requires.behind.high);
  low = omega (arith, c.in_ok-key.ensures.moves.low, c.deeper.ensures.depth, c.in_ok-may_nest.ensures.ok);
}

pub suffixes::method_call-returns-in_err-may_nest-clause-answer : goal.suffixes::method_call-returns-in_err-may_nest-clause-answer
suffixes::method_call-returns-in_err-may_nest-clause-answer rank c k cs e words sp =
    part_faulted (sx.after k cs) sx.put c.args.object.at words faults.TooDeep c.args.object.at (200 < c.args.scope.depth + 1 + c.args.object.height) c.in_err-may_nest.field-0.0 c.from_residual.result c.from_residual.ensures.1 c.in_err-may_nest.ensures.err
    (λ over. sx.colon_deep sp k cs (expr_view c.args.object.node) c.args.object.at c.requires.here (omega (arith, over, c.requires.behind.high, ap (λ (j : a.Counts). j a.nodes) e)))

pub suffixes::method_call-returns-in_err-name-clause-answer : goal.suffixes::method_call-returns-in_err-name-clause-answer
suffixes::method_call-returns-in_err-name-clause-answer rank c k cs e words sp =
    let at = c.args.object.at in
    part_faulted (sx.after k cs) sx.put at words faults.Unexpected (at + 1) (kind_at c.args.source.now.tokens.now (at + 1) ≡ Some kinds.Name → ⊥) c.in_err-name.field-0.0 c.from_residual-in_err-name.result c.from_residual-in_err-name.ensures.1 c.in_err-name.ensures.err
    (λ none. sx.colon_alone sp k cs (expr_view c.args.object.node) at c.requires.here (omega (arith, c.in_ok-may_nest.ensures.ok, c.requires.behind.high, ap (λ (j : a.Counts). j a.nodes) e)) none)

pub suffixes::method_call-returns-in_err-arguments-clause-answer : goal.suffixes::method_call-returns-in_err-arguments-clause-answer
suffixes::method_call-returns-in_err-arguments-clause-answer rank c k cs e words sp =
    let at = c.args.object.at in
    let low = sx.call_low k cs (expr_view c.args.object.node) c.args.scope c.args.object.height e c.requires.behind.high c.in_ok-may_nest.ensures.ok in
    let d = at_counts (args_view c.args.source.now (at + 2)) (r.args (sx.call_needs k cs (expr_view c.args.object.node))) _ _ (at + 2) words (Err c.in_err-arguments.field-0.0) (c.deeper.ensures.counts ∙ ap r.down e) (c.in_err-arguments.ensures.answer (sx.call_needs k cs (expr_view c.args.object.node)) low words sp) in
    part_stopped (args_view c.args.source.now (at + 2)) (sx.after k cs) sx.put (at + 2) at words c.in_err-arguments.field-0.0 c.from_residual-in_err-arguments.result c.from_residual-in_err-arguments.ensures.1
    (λ x us f. sx.colon_opens c.args.source.now sp k cs (expr_view c.args.object.node) at c.in_ok-name.name _ c.requires.here low c.in_ok-name.ensures.ok (stops f)) d

pub suffixes::method_call-returns-clause-answer : goal.suffixes::method_call-returns-clause-answer
suffixes::method_call-returns-clause-answer rank c k cs e words sp o more =
    let at = c.args.object.at in
    let low = sx.call_low k cs (expr_view c.args.object.node) c.args.scope c.args.object.height e c.requires.behind.high c.in_ok-may_nest.ensures.ok in
    let d = at_counts (args_view c.args.source.now (at + 2)) (r.args (sx.call_needs k cs (expr_view c.args.object.node))) _ _ (at + 2) words (Ok c.in_ok-arguments.arguments) (c.deeper.ensures.counts ∙ ap r.down e) (c.in_ok-arguments.ensures.answer (sx.call_needs k cs (expr_view c.args.object.node)) low words sp) in
    sx.colon_opens c.args.source.now sp k cs (expr_view c.args.object.node) at c.in_ok-name.name _ c.requires.here low c.in_ok-name.ensures.ok
    (thens d (sx.call_closes k cs o (sx.same_method _ _ _ _ _ _ c.line_at.ensures c.in_ok-object.ensures.ok) more))

pub suffixes::method_call-returns-clause-moves : goal.suffixes::method_call-returns-clause-moves
suffixes::method_call-returns-clause-moves rank c = record {
  forth = omega (arith, c.in_ok-arguments.ensures.moves.forth);
  within = c.in_ok-arguments.ensures.moves.within;
  high = omega (arith, sx.tall_at_method c.line_at.result c.in_ok-object.object c.args.object.node c.in_ok-name.name c.in_ok-arguments.arguments.node c.in_ok-object.ensures.ok, c.in_ok-arguments.ensures.moves.high, c.requires.behind.high);
  low = omega (arith, c.in_ok-arguments.ensures.moves.low, c.deeper.ensures.depth, c.in_ok-may_nest.ensures.ok);
}

pub suffixes::call-returns-in_err-may_nest-clause-answer : goal.suffixes::call-returns-in_err-may_nest-clause-answer
suffixes::call-returns-in_err-may_nest-clause-answer rank c k cs e words sp =
    part_faulted (sx.after k cs) sx.put c.args.callee.at words faults.TooDeep c.args.callee.at (200 < c.args.scope.depth + 1 + c.args.callee.height) c.in_err-may_nest.field-0.0 c.from_residual.result c.from_residual.ensures.1 c.in_err-may_nest.ensures.err
    (λ over. sx.call_deep sp k cs (expr_view c.args.callee.node) c.args.callee.at c.requires.here (omega (arith, over, c.requires.behind.high, ap (λ (j : a.Counts). j a.nodes) e)))

pub suffixes::call-returns-in_err-arguments-clause-answer : goal.suffixes::call-returns-in_err-arguments-clause-answer
suffixes::call-returns-in_err-arguments-clause-answer rank c k cs e words sp =
    let at = c.args.callee.at in
    let low = sx.call_low k cs (expr_view c.args.callee.node) c.args.scope c.args.callee.height e c.requires.behind.high c.in_ok-may_nest.ensures.ok in
    let d = at_counts (args_view c.args.source.now at) (r.args (sx.call_needs k cs (expr_view c.args.callee.node))) _ _ at words (Err c.in_err-arguments.field-0.0) (c.deeper.ensures.counts ∙ ap r.down e) (c.in_err-arguments.ensures.answer (sx.call_needs k cs (expr_view c.args.callee.node)) low words sp) in
    part_stopped (args_view c.args.source.now at) (sx.after k cs) sx.put at at words c.in_err-arguments.field-0.0 c.from_residual-in_err-arguments.result c.from_residual-in_err-arguments.ensures.1
    (λ x us f. sx.call_opens sp k cs (expr_view c.args.callee.node) at _ c.requires.here (stops f)) d

pub suffixes::call-returns-clause-answer : goal.suffixes::call-returns-clause-answer
suffixes::call-returns-clause-answer rank c k cs e words sp o more =
    let at = c.args.callee.at in
    let low = sx.call_low k cs (expr_view c.args.callee.node) c.args.scope c.args.callee.height e c.requires.behind.high c.in_ok-may_nest.ensures.ok in
    let d = at_counts (args_view c.args.source.now at) (r.args (sx.call_needs k cs (expr_view c.args.callee.node))) _ _ at words (Ok c.in_ok-arguments.arguments) (c.deeper.ensures.counts ∙ ap r.down e) (c.in_ok-arguments.ensures.answer (sx.call_needs k cs (expr_view c.args.callee.node)) low words sp) in
    sx.call_opens sp k cs (expr_view c.args.callee.node) at _ c.requires.here
    (thens d (sx.call_closes k cs o (sx.same_call _ _ _ _ _ c.line_at.ensures c.in_ok-callee.ensures.ok) more))

pub suffixes::call-returns-clause-moves : goal.suffixes::call-returns-clause-moves
suffixes::call-returns-clause-moves rank c = record {
  forth = omega (arith, c.in_ok-arguments.ensures.moves.forth);
  within = c.in_ok-arguments.ensures.moves.within;
  high = omega (arith, sx.tall_at_call c.line_at.result c.in_ok-callee.callee c.args.callee.node c.in_ok-arguments.arguments.node c.in_ok-callee.ensures.ok, c.in_ok-arguments.ensures.moves.high, c.requires.behind.high);
  low = omega (arith, c.in_ok-arguments.ensures.moves.low, c.deeper.ensures.depth, c.in_ok-may_nest.ensures.ok);
}

pub suffixes::arguments-returns-in-Some-Str-clause-answer : goal.suffixes::arguments-returns-in-Some-Str-clause-answer
suffixes::arguments-returns-in-Some-Str-clause-answer rank c n low words sp = c.only_string.ensures.answer n low (counts c.args.scope) words sp

pub suffixes::arguments-returns-in_default-clause-answer : goal.suffixes::arguments-returns-in_default-clause-answer
suffixes::arguments-returns-in_default-clause-answer rank c n low words sp =
    let none : opens_arguments (kind_at c.args.source.now.tokens.now c.args.at) ≡ false = search rules in
    look_as (sx.no_arguments n (counts c.args.scope) _ _ _ (word_for sp c.args.at) none) r.fails

pub suffixes::listed-returns-then-line_at-clause-answer : goal.suffixes::listed-returns-then-line_at-clause-answer
suffixes::listed-returns-then-line_at-clause-answer rank c n low words sp =
    sx.listed_ambiguous sp n (counts c.args.scope) c.args.at low c.requires.behind c.requires.here (omega (arith, c.line_at.ensures, c.line_at-2.ensures, c.if-line_at.true))

pub suffixes::listed-returns-then-is-clause-answer : goal.suffixes::listed-returns-then-is-clause-answer
suffixes::listed-returns-then-is-clause-answer rank c n low words sp =
    sx.no_args c.new.result c.new.ensures (sx.listed_opens c.args.source.now sp c.requires.cut n (counts c.args.scope) c.args.at _ low c.requires.behind c.requires.here (omega (arith, c.line_at.ensures, c.line_at-2.ensures, c.if-line_at.false))
    (sx.listed_none sp _ (counts c.args.scope) c.args.at (c.is.ensures.value.0 c.if-is.true)))

pub suffixes::listed-returns-in_err-items-clause-answer : goal.suffixes::listed-returns-in_err-items-clause-answer
suffixes::listed-returns-in_err-items-clause-answer rank c n low words sp =
    stopped exprs_view (args_view c.args.source.now c.args.at) (c.args.at + 1) c.args.at words c.in_err-items.field-0.0 c.from_residual.result c.from_residual.ensures.1
    (λ x us e. sx.listed_opens c.args.source.now sp c.requires.cut n (counts c.args.scope) c.args.at _ low c.requires.behind c.requires.here (omega (arith, c.line_at.ensures, c.line_at-2.ensures, c.if-line_at.false))
    (sx.listed_some sp _ (counts c.args.scope) c.args.at _ (λ f. false≢true (sym c.if-is.false ∙ c.is.ensures.value.1 f)) (stops e))) (c.in_err-items.ensures.answer words sp)

pub suffixes::listed-returns-in_err-expect-clause-answer : goal.suffixes::listed-returns-in_err-expect-clause-answer
suffixes::listed-returns-in_err-expect-clause-answer rank c n low words sp =
    let items = c.in_ok-items.items in
    faulted (args_view c.args.source.now c.args.at) c.args.at words faults.Unexpected items.at (kind_at c.args.source.now.tokens.now items.at ≡ Some kinds.CloseParen → ⊥) c.in_err-expect.field-0.0 c.from_residual-in_err-expect.result c.from_residual-in_err-expect.ensures.1 c.in_err-expect.ensures.err
    (λ none. sx.listed_opens c.args.source.now sp c.requires.cut n (counts c.args.scope) c.args.at _ low c.requires.behind c.requires.here (omega (arith, c.line_at.ensures, c.line_at-2.ensures, c.if-line_at.false))
    (sx.listed_some sp _ (counts c.args.scope) c.args.at _ (λ f. false≢true (sym c.if-is.false ∙ c.is.ensures.value.1 f)) (thens (c.in_ok-items.ensures.answer words sp) (not_there (no_key sp items.at kinds.CloseParen (key w.close_paren) refl none)))))

pub suffixes::listed-returns-clause-answer : goal.suffixes::listed-returns-clause-answer
suffixes::listed-returns-clause-answer rank c n low words sp =
    let items = c.in_ok-items.items in
    sx.listed_opens c.args.source.now sp c.requires.cut n (counts c.args.scope) c.args.at _ low c.requires.behind c.requires.here (omega (arith, c.line_at.ensures, c.line_at-2.ensures, c.if-line_at.false))
    (sx.listed_some sp _ (counts c.args.scope) c.args.at _ (λ f. false≢true (sym c.if-is.false ∙ c.is.ensures.value.1 f)) (thens (c.in_ok-items.ensures.answer words sp)
    (sx.closed sp items.at _ _ c.in_ok-expect.ensures.there c.in_ok-expect.ensures.next (gave refl))))

pub suffixes::only_table-returns-in_err-fields-clause-answer : goal.suffixes::only_table-returns-in_err-fields-clause-answer
suffixes::only_table-returns-in_err-fields-clause-answer rank c n low words sp =
    let d = at_counts fields_view r.fields _ _ (c.args.at + 1) words (Err c.in_err-fields.field-0.0) c.deeper.ensures.counts (c.in_err-fields.ensures.answer words sp) in
    stopped fields_view (args_view c.args.source.now c.args.at) (c.args.at + 1) c.args.at words c.in_err-fields.field-0.0 c.from_residual.result c.from_residual.ensures.1
    (λ x us e. sx.table_opens c.args.source.now sp c.requires.cut n (counts c.args.scope) c.args.at _ low c.requires.here (stops e)) d

pub suffixes::only_table-returns-clause-answer : goal.suffixes::only_table-returns-clause-answer
suffixes::only_table-returns-clause-answer rank c n low words sp =
    let fields = c.in_ok-fields.fields in
    let d = at_counts fields_view r.fields _ _ (c.args.at + 1) words (Ok fields) c.deeper.ensures.counts (c.in_ok-fields.ensures.answer words sp) in
    sx.table_opens c.args.source.now sp c.requires.cut n (counts c.args.scope) c.args.at _ low c.requires.here (thens d (gave (sx.same_table _ c.line_at.result fields.node c.in_ok-only.field-0 c.line_at.ensures c.in_ok-only.ensures.ok)))

pub suffixes::only_table-returns-clause-moves : goal.suffixes::only_table-returns-clause-moves
suffixes::only_table-returns-clause-moves rank c = record {
  forth = omega (arith, c.in_ok-fields.ensures.moves.forth);
  within = c.in_ok-fields.ensures.moves.within;
  high = sx.high_only_table c.line_at.result _ c.in_ok-fields.fields.node _ c.in_ok-only.ensures.ok c.in_ok-fields.ensures.moves.high;
  low = omega (arith, c.in_ok-fields.ensures.moves.low, c.deeper.ensures.depth);
}

-- ---- loops

pub loops::while_statement-returns-in_err-may_nest-clause-answer : goal.loops::while_statement-returns-in_err-may_nest-clause-answer
loops::while_statement-returns-in_err-may_nest-clause-answer rank c words sp =
    faulted stat_view c.args.at words faults.TooDeep c.args.at (200 < c.args.scope.depth + 1) c.in_err-may_nest.field-0.0 c.from_residual.result c.from_residual.ensures.1 c.in_err-may_nest.ensures.err
    (λ over. lp.while_deep sp (counts c.args.scope) c.args.at c.requires.here (omega (arith, over)))

pub loops::while_statement-returns-in_err-test-clause-answer : goal.loops::while_statement-returns-in_err-test-clause-answer
loops::while_statement-returns-in_err-test-clause-answer rank c words sp =
    stopped expr_view stat_view (c.args.at + 1) c.args.at words c.in_err-test.field-0.0 c.from_residual-in_err-test.result c.from_residual-in_err-test.ensures.1
    (λ x us e. lp.while_opens sp (counts c.args.scope) c.args.at _ c.requires.here (omega (arith, c.in_ok-may_nest.ensures.ok)) (stops e)) (c.in_err-test.ensures.answer words sp)

pub loops::while_statement-returns-in_err-body-clause-answer : goal.loops::while_statement-returns-in_err-body-clause-answer
loops::while_statement-returns-in_err-body-clause-answer rank c words sp =
    stopped block_view stat_view c.in_ok-test.test.at c.args.at words c.in_err-body.field-0.0 c.from_residual-in_err-body.result c.from_residual-in_err-body.ensures.1
    (λ x us e. lp.while_opens sp (counts c.args.scope) c.args.at _ c.requires.here (omega (arith, c.in_ok-may_nest.ensures.ok)) (thens (c.in_ok-test.ensures.answer words sp) (stops e))) (c.in_err-body.ensures.answer words sp)

pub loops::while_statement-returns-clause-answer : goal.loops::while_statement-returns-clause-answer
loops::while_statement-returns-clause-answer rank c words sp =
    lp.while_opens sp (counts c.args.scope) c.args.at _ c.requires.here (omega (arith, c.in_ok-may_nest.ensures.ok)) (thens (c.in_ok-test.ensures.answer words sp) (thens (c.in_ok-body.ensures.answer words sp)
    (gave (ap (λ l. t.while_loop l (expr_view c.in_ok-test.test.node) (block_view c.in_ok-body.body.node)) (sym c.line_at-line.ensures) ∙ sym (lp.view_while _ _ _)))))

pub loops::while_statement-returns-clause-moves : goal.loops::while_statement-returns-clause-moves
loops::while_statement-returns-clause-moves rank c = record {
  forth = omega (arith, c.in_ok-test.ensures.moves.forth, c.in_ok-body.ensures.moves.forth);
  within = c.in_ok-body.ensures.moves.within;
  high = omega (arith, lp.tall_at_while c.line_at-line.result c.in_ok-test.test.node c.in_ok-body.body.node, c.in_ok-test.ensures.moves.high, c.in_ok-body.ensures.moves.high);
  low = omega (arith, c.in_ok-test.ensures.moves.low, c.in_ok-body.ensures.moves.low);
}

pub loops::do_block-returns-in_err-at-clause-answer : goal.loops::do_block-returns-in_err-at-clause-answer
loops::do_block-returns-in_err-at-clause-answer rank c words sp =
    faulted block_view c.args.at words faults.Unexpected c.args.at (kind_at c.args.source.now.tokens.now c.args.at ≡ Some kinds.Do → ⊥) c.in_err-at.field-0.0 c.from_residual.result c.from_residual.ensures.1 c.in_err-at.ensures.err
    (λ none. not_there (no_key sp c.args.at kinds.Do (key w.do_) refl none))

pub loops::do_block-returns-in_err-body-clause-answer : goal.loops::do_block-returns-in_err-body-clause-answer
loops::do_block-returns-in_err-body-clause-answer rank c words sp =
    let d = at_counts block_view r.block _ _ c.in_ok-at.at words (Err c.in_err-body.field-0.0) c.in_loop.ensures.counts (c.in_err-body.ensures.answer words sp) in
    stopped block_view block_view c.in_ok-at.at c.args.at words c.in_err-body.field-0.0 c.from_residual-in_err-body.result c.from_residual-in_err-body.ensures.1
    (λ x us e. lp.expected_do sp c.args.at c.in_ok-at.at _ c.in_ok-at.ensures.there c.in_ok-at.ensures.next (stops e)) d

pub loops::do_block-returns-in_err-expect-clause-answer : goal.loops::do_block-returns-in_err-expect-clause-answer
loops::do_block-returns-in_err-expect-clause-answer rank c words sp =
    let body = c.in_ok-body.body in
    let d = at_counts block_view r.block _ _ c.in_ok-at.at words (Ok body) c.in_loop.ensures.counts (c.in_ok-body.ensures.answer words sp) in
    faulted block_view c.args.at words faults.Unexpected body.at (kind_at c.args.source.now.tokens.now body.at ≡ Some kinds.End → ⊥) c.in_err-expect.field-0.0 c.from_residual-in_err-expect.result c.from_residual-in_err-expect.ensures.1 c.in_err-expect.ensures.err
    (λ none. lp.expected_do sp c.args.at c.in_ok-at.at _ c.in_ok-at.ensures.there c.in_ok-at.ensures.next (thens d (not_there (no_key sp body.at kinds.End (key w.end_) refl none))))

pub loops::do_block-returns-clause-answer : goal.loops::do_block-returns-clause-answer
loops::do_block-returns-clause-answer rank c words sp =
    let body = c.in_ok-body.body in
    let d = at_counts block_view r.block _ _ c.in_ok-at.at words (Ok body) c.in_loop.ensures.counts (c.in_ok-body.ensures.answer words sp) in
    lp.expected_do sp c.args.at c.in_ok-at.at _ c.in_ok-at.ensures.there c.in_ok-at.ensures.next (thens d (lp.expected_end sp body.at _ _ c.in_ok-expect.ensures.there c.in_ok-expect.ensures.next (gave refl)))

pub loops::repeat_statement-returns-in_err-may_nest-clause-answer : goal.loops::repeat_statement-returns-in_err-may_nest-clause-answer
loops::repeat_statement-returns-in_err-may_nest-clause-answer rank c words sp =
    faulted stat_view c.args.at words faults.TooDeep c.args.at (200 < c.args.scope.depth + 1) c.in_err-may_nest.field-0.0 c.from_residual.result c.from_residual.ensures.1 c.in_err-may_nest.ensures.err
    (λ over. lp.repeat_deep sp (counts c.args.scope) c.args.at c.requires.here (omega (arith, over)))

pub loops::repeat_statement-returns-in_err-body-clause-answer : goal.loops::repeat_statement-returns-in_err-body-clause-answer
loops::repeat_statement-returns-in_err-body-clause-answer rank c words sp =
    let d = at_counts block_view r.block _ _ (c.args.at + 1) words (Err c.in_err-body.field-0.0) c.in_loop.ensures.counts (c.in_err-body.ensures.answer words sp) in
    stopped block_view stat_view (c.args.at + 1) c.args.at words c.in_err-body.field-0.0 c.from_residual-in_err-body.result c.from_residual-in_err-body.ensures.1
    (λ x us e. lp.repeat_opens sp (counts c.args.scope) c.args.at _ c.requires.here (omega (arith, c.in_ok-may_nest.ensures.ok)) (stops e)) d

pub loops::repeat_statement-returns-in_err-at-clause-answer : goal.loops::repeat_statement-returns-in_err-at-clause-answer
loops::repeat_statement-returns-in_err-at-clause-answer rank c words sp =
    let body = c.in_ok-body.body in
    let d = at_counts block_view r.block _ _ (c.args.at + 1) words (Ok body) c.in_loop.ensures.counts (c.in_ok-body.ensures.answer words sp) in
    faulted stat_view c.args.at words faults.Unexpected body.at (kind_at c.args.source.now.tokens.now body.at ≡ Some kinds.Until → ⊥) c.in_err-at.field-0.0 c.from_residual-in_err-at.result c.from_residual-in_err-at.ensures.1 c.in_err-at.ensures.err
    (λ none. lp.repeat_opens sp (counts c.args.scope) c.args.at _ c.requires.here (omega (arith, c.in_ok-may_nest.ensures.ok)) (thens d (not_there (no_key sp body.at kinds.Until (key w.until) refl none))))

pub loops::repeat_statement-returns-in_err-test-clause-answer : goal.loops::repeat_statement-returns-in_err-test-clause-answer
loops::repeat_statement-returns-in_err-test-clause-answer rank c words sp =
    let body = c.in_ok-body.body in
    let d = at_counts block_view r.block _ _ (c.args.at + 1) words (Ok body) c.in_loop.ensures.counts (c.in_ok-body.ensures.answer words sp) in
    stopped expr_view stat_view c.in_ok-at.at c.args.at words c.in_err-test.field-0.0 c.from_residual-in_err-test.result c.from_residual-in_err-test.ensures.1
    (λ x us e. lp.repeat_opens sp (counts c.args.scope) c.args.at _ c.requires.here (omega (arith, c.in_ok-may_nest.ensures.ok)) (thens d (lp.expected sp body.at c.in_ok-at.at _ c.in_ok-at.ensures.there c.in_ok-at.ensures.next (stops e)))) (c.in_err-test.ensures.answer words sp)

pub loops::repeat_statement-returns-clause-answer : goal.loops::repeat_statement-returns-clause-answer
loops::repeat_statement-returns-clause-answer rank c words sp =
    let body = c.in_ok-body.body in
    let d = at_counts block_view r.block _ _ (c.args.at + 1) words (Ok body) c.in_loop.ensures.counts (c.in_ok-body.ensures.answer words sp) in
    lp.repeat_opens sp (counts c.args.scope) c.args.at _ c.requires.here (omega (arith, c.in_ok-may_nest.ensures.ok)) (thens d (lp.expected sp body.at c.in_ok-at.at _ c.in_ok-at.ensures.there c.in_ok-at.ensures.next
    (thens (c.in_ok-test.ensures.answer words sp) (gave (ap (λ l. t.repeat_loop l (block_view body.node) (expr_view c.in_ok-test.test.node)) (sym c.line_at-line.ensures) ∙ sym (lp.view_repeat _ _ _))))))

pub loops::repeat_statement-returns-clause-moves : goal.loops::repeat_statement-returns-clause-moves
loops::repeat_statement-returns-clause-moves rank c = record {
  forth = omega (arith, c.in_ok-test.ensures.moves.forth, c.in_ok-body.ensures.moves.forth, c.in_ok-at.ensures.next);
  within = c.in_ok-test.ensures.moves.within;
  high = omega (arith, lp.tall_at_repeat c.line_at-line.result c.in_ok-body.body.node c.in_ok-test.test.node, c.in_ok-test.ensures.moves.high, c.in_ok-body.ensures.moves.high);
  low = omega (arith, c.in_ok-test.ensures.moves.low, c.in_ok-body.ensures.moves.low, c.in_loop.ensures.depth);
}

pub loops::for_statement-returns-in_err-may_nest-clause-answer : goal.loops::for_statement-returns-in_err-may_nest-clause-answer
loops::for_statement-returns-in_err-may_nest-clause-answer rank c words sp =
    faulted stat_view c.args.at words faults.TooDeep c.args.at (200 < c.args.scope.depth + 1) c.in_err-may_nest.field-0.0 c.from_residual.result c.from_residual.ensures.1 c.in_err-may_nest.ensures.err
    (λ over. lp.for_deep sp (counts c.args.scope) c.args.at c.requires.here (omega (arith, over)))

pub loops::for_statement-returns-in_err-name-clause-answer : goal.loops::for_statement-returns-in_err-name-clause-answer
loops::for_statement-returns-in_err-name-clause-answer rank c words sp =
    stopped (λ y. y) stat_view (c.args.at + 1) c.args.at words c.in_err-name.field-0.0 c.from_residual-in_err-name.result c.from_residual-in_err-name.ensures.1
    (λ x us e. lp.for_opens sp (counts c.args.scope) c.args.at _ c.requires.here (omega (arith, c.in_ok-may_nest.ensures.ok)) e)
    (tg.no_local c.args.source.now sp (λ y. y) _ (c.args.at + 1) c.args.scope.locals c.in_err-name.field-0.0 c.in_err-name.ensures.err)

pub loops::for_statement-returns-then-is-clause-answer : goal.loops::for_statement-returns-then-is-clause-answer
loops::for_statement-returns-then-is-clause-answer rank c words sp =
    onward stat_view (c.args.at + 2) c.args.at words c.numeric_for.result
    (λ r d. lp.for_opens sp (counts c.args.scope) c.args.at r c.requires.here (omega (arith, c.in_ok-may_nest.ensures.ok))
    (lp.local_named c.args.source.now sp _ (c.args.at + 1) (c.args.at + 2) c.args.scope.locals c.in_ok-name.name r c.in_ok-name.ensures.ok c.in_ok-name.ensures.room (omega arith) (just (lp.at_line c.in_ok-name.name (counts c.args.scope) (sym c.line_at-line.ensures) d))))
    (c.numeric_for.ensures.answer words sp)

pub loops::for_statement-returns-else-is-clause-answer : goal.loops::for_statement-returns-else-is-clause-answer
loops::for_statement-returns-else-is-clause-answer rank c words sp =
    onward stat_view (c.args.at + 2) c.args.at words c.generic_for.result
    (λ r d. lp.for_opens sp (counts c.args.scope) c.args.at r c.requires.here (omega (arith, c.in_ok-may_nest.ensures.ok))
    (lp.local_named c.args.source.now sp _ (c.args.at + 1) (c.args.at + 2) c.args.scope.locals c.in_ok-name.name r c.in_ok-name.ensures.ok c.in_ok-name.ensures.room (omega arith) (just (lp.at_line c.in_ok-name.name (counts c.args.scope) (sym c.line_at-line.ensures) d))))
    (c.generic_for.ensures.answer words sp)

pub loops::numeric_for-returns-in_err-first-clause-answer : goal.loops::numeric_for-returns-in_err-first-clause-answer
loops::numeric_for-returns-in_err-first-clause-answer rank c words sp =
    stopped expr_view stat_view (c.args.at + 1) c.args.at words c.in_err-first.field-0.0 c.from_residual.result c.from_residual.ensures.1
    (λ x us e. lp.numeric_opens sp c.args.line c.args.name (counts c.args.scope) c.args.at _ c.requires.here (stops e)) (c.in_err-first.ensures.answer words sp)

pub loops::numeric_for-returns-in_err-at-clause-answer : goal.loops::numeric_for-returns-in_err-at-clause-answer
loops::numeric_for-returns-in_err-at-clause-answer rank c words sp =
    let first = c.in_ok-first.first in
    faulted stat_view c.args.at words faults.Unexpected first.at (kind_at c.args.source.now.tokens.now first.at ≡ Some kinds.Comma → ⊥) c.in_err-at.field-0.0 c.from_residual-in_err-at.result c.from_residual-in_err-at.ensures.1 c.in_err-at.ensures.err
    (λ none. lp.numeric_opens sp c.args.line c.args.name (counts c.args.scope) c.args.at _ c.requires.here (thens (c.in_ok-first.ensures.answer words sp) (not_there (no_key sp first.at kinds.Comma (key w.comma) refl none))))

pub loops::numeric_for-returns-in_err-limit-clause-answer : goal.loops::numeric_for-returns-in_err-limit-clause-answer
loops::numeric_for-returns-in_err-limit-clause-answer rank c words sp =
    let first = c.in_ok-first.first in
    stopped expr_view stat_view c.in_ok-at.at c.args.at words c.in_err-limit.field-0.0 c.from_residual-in_err-limit.result c.from_residual-in_err-limit.ensures.1
    (λ x us e. lp.numeric_opens sp c.args.line c.args.name (counts c.args.scope) c.args.at _ c.requires.here (thens (c.in_ok-first.ensures.answer words sp) (lp.expected_comma sp first.at c.in_ok-at.at _ c.in_ok-at.ensures.there c.in_ok-at.ensures.next (stops e)))) (c.in_err-limit.ensures.answer words sp)

pub loops::numeric_for-returns-in_err-step-clause-answer : goal.loops::numeric_for-returns-in_err-step-clause-answer
loops::numeric_for-returns-in_err-step-clause-answer rank c words sp =
    let first = c.in_ok-first.first in
    let limit = c.in_ok-limit.limit in
    stopped (λ y. y) stat_view limit.at c.args.at words c.in_err-step.field-0.0 c.from_residual-in_err-step.result c.from_residual-in_err-step.ensures.1
    (λ x us e. lp.numeric_opens sp c.args.line c.args.name (counts c.args.scope) c.args.at _ c.requires.here (thens (c.in_ok-first.ensures.answer words sp) (lp.expected_comma sp first.at c.in_ok-at.at _ c.in_ok-at.ensures.there c.in_ok-at.ensures.next
    (thens (c.in_ok-limit.ensures.answer words sp) (stops e)))))
    (sx.stopped_part (r.program (r.num_for_rest c.args.line c.args.name (expr_view first.node) (expr_view limit.node) (counts c.args.scope))) (lp.after_step (counts c.args.scope)) (lp.put_step c.args.line c.args.name (expr_view first.node) (expr_view limit.node)) (λ y. y) limit.at words c.in_err-step.field-0.0
    (c.in_err-step.ensures.answer c.args.line c.args.name (expr_view first.node) (expr_view limit.node) words sp))

pub loops::numeric_for-returns-in_err-body-clause-answer : goal.loops::numeric_for-returns-in_err-body-clause-answer
loops::numeric_for-returns-in_err-body-clause-answer rank c words sp =
    let first = c.in_ok-first.first in
    let limit = c.in_ok-limit.limit in
    let step = c.in_ok-step.step in
    stopped block_view stat_view step.at c.args.at words c.in_err-body.field-0.0 c.from_residual-in_err-body.result c.from_residual-in_err-body.ensures.1
    (λ x us e. lp.numeric_opens sp c.args.line c.args.name (counts c.args.scope) c.args.at _ c.requires.here (thens (c.in_ok-first.ensures.answer words sp) (lp.expected_comma sp first.at c.in_ok-at.at _ c.in_ok-at.ensures.there c.in_ok-at.ensures.next
    (thens (c.in_ok-limit.ensures.answer words sp) (stops (c.in_ok-step.ensures.answer c.args.line c.args.name (expr_view first.node) (expr_view limit.node) words sp (r.stuck x us) e)))))) (c.in_err-body.ensures.answer words sp)

pub loops::numeric_for-returns-clause-answer : goal.loops::numeric_for-returns-clause-answer
loops::numeric_for-returns-clause-answer rank c words sp =
    let first = c.in_ok-first.first in
    let limit = c.in_ok-limit.limit in
    let step = c.in_ok-step.step in
    let body = c.in_ok-body.body in
    lp.numeric_opens sp c.args.line c.args.name (counts c.args.scope) c.args.at _ c.requires.here (thens (c.in_ok-first.ensures.answer words sp) (lp.expected_comma sp first.at c.in_ok-at.at _ c.in_ok-at.ensures.there c.in_ok-at.ensures.next
    (thens (c.in_ok-limit.ensures.answer words sp) (thens (c.in_ok-step.ensures.answer c.args.line c.args.name (expr_view first.node) (expr_view limit.node) words sp (r.got (block_view body.node) (drop body.at words)) (c.in_ok-body.ensures.answer words sp))
    (gave (sym (lp.view_num_for _ _ _ _ _ _)))))))

pub loops::numeric_for-returns-clause-moves : goal.loops::numeric_for-returns-clause-moves
loops::numeric_for-returns-clause-moves rank c = record {
  forth = omega (arith, c.in_ok-first.ensures.moves.forth, c.in_ok-at.ensures.next, c.in_ok-limit.ensures.moves.forth, c.in_ok-step.ensures.moves.forth, c.in_ok-body.ensures.moves.forth);
  within = c.in_ok-body.ensures.moves.within;
  high = omega (arith, lp.tall_at_num_for c.args.line c.args.name c.in_ok-first.first.node c.in_ok-limit.limit.node c.in_ok-step.step.node c.in_ok-body.body.node, c.in_ok-first.ensures.moves.high, c.in_ok-limit.ensures.moves.high, c.in_ok-step.ensures.moves.high, c.in_ok-body.ensures.moves.high);
  low = omega (arith, c.in_ok-first.ensures.moves.low, c.in_ok-limit.ensures.moves.low, c.in_ok-step.ensures.moves.low, c.in_ok-body.ensures.moves.low);
}

pub loops::step-returns-then-not-is-clause-answer : goal.loops::step-returns-then-not-is-clause-answer
loops::step-returns-then-not-is-clause-answer rank c line x a b words sp r d =
    lp.no_step sp line x a b (counts c.args.scope) c.args.at r (λ e. false≢true (sym c.if-not-is.true ∙ c.is.ensures.value.1 e)) d

pub loops::step-returns-in_err-value-clause-answer : goal.loops::step-returns-in_err-value-clause-answer
loops::step-returns-in_err-value-clause-answer rank c line x a b words sp =
    part_stopped expr_view (lp.after_step (counts c.args.scope)) (lp.put_step line x a b) (c.args.at + 1) c.args.at words c.in_err-value.field-0.0 c.from_residual.result c.from_residual.ensures.1
    (λ y us e. lp.one_step sp line x a b (counts c.args.scope) c.args.at _ (c.is.ensures.value.0 c.if-not-is.false) (stops e)) (c.in_err-value.ensures.answer words sp)

pub loops::step-returns-clause-answer : goal.loops::step-returns-clause-answer
loops::step-returns-clause-answer rank c line x a b words sp r d =
    lp.one_step sp line x a b (counts c.args.scope) c.args.at _ (c.is.ensures.value.0 c.if-not-is.false) (thens (c.in_ok-value.ensures.answer words sp) (given {f = λ body. t.num_for_by line x a b (expr_view c.in_ok-value.value.node) body} r d))

pub loops::generic_for-returns-in_err-names-clause-answer : goal.loops::generic_for-returns-in_err-names-clause-answer
loops::generic_for-returns-in_err-names-clause-answer rank c words sp =
    stopped (λ names. drop 1 names) stat_view c.args.at c.args.at words c.in_err-names.field-0.0 c.from_residual.result c.from_residual.ensures.1
    (λ x us e. lp.generic_opens sp c.args.line c.args.name (counts c.args.scope) c.args.at _ c.requires.here (stops (lp.at_more (omega arith) e))) (c.in_err-names.ensures.answer words sp)

pub loops::generic_for-returns-in_err-at-clause-answer : goal.loops::generic_for-returns-in_err-at-clause-answer
loops::generic_for-returns-in_err-at-clause-answer rank c words sp =
    let names = c.in_ok-names.names in
    faulted stat_view c.args.at words faults.Unexpected names.at (kind_at c.args.source.now.tokens.now names.at ≡ Some kinds.In → ⊥) c.in_err-at.field-0.0 c.from_residual-in_err-at.result c.from_residual-in_err-at.ensures.1 c.in_err-at.ensures.err
    (λ none. lp.generic_opens sp c.args.line c.args.name (counts c.args.scope) c.args.at _ c.requires.here (thens (lp.at_more (omega arith) (c.in_ok-names.ensures.answer words sp)) (not_there (no_key sp names.at kinds.In (key w.in_) refl none))))

pub loops::generic_for-returns-in_err-values-clause-answer : goal.loops::generic_for-returns-in_err-values-clause-answer
loops::generic_for-returns-in_err-values-clause-answer rank c words sp =
    let names = c.in_ok-names.names in
    stopped exprs_view stat_view c.in_ok-at.at c.args.at words c.in_err-values.field-0.0 c.from_residual-in_err-values.result c.from_residual-in_err-values.ensures.1
    (λ x us e. lp.generic_opens sp c.args.line c.args.name (counts c.args.scope) c.args.at _ c.requires.here (thens (lp.at_more (omega arith) (c.in_ok-names.ensures.answer words sp)) (lp.expected_in sp names.at c.in_ok-at.at _ c.in_ok-at.ensures.there c.in_ok-at.ensures.next (stops e)))) (c.in_err-values.ensures.answer words sp)

pub loops::generic_for-returns-in_err-body-clause-answer : goal.loops::generic_for-returns-in_err-body-clause-answer
loops::generic_for-returns-in_err-body-clause-answer rank c words sp =
    let names = c.in_ok-names.names in
    let values = c.in_ok-values.values in
    stopped block_view stat_view values.at c.args.at words c.in_err-body.field-0.0 c.from_residual-in_err-body.result c.from_residual-in_err-body.ensures.1
    (λ x us e. lp.generic_opens sp c.args.line c.args.name (counts c.args.scope) c.args.at _ c.requires.here (thens (lp.at_more (omega arith) (c.in_ok-names.ensures.answer words sp)) (lp.expected_in sp names.at c.in_ok-at.at _ c.in_ok-at.ensures.there c.in_ok-at.ensures.next
    (thens (c.in_ok-values.ensures.answer words sp) (stops (lp.so_many (c.len-count.ensures ∙ ap length c.in_ok-names.ensures.first) e)))))) (c.in_err-body.ensures.answer words sp)

pub loops::generic_for-returns-clause-answer : goal.loops::generic_for-returns-clause-answer
loops::generic_for-returns-clause-answer rank c words sp =
    let names = c.in_ok-names.names in
    let values = c.in_ok-values.values in
    lp.generic_opens sp c.args.line c.args.name (counts c.args.scope) c.args.at _ c.requires.here (thens (lp.at_more (omega arith) (c.in_ok-names.ensures.answer words sp)) (lp.expected_in sp names.at c.in_ok-at.at _ c.in_ok-at.ensures.there c.in_ok-at.ensures.next
    (thens (c.in_ok-values.ensures.answer words sp) (thens (lp.so_many (c.len-count.ensures ∙ ap length c.in_ok-names.ensures.first) (c.in_ok-body.ensures.answer words sp))
    (gave (ap (λ xs. t.gen_for c.args.line xs (exprs_view values.node) (block_view c.in_ok-body.body.node)) (sym c.in_ok-names.ensures.first) ∙ sym (lp.view_gen_for _ _ _ _)))))))

pub loops::generic_for-returns-clause-moves : goal.loops::generic_for-returns-clause-moves
loops::generic_for-returns-clause-moves rank c = record {
  forth = omega (arith, c.in_ok-names.ensures.forth, c.in_ok-at.ensures.next, c.in_ok-values.ensures.moves.forth, c.in_ok-body.ensures.moves.forth);
  within = c.in_ok-body.ensures.moves.within;
  high = omega (arith, lp.tall_at_gen_for c.args.line c.in_ok-names.names.node c.in_ok-values.values.node c.in_ok-body.body.node, c.in_ok-values.ensures.moves.high, c.in_ok-body.ensures.moves.high);
  low = omega (arith, c.in_ok-values.ensures.moves.low, c.in_ok-body.ensures.moves.low);
}

-- ---- assignments

pub assignments::local_variables-returns-in_err-name-clause-answer : goal.assignments::local_variables-returns-in_err-name-clause-answer
assignments::local_variables-returns-in_err-name-clause-answer rank c words sp =
    stopped (λ y. y) stat_view (c.args.at + 1) c.args.at words c.in_err-name.field-0.0 c.from_residual.result c.from_residual.ensures.1
    (λ x us e. tg.local_opens sp (counts c.args.scope) c.args.at _ c.requires.here c.requires.plain e)
    (tg.no_local c.args.source.now sp (λ y. y) _ (c.args.at + 1) c.args.scope.locals c.in_err-name.field-0.0 c.in_err-name.ensures.err)

pub assignments::local_variables-returns-in_err-names-clause-answer : goal.assignments::local_variables-returns-in_err-names-clause-answer
assignments::local_variables-returns-in_err-names-clause-answer rank c words sp =
    stopped (λ names. drop 1 names) stat_view (c.args.at + 2) c.args.at words c.in_err-names.field-0.0 c.from_residual-in_err-names.result c.from_residual-in_err-names.ensures.1
    (λ x us e. tg.local_opens sp (counts c.args.scope) c.args.at _ c.requires.here c.requires.plain
    (lp.local_named c.args.source.now sp _ (c.args.at + 1) (c.args.at + 2) c.args.scope.locals c.in_ok-name.name _ c.in_ok-name.ensures.ok c.in_ok-name.ensures.room (omega arith) (stops (lp.at_more (omega arith) e))))
    (c.in_err-names.ensures.answer words sp)

pub assignments::local_variables-returns-in_err-values-clause-answer : goal.assignments::local_variables-returns-in_err-values-clause-answer
assignments::local_variables-returns-in_err-values-clause-answer rank c words sp =
    let names = c.in_ok-names.names in
    stopped exprs_view stat_view names.at c.args.at words c.in_err-values.field-0.0 c.from_residual-in_err-values.result c.from_residual-in_err-values.ensures.1
    (λ x us e. tg.local_opens sp (counts c.args.scope) c.args.at _ c.requires.here c.requires.plain
    (lp.local_named c.args.source.now sp _ (c.args.at + 1) (c.args.at + 2) c.args.scope.locals c.in_ok-name.name _ c.in_ok-name.ensures.ok c.in_ok-name.ensures.room (omega arith)
    (thens (lp.at_more (omega arith) (c.in_ok-names.ensures.answer words sp)) (stops e))))
    (c.in_err-values.ensures.answer words sp)

pub assignments::local_variables-returns-clause-answer : goal.assignments::local_variables-returns-clause-answer
assignments::local_variables-returns-clause-answer rank c words sp =
    let names = c.in_ok-names.names in
    tg.local_opens sp (counts c.args.scope) c.args.at _ c.requires.here c.requires.plain
    (lp.local_named c.args.source.now sp _ (c.args.at + 1) (c.args.at + 2) c.args.scope.locals c.in_ok-name.name _ c.in_ok-name.ensures.ok c.in_ok-name.ensures.room (omega arith)
    (thens (lp.at_more (omega arith) (c.in_ok-names.ensures.answer words sp)) (thens (c.in_ok-values.ensures.answer words sp)
    (gave (tg.same_local _ c.line_at.result c.in_ok-name.name names.node c.in_ok-values.values.node c.line_at.ensures c.in_ok-names.ensures.first)))))

pub assignments::initial_values-returns-in_err-may_nest-clause-answer : goal.assignments::initial_values-returns-in_err-may_nest-clause-answer
assignments::initial_values-returns-in_err-may_nest-clause-answer rank c words sp =
    faulted exprs_view c.args.at words faults.TooDeep c.args.at (200 < c.args.scope.depth + 1) c.in_err-may_nest.field-0.0 c.from_residual.result c.from_residual.ensures.1 c.in_err-may_nest.ensures.err
    (λ over. tg.init_deep sp (counts c.args.scope) c.args.at (c.is.ensures.value.0 c.if-is.true) (omega (arith, over)))

pub assignments::initial_values-returns-in_ok-may_nest-clause-answer : goal.assignments::initial_values-returns-in_ok-may_nest-clause-answer
assignments::initial_values-returns-in_ok-may_nest-clause-answer rank c words sp =
    onward exprs_view (c.args.at + 1) c.args.at words c.expressions.result
    (λ r d. tg.init_opens sp (counts c.args.scope) c.args.at r (c.is.ensures.value.0 c.if-is.true) (omega (arith, c.in_ok-may_nest.ensures.ok)) d) (c.expressions.ensures.answer words sp)

pub assignments::initial_values-returns-else-is-clause-answer : goal.assignments::initial_values-returns-else-is-clause-answer
assignments::initial_values-returns-else-is-clause-answer rank c words sp =
    tg.no_init sp (counts c.args.scope) c.args.at c.new.result (λ e. false≢true (sym c.if-is.false ∙ c.is.ensures.value.1 e)) c.new.ensures

pub assignments::call_or_assignment-returns-in_err-first-clause-answer : goal.assignments::call_or_assignment-returns-in_err-first-clause-answer
assignments::call_or_assignment-returns-in_err-first-clause-answer rank c words sp =
    stopped expr_view stat_view c.args.at c.args.at words c.in_err-first.field-0.0 c.from_residual.result c.from_residual.ensures.1
    (λ x us e. tg.stat_prefix sp (counts c.args.scope) c.args.at _ c.requires.here (stops e)) (c.in_err-first.ensures.answer words sp)

pub assignments::call_or_assignment-returns-in-Variable-clause-answer : goal.assignments::call_or_assignment-returns-in-Variable-clause-answer
assignments::call_or_assignment-returns-in-Variable-clause-answer rank c words sp =
    let first = c.in_ok-first.first in
    onward stat_view first.at c.args.at words c.assignment.result
    (λ r d. tg.stat_prefix sp (counts c.args.scope) c.args.at r c.requires.here (thens (c.in_ok-first.ensures.answer words sp) (just (tg.rest_at (counts c.args.scope) (expr_view first.node) c.line_at-line.ensures d))))
    (c.assignment.ensures.answer words sp)

pub assignments::call_or_assignment-returns-in-Call-clause-answer : goal.assignments::call_or_assignment-returns-in-Call-clause-answer
assignments::call_or_assignment-returns-in-Call-clause-answer rank c words sp =
    let first = c.in_ok-first.first in
    tg.stat_prefix sp (counts c.args.scope) c.args.at _ c.requires.here (thens (c.in_ok-first.ensures.answer words sp) (just
    (tg.rest_at (counts c.args.scope) (expr_view first.node) c.line_at-line.ensures (tg.call_value (counts c.args.scope) c.line_at-line.result first.node (sym c.shape_of.ensures ∙ ap shape_view c.in-Call.is)))))

pub assignments::call_or_assignment-returns-in-Other-clause-answer : goal.assignments::call_or_assignment-returns-in-Other-clause-answer
assignments::call_or_assignment-returns-in-Other-clause-answer rank c words sp =
    let first = c.in_ok-first.first in
    tg.stat_prefix sp (counts c.args.scope) c.args.at _ c.requires.here (thens (c.in_ok-first.ensures.answer words sp) (stops
    (tg.other_stat _ (counts c.args.scope) (expr_view first.node) (sym c.shape_of.ensures ∙ ap shape_view c.in-Other.is))))

pub assignments::assignment-targets-init : goal.assignments::assignment-targets-init
assignments::assignment-targets-init rank c =
    let one = c.in_ok-push.ensures.items ∙ ap (λ (ys : List Expr). ys ++ c.args.first.node ∷ []) c.new-targets.ensures.items in
    record {
      forth = omega arith;
      within = c.requires.behind.within;
      high = omega (arith, c.requires.behind.high, ap exprs_tall one);
      front = tg.target_front _ _ one;
      low = c.requires.behind.low;
      so_far = λ words sp. tg.targets_begin words (counts c.args.scope) c.args.first.at c.args.first.node _ one;
    }

pub assignments::assignment-targets-preserved : goal.assignments::assignment-targets-preserved
assignments::assignment-targets-preserved rank c =
    let m = c.in_ok-next.ensures.moves in
    let more = c.in_ok-push-2.ensures.items in
    record {
      forth = omega (arith, m.forth, c.targets.invariant.forth);
      within = m.within;
      high = omega (arith, m.high, c.targets.invariant.high, ap exprs_tall more, lists.exprs_tall_last c.targets.targets.items c.in_ok-next.next.node, c.max-height.ensures);
      front = tg.target_stays _ _ _ _ c.targets.invariant.front more;
      low = omega (arith, m.low, c.targets.invariant.low, c.max-height.ensures);
      so_far = λ words sp. tg.one_more_target sp (counts c.args.scope) c.args.first.at c.targets.end _ c.args.first.node c.in_ok-next.next.node c.targets.targets.items _ (c.is.ensures.value.0 c.targets-test.true) c.targets.invariant.front more
          (c.in_ok-next.ensures.answer words sp) (c.targets.invariant.so_far words sp);
    }

pub assignments::assignment-returns-in_err-next-clause-answer : goal.assignments::assignment-returns-in_err-next-clause-answer
assignments::assignment-returns-in_err-next-clause-answer rank c words sp =
    let k = counts c.args.scope in
    let end = c.targets.end in
    stopped (λ y. y) stat_view (end + 1) c.args.first.at words c.in_err-next.field-0.0 c.from_residual-in_err-next.result c.from_residual-in_err-next.ensures.1
    (λ x us e. tg.var_stat c.args.line k (expr_view c.args.first.node) c.requires.here (stops (c.targets.invariant.so_far words sp (r.stuck x us) (tg.target_reads sp k end _ (c.is.ensures.value.0 c.targets-test.true) e))))
    (sx.stopped_part (r.then (r.prefix r.targeted k) (λ e. r.target_of k e (r.shape e))) (tg.after_target k) tg.put_target (λ y. y) (end + 1) words c.in_err-next.field-0.0 (c.in_err-next.ensures.answer words sp))

pub assignments::assignment-returns-in_err-at-clause-answer : goal.assignments::assignment-returns-in_err-at-clause-answer
assignments::assignment-returns-in_err-at-clause-answer rank c words sp =
    let k = counts c.args.scope in
    let end = c.targets.end in
    faulted stat_view c.args.first.at words faults.Unexpected end (kind_at c.args.source.now.tokens.now end ≡ Some kinds.Assign → ⊥) c.in_err-at.field-0.0 c.from_residual-in_err-at.result c.from_residual-in_err-at.ensures.1 c.in_err-at.ensures.err
    (λ none. tg.var_stat c.args.line k (expr_view c.args.first.node) c.requires.here (thens (tg.targets_end sp k c.args.first.at end c.targets.targets.items (λ e. false≢true (sym c.targets-test.false ∙ c.is.ensures.value.1 e)) (c.targets.invariant.so_far words sp))
    (not_there (no_key sp end kinds.Assign (key w.assign) refl none))))

pub assignments::assignment-returns-in_err-values-clause-answer : goal.assignments::assignment-returns-in_err-values-clause-answer
assignments::assignment-returns-in_err-values-clause-answer rank c words sp =
    let k = counts c.args.scope in
    let end = c.targets.end in
    stopped exprs_view stat_view c.in_ok-at.at c.args.first.at words c.in_err-values.field-0.0 c.from_residual-in_err-values.result c.from_residual-in_err-values.ensures.1
    (λ x us e. tg.var_stat c.args.line k (expr_view c.args.first.node) c.requires.here (thens (tg.targets_end sp k c.args.first.at end c.targets.targets.items (λ e. false≢true (sym c.targets-test.false ∙ c.is.ensures.value.1 e)) (c.targets.invariant.so_far words sp))
    (lp.expected_assign sp end c.in_ok-at.at _ c.in_ok-at.ensures.there c.in_ok-at.ensures.next (stops e)))) (c.in_err-values.ensures.answer words sp)

pub assignments::assignment-returns-clause-answer : goal.assignments::assignment-returns-clause-answer
assignments::assignment-returns-clause-answer rank c words sp =
    let k = counts c.args.scope in
    let end = c.targets.end in
    tg.var_stat c.args.line k (expr_view c.args.first.node) c.requires.here (thens (tg.targets_end sp k c.args.first.at end c.targets.targets.items (λ e. false≢true (sym c.targets-test.false ∙ c.is.ensures.value.1 e)) (c.targets.invariant.so_far words sp))
    (lp.expected_assign sp end c.in_ok-at.at _ c.in_ok-at.ensures.there c.in_ok-at.ensures.next (thens (c.in_ok-values.ensures.answer words sp)
    (gave (tg.same_assign c.args.line c.args.first.node c.targets.targets.items c.from_vec.result c.in_ok-values.values.node c.targets.invariant.front c.from_vec.ensures)))))

pub assignments::target-returns-in_err-read-clause-answer : goal.assignments::target-returns-in_err-read-clause-answer
assignments::target-returns-in_err-read-clause-answer rank c words sp =
    part_stopped expr_view (tg.after_target (counts c.args.scope)) tg.put_target c.args.at c.args.at words c.in_err-read.field-0.0 c.from_residual.result c.from_residual.ensures.1 (λ x us e. stops e) (c.in_err-read.ensures.answer words sp)

pub assignments::target-returns-in-Variable-clause-answer : goal.assignments::target-returns-in-Variable-clause-answer
assignments::target-returns-in-Variable-clause-answer rank c words sp o more =
    thens (c.in_ok-read.ensures.answer words sp) (tg.var_target (counts c.args.scope) (expr_view c.in_ok-read.read.node) o (sym c.shape_of.ensures ∙ ap shape_view c.in-Variable.is) more)

pub assignments::target-returns-in_default : goal.assignments::target-returns-in_default
assignments::target-returns-in_default rank c = record {
  moves = tt;
  answer = λ words sp. thens (c.in_ok-read.ensures.answer words sp) (tg.other_target (counts c.args.scope) (expr_view c.in_ok-read.read.node) (λ v. c.in_default.not-Variable (tg.only_variable _ (c.shape_of.ensures ∙ v))));
}

-- ---- tables

pub tables::table-returns-in_err-may_nest-clause-answer : goal.tables::table-returns-in_err-may_nest-clause-answer
tables::table-returns-in_err-may_nest-clause-answer rank c words sp =
    let h = key_stands sp c.args.at kinds.OpenBrace tt c.requires.here in
    faulted expr_view c.args.at words faults.TooDeep c.args.at (200 < c.args.scope.depth + 1) c.in_err-may_nest.field-0.0 c.from_residual.result c.from_residual.ensures.1 c.in_err-may_nest.ensures.err
    (λ over. look_at h.is (passed_at h.is (passes_deep _ (omega (arith, over)))))

pub tables::table-returns-in_err-fields-clause-answer : goal.tables::table-returns-in_err-fields-clause-answer
tables::table-returns-in_err-fields-clause-answer rank c words sp =
    let h = key_stands sp c.args.at kinds.OpenBrace tt c.requires.here in
    let d = at_counts fields_view r.fields _ _ (c.args.at + 1) words (Err c.in_err-fields.field-0.0) c.deeper.ensures.counts (c.in_err-fields.ensures.answer words sp) in
    stopped {whole = r.program (r.first (counts c.args.scope))} fields_view expr_view (c.args.at + 1) c.args.at words c.in_err-fields.field-0.0 c.from_residual-in_err-fields.result c.from_residual-in_err-fields.ensures.1
    (λ x us e. look_at h.is (take_at h.is (keeps_deep _ (omega (arith, c.in_ok-may_nest.ensures.ok))) (next c.args.at words (stops e)))) d

pub tables::table-returns-clause-answer : goal.tables::table-returns-clause-answer
tables::table-returns-clause-answer rank c words sp =
    let h = key_stands sp c.args.at kinds.OpenBrace tt c.requires.here in
    let d = at_counts fields_view r.fields _ _ (c.args.at + 1) words (Ok c.in_ok-fields.fields) c.deeper.ensures.counts (c.in_ok-fields.ensures.answer words sp) in
    look_at h.is (take_at h.is (keeps_deep _ (omega (arith, c.in_ok-may_nest.ensures.ok))) (next c.args.at words (thens d
    (gave (ap (λ l. t.table l (fields_view c.in_ok-fields.fields.node)) (h.line ∙ sym c.line_at.ensures) ∙ sym (tb.view_table _ _))))))

pub tables::table-returns-clause-moves : goal.tables::table-returns-clause-moves
tables::table-returns-clause-moves rank c = record {
  forth = omega (arith, c.in_ok-fields.ensures.moves.forth);
  within = c.in_ok-fields.ensures.moves.within;
  high = tb.high_table _ _ _ c.in_ok-fields.ensures.moves.high;
  low = omega (arith, c.in_ok-fields.ensures.moves.low, c.deeper.ensures.depth);
}

pub tables::fields-returns-in_err-read-clause-answer : goal.tables::fields-returns-in_err-read-clause-answer
tables::fields-returns-in_err-read-clause-answer rank c words sp =
    let end = c.fields.end in
    stopped (λ y. y) fields_view end c.args.at words c.in_err-read.field-0.0 c.from_residual.result c.from_residual.ensures.1
    (λ x us e. c.fields.invariant.so_far words sp (r.stuck x us) e)
    (sx.stopped_part (r.program (r.fields (counts c.args.scope))) (fd.after_field (counts c.args.scope)) fd.put_field (λ y. y) end words c.in_err-read.field-0.0 (c.in_err-read.ensures.answer words sp))

pub tables::fields-returns-in_err-end-clause-answer : goal.tables::fields-returns-in_err-end-clause-answer
tables::fields-returns-in_err-end-clause-answer rank c words sp =
    let read = c.in_ok-read.read in
    stopped (λ y. y) fields_view read.at c.args.at words c.in_err-end.field-0.0 c.from_residual-in_err-end.result c.from_residual-in_err-end.ensures.1
    (λ x us e. c.fields.invariant.so_far words sp (r.stuck x us) (c.in_ok-read.ensures.answer words sp (r.stuck x us) e))
    (fd.end_stopped c.args.source.now (counts c.args.scope) read.at words c.in_err-end.field-0.0 (c.in_err-end.ensures.answer (counts c.args.scope) words sp))

pub tables::fields-fields-preserved : goal.tables::fields-fields-preserved
tables::fields-fields-preserved rank c =
    let m = c.in_ok-read.ensures.moves in
    let more = c.in_ok-push.ensures.items in
    let up = greater_is _ _ _ c.max-height.ensures in
    record {
      forth = omega (arith, m.forth, c.fields.invariant.forth, c.in_ok-end.ensures.forth);
      within = c.in_ok-end.ensures.within;
      high = tb.longer_fields_high _ c.fields.fields.items c.in_ok-read.read.node _ _ _ more up c.fields.invariant.high m.high;
      low = omega (arith, m.low, c.fields.invariant.low, up);
      so_far = λ words sp o d. tb.longer_fields _ c.fields.fields.items c.in_ok-read.read.node o more (c.fields.invariant.so_far words sp (as_part (λ rest. field_view c.in_ok-read.read.node rest) o)
          (c.in_ok-read.ensures.answer words sp o (c.in_ok-end.ensures.answer (counts c.args.scope) words sp o d)));
    }

pub tables::fields-returns-clause-answer : goal.tables::fields-returns-clause-answer
tables::fields-returns-clause-answer rank c words sp =
    let end = c.fields.end in
    tb.fields_are _ c.fields.fields.items c.from_vec.ensures (c.fields.invariant.so_far words sp (r.got t.no_fields (drop (end + 1) words)) (fd.braces_close sp (counts c.args.scope) end (c.is.ensures.value.0 c.fields-test.false)))

pub tables::field-returns-in_err-expression-in_default-clause-answer : goal.tables::field-returns-in_err-expression-in_default-clause-answer
tables::field-returns-in_err-expression-in_default-clause-answer rank c words sp =
    let plain : fd.is_plain (kind_at c.args.source.now.tokens.now c.args.at) ≡ true = search rules in
    part_stopped expr_view (fd.after_field (counts c.args.scope)) fd.put_field c.args.at c.args.at words c.in_err-expression-in_default.field-0.0 c.from_residual.result c.from_residual.ensures.1
    (λ x us e. fd.plain_opens sp (counts c.args.scope) c.args.at _ plain c.requires.here (stops e)) (c.in_err-expression-in_default.ensures.answer words sp)

pub tables::field-returns-in_ok-expression-in_default-clause-answer : goal.tables::field-returns-in_ok-expression-in_default-clause-answer
tables::field-returns-in_ok-expression-in_default-clause-answer rank c words sp o more =
    let plain : fd.is_plain (kind_at c.args.source.now.tokens.now c.args.at) ≡ true = search rules in
    fd.plain_opens sp (counts c.args.scope) c.args.at _ plain c.requires.here (thens (c.in_ok-expression-in_default.ensures.answer words sp)
    (fd.item_closes words (counts c.args.scope) c.in_ok-expression-in_default.field-0.at _ c.in_ok-expression-in_default.field-0.node _ o c.item.ensures.node c.item.ensures.at more))

pub tables::keyed_field-returns-in_err-may_nest-clause-answer : goal.tables::keyed_field-returns-in_err-may_nest-clause-answer
tables::keyed_field-returns-in_err-may_nest-clause-answer rank c words sp =
    part_faulted (fd.after_field (counts c.args.scope)) fd.put_field c.args.at words faults.TooDeep c.args.at (200 < c.args.scope.depth + 1) c.in_err-may_nest.field-0.0 c.from_residual.result c.from_residual.ensures.1 c.in_err-may_nest.ensures.err
    (λ over. fd.keyed_deep sp (counts c.args.scope) c.args.at c.requires.here (omega (arith, over)))

pub tables::keyed_field-returns-in_err-key-clause-answer : goal.tables::keyed_field-returns-in_err-key-clause-answer
tables::keyed_field-returns-in_err-key-clause-answer rank c words sp =
    part_stopped expr_view (fd.after_field (counts c.args.scope)) fd.put_field (c.args.at + 1) c.args.at words c.in_err-key.field-0.0 c.from_residual-in_err-key.result c.from_residual-in_err-key.ensures.1
    (λ x us e. fd.keyed_opens sp (counts c.args.scope) c.args.at _ c.requires.here (omega (arith, c.in_ok-may_nest.ensures.ok)) (stops e)) (c.in_err-key.ensures.answer words sp)

pub tables::keyed_field-returns-in_err-at-clause-answer : goal.tables::keyed_field-returns-in_err-at-clause-answer
tables::keyed_field-returns-in_err-at-clause-answer rank c words sp =
    let inner = c.in_ok-key.key in
    part_faulted (fd.after_field (counts c.args.scope)) fd.put_field c.args.at words faults.Unexpected inner.at (kind_at c.args.source.now.tokens.now inner.at ≡ Some kinds.CloseBracket → ⊥) c.in_err-at.field-0.0 c.from_residual-in_err-at.result c.from_residual-in_err-at.ensures.1 c.in_err-at.ensures.err
    (λ none. fd.keyed_opens sp (counts c.args.scope) c.args.at _ c.requires.here (omega (arith, c.in_ok-may_nest.ensures.ok)) (thens (c.in_ok-key.ensures.answer words sp) (not_there (no_key sp inner.at kinds.CloseBracket (key w.close_bracket) refl none))))

pub tables::keyed_field-returns-in_err-at-2-clause-answer : goal.tables::keyed_field-returns-in_err-at-2-clause-answer
tables::keyed_field-returns-in_err-at-2-clause-answer rank c words sp =
    let inner = c.in_ok-key.key in
    let close = c.in_ok-at.at in
    part_faulted (fd.after_field (counts c.args.scope)) fd.put_field c.args.at words faults.Unexpected close (kind_at c.args.source.now.tokens.now close ≡ Some kinds.Assign → ⊥) c.in_err-at-2.field-0.0 c.from_residual-in_err-at-2.result c.from_residual-in_err-at-2.ensures.1 c.in_err-at-2.ensures.err
    (λ none. fd.keyed_opens sp (counts c.args.scope) c.args.at _ c.requires.here (omega (arith, c.in_ok-may_nest.ensures.ok)) (thens (c.in_ok-key.ensures.answer words sp)
    (fd.bracketed sp inner.at close _ c.in_ok-at.ensures.there c.in_ok-at.ensures.next (not_there (no_key sp close kinds.Assign (key w.assign) refl none)))))

pub tables::keyed_field-returns-in_err-value-clause-answer : goal.tables::keyed_field-returns-in_err-value-clause-answer
tables::keyed_field-returns-in_err-value-clause-answer rank c words sp =
    let inner = c.in_ok-key.key in
    let close = c.in_ok-at.at in
    part_stopped expr_view (fd.after_field (counts c.args.scope)) fd.put_field c.in_ok-at-2.at c.args.at words c.in_err-value.field-0.0 c.from_residual-in_err-value.result c.from_residual-in_err-value.ensures.1
    (λ x us e. fd.keyed_opens sp (counts c.args.scope) c.args.at _ c.requires.here (omega (arith, c.in_ok-may_nest.ensures.ok)) (thens (c.in_ok-key.ensures.answer words sp)
    (fd.bracketed sp inner.at close _ c.in_ok-at.ensures.there c.in_ok-at.ensures.next (fd.assigned sp close c.in_ok-at-2.at _ c.in_ok-at-2.ensures.there c.in_ok-at-2.ensures.next (stops e))))) (c.in_err-value.ensures.answer words sp)

pub tables::keyed_field-returns-clause-answer : goal.tables::keyed_field-returns-clause-answer
tables::keyed_field-returns-clause-answer rank c words sp o more =
    let inner = c.in_ok-key.key in
    let close = c.in_ok-at.at in
    fd.keyed_opens sp (counts c.args.scope) c.args.at _ c.requires.here (omega (arith, c.in_ok-may_nest.ensures.ok)) (thens (c.in_ok-key.ensures.answer words sp)
    (fd.bracketed sp inner.at close _ c.in_ok-at.ensures.there c.in_ok-at.ensures.next (fd.assigned sp close c.in_ok-at-2.at _ c.in_ok-at-2.ensures.there c.in_ok-at-2.ensures.next
    (thens (c.in_ok-value.ensures.answer words sp) (fd.keyed_closes (counts c.args.scope) (expr_view inner.node) inner.node c.in_ok-value.value.node o refl more)))))

pub tables::name_field-returns-in_err-base-clause-answer : goal.tables::name_field-returns-in_err-base-clause-answer
tables::name_field-returns-in_err-base-clause-answer rank c words sp =
    part_stopped (λ y. y) (fd.after_field (counts c.args.scope)) fd.put_field c.args.at c.args.at words c.in_err-base.field-0.0 c.from_residual.result c.from_residual.ensures.1 (λ x us e. e)
    (fd.no_name_field c.args.source.now sp (counts c.args.scope) c.args.at c.args.scope.depth c.in_err-base.field-0.0 c.requires.here refl c.in_err-base.ensures.err)

pub tables::name_field-returns-in_err-left-clause-answer : goal.tables::name_field-returns-in_err-left-clause-answer
tables::name_field-returns-in_err-left-clause-answer rank c words sp =
    let base = c.in_ok-base.base in
    part_stopped expr_view (fd.after_field (counts c.args.scope)) fd.put_field base.at c.args.at words c.in_err-left.field-0.0 c.from_residual-in_err-left.result c.from_residual-in_err-left.ensures.1
    (λ x us e. fd.name_opens c.args.source.now sp (counts c.args.scope) c.args.at base.at base.node _ c.in_ok-base.ensures.ok c.in_ok-base.ensures.next (omega (arith, c.in_ok-base.ensures.moves.low, c.in_ok-base.ensures.moves.high, ap a.height c.in_ok-base.ensures.ok.3))
    (λ f. false≢true (sym c.if-is.false ∙ c.is.ensures.value.1 f)) (stops e)) (c.in_err-left.ensures.answer words sp)

pub tables::name_field-returns-in_err-operations-clause-answer : goal.tables::name_field-returns-in_err-operations-clause-answer
tables::name_field-returns-in_err-operations-clause-answer rank c words sp =
    let base = c.in_ok-base.base in
    let left = c.in_ok-left.left in
    part_stopped expr_view (fd.after_field (counts c.args.scope)) fd.put_field left.at c.args.at words c.in_err-operations.field-0.0 c.from_residual-in_err-operations.result c.from_residual-in_err-operations.ensures.1
    (λ x us e. fd.name_opens c.args.source.now sp (counts c.args.scope) c.args.at base.at base.node _ c.in_ok-base.ensures.ok c.in_ok-base.ensures.next (omega (arith, c.in_ok-base.ensures.moves.low, c.in_ok-base.ensures.moves.high, ap a.height c.in_ok-base.ensures.ok.3))
    (λ f. false≢true (sym c.if-is.false ∙ c.is.ensures.value.1 f)) (thens (c.in_ok-left.ensures.answer words sp) (stops e))) (c.in_err-operations.ensures.answer words sp)

pub tables::name_field-returns-clause-answer : goal.tables::name_field-returns-clause-answer
tables::name_field-returns-clause-answer rank c words sp o more =
    let base = c.in_ok-base.base in
    let whole = c.in_ok-operations.field-0 in
    fd.name_opens c.args.source.now sp (counts c.args.scope) c.args.at base.at base.node _ c.in_ok-base.ensures.ok c.in_ok-base.ensures.next (omega (arith, c.in_ok-base.ensures.moves.low, c.in_ok-base.ensures.moves.high, ap a.height c.in_ok-base.ensures.ok.3))
    (λ f. false≢true (sym c.if-is.false ∙ c.is.ensures.value.1 f)) (thens (c.in_ok-left.ensures.answer words sp) (thens (c.in_ok-operations.ensures.answer words sp)
    (fd.item_closes words (counts c.args.scope) whole.at _ whole.node _ o c.item.ensures.node c.item.ensures.at more)))

pub tables::named_field-returns-in_err-may_nest-clause-answer : goal.tables::named_field-returns-in_err-may_nest-clause-answer
tables::named_field-returns-in_err-may_nest-clause-answer rank c words sp =
    part_faulted (fd.after_field (counts c.args.scope)) fd.put_field c.args.at words faults.TooDeep c.args.at (200 < c.args.scope.depth + 1) c.in_err-may_nest.field-0.0 c.from_residual.result c.from_residual.ensures.1 c.in_err-may_nest.ensures.err
    (λ over. fd.name_deep sp (counts c.args.scope) c.args.at c.requires.here (omega (arith, over)))

pub tables::named_field-returns-in_err-value-clause-answer : goal.tables::named_field-returns-in_err-value-clause-answer
tables::named_field-returns-in_err-value-clause-answer rank c words sp =
    part_stopped expr_view (fd.after_field (counts c.args.scope)) fd.put_field (c.args.at + 2) c.args.at words c.in_err-value.field-0.0 c.from_residual-in_err-value.result c.from_residual-in_err-value.ensures.1
    (λ x us e. fd.named_opens c.args.source.now sp (counts c.args.scope) c.args.at c.in_ok-name_at.field-0 _ c.in_ok-name_at.ensures.ok (omega (arith, c.in_ok-may_nest.ensures.ok)) c.requires.assign (stops e)) (c.in_err-value.ensures.answer words sp)

pub tables::named_field-returns-clause-answer : goal.tables::named_field-returns-clause-answer
tables::named_field-returns-clause-answer rank c words sp o more =
    fd.named_opens c.args.source.now sp (counts c.args.scope) c.args.at c.in_ok-name_at.field-0 _ c.in_ok-name_at.ensures.ok (omega (arith, c.in_ok-may_nest.ensures.ok)) c.requires.assign (thens (c.in_ok-value.ensures.answer words sp)
    (fd.keyed_closes (counts c.args.scope) _ _ c.in_ok-value.value.node o (fd.same_key _ c.line_at.result c.in_ok-name_at.field-0 c.line_at.ensures) more))

pub tables::named_field-returns-clause-moves : goal.tables::named_field-returns-clause-moves
tables::named_field-returns-clause-moves rank c = record {
  forth = omega (arith, c.in_ok-value.ensures.moves.forth);
  within = c.in_ok-value.ensures.moves.within;
  high = omega (arith, fd.tall_named c.line_at.result c.in_ok-name_at.field-0 c.in_ok-value.value.node, c.in_ok-value.ensures.moves.high, c.max.ensures);
  low = omega (arith, c.in_ok-value.ensures.moves.low, c.in_ok-may_nest.ensures.ok, c.max.ensures);
}

-- ---- functions

pub functions::function_expression-returns-in_err-may_nest-clause-answer : goal.functions::function_expression-returns-in_err-may_nest-clause-answer
functions::function_expression-returns-in_err-may_nest-clause-answer rank c words sp =
    let h = key_stands sp c.args.at kinds.Function tt c.requires.here in
    faulted expr_view c.args.at words faults.TooDeep c.args.at (200 < c.args.scope.depth + 2) c.in_err-may_nest.field-0.0 c.from_residual.result c.from_residual.ensures.1 c.in_err-may_nest.ensures.err
    (λ over. look_at h.is (passed_at h.is (passes_deep _ (omega (arith, over)))))

pub functions::function_expression-returns-in_err-read-clause-answer : goal.functions::function_expression-returns-in_err-read-clause-answer
functions::function_expression-returns-in_err-read-clause-answer rank c words sp =
    let h = key_stands sp c.args.at kinds.Function tt c.requires.here in
    let d = bd.body_at [] (c.args.at + 1) words (Err c.in_err-read.field-0.0) (c.line_at-line.ensures ∙ sym h.line) c.deeper.ensures.counts (c.in_err-read.ensures.answer words sp) in
    stopped {whole = r.program (r.first (counts c.args.scope))} func_view expr_view (c.args.at + 1) c.args.at words c.in_err-read.field-0.0 c.from_residual-in_err-read.result c.from_residual-in_err-read.ensures.1
    (λ x us e. look_at h.is (take_at h.is (keeps_deep _ (omega (arith, c.in_ok-may_nest.ensures.ok))) (next c.args.at words (stops e)))) d

pub functions::function_expression-returns-clause-answer : goal.functions::function_expression-returns-clause-answer
functions::function_expression-returns-clause-answer rank c words sp =
    let h = key_stands sp c.args.at kinds.Function tt c.requires.here in
    let d = bd.body_at [] (c.args.at + 1) words (Ok c.in_ok-read.read) (c.line_at-line.ensures ∙ sym h.line) c.deeper.ensures.counts (c.in_ok-read.ensures.answer words sp) in
    look_at h.is (take_at h.is (keeps_deep _ (omega (arith, c.in_ok-may_nest.ensures.ok))) (next c.args.at words (thens d
    (gave (ap (λ l. t.function l (func_view c.in_ok-read.read.node)) (h.line ∙ sym c.line_at-line.ensures) ∙ sym (bd.view_function _ _))))))

pub functions::function_expression-returns-clause-moves : goal.functions::function_expression-returns-clause-moves
functions::function_expression-returns-clause-moves rank c = record {
  forth = omega (arith, c.in_ok-read.ensures.moves.forth);
  within = c.in_ok-read.ensures.moves.within;
  high = bd.high_function _ _ _ c.in_ok-read.ensures.moves.high;
  low = omega (arith, c.in_ok-read.ensures.moves.low, c.deeper.ensures.depth);
}

pub functions::function_statement-returns-in_err-may_nest-clause-answer : goal.functions::function_statement-returns-in_err-may_nest-clause-answer
functions::function_statement-returns-in_err-may_nest-clause-answer rank c words sp =
    let h = key_stands sp c.args.at kinds.Function tt c.requires.here in
    faulted stat_view c.args.at words faults.TooDeep c.args.at (200 < c.args.scope.depth + 1) c.in_err-may_nest.field-0.0 c.from_residual.result c.from_residual.ensures.1 c.in_err-may_nest.ensures.err
    (λ over. look_at h.is (passed_at h.is (passes_deep _ (omega (arith, over)))))

pub functions::function_statement-returns-in_err-name-clause-answer : goal.functions::function_statement-returns-in_err-name-clause-answer
functions::function_statement-returns-in_err-name-clause-answer rank c words sp =
    let h = key_stands sp c.args.at kinds.Function tt c.requires.here in
    let rest = bd.statement_rest h.spot.line (counts c.args.scope) in
    stopped {whole = r.program (r.stat (counts c.args.scope))} (λ y. y) stat_view (c.args.at + 1) c.args.at words c.in_err-name.field-0.0 c.from_residual-in_err-name.result c.from_residual-in_err-name.ensures.1
    (λ x us e. look_at h.is (take_at h.is (keeps_deep _ (omega (arith, c.in_ok-may_nest.ensures.ok))) (next c.args.at words e)))
    (bd.name_stopped r.a_stat (counts c.args.scope) rest (c.args.at + 1) words c.in_err-name.field-0.0 (c.in_err-name.ensures.answer words sp))

pub functions::function_statement-returns-in_err-read-clause-answer : goal.functions::function_statement-returns-in_err-read-clause-answer
functions::function_statement-returns-in_err-read-clause-answer rank c words sp =
    let h = key_stands sp c.args.at kinds.Function tt c.requires.here in
    let rest = bd.statement_rest h.spot.line (counts c.args.scope) in
    let name = c.in_ok-name.name in
    let d = bd.body_at (hidden_of name.method) name.target.at words (Err c.in_err-read.field-0.0) (c.line_at-line.ensures ∙ sym h.line) refl (c.in_err-read.ensures.answer words sp) in
    stopped {whole = r.program (r.stat (counts c.args.scope))} func_view stat_view name.target.at c.args.at words c.in_err-read.field-0.0 c.from_residual-in_err-read.result c.from_residual-in_err-read.ensures.1
    (λ x us e. look_at h.is (take_at h.is (keeps_deep _ (omega (arith, c.in_ok-may_nest.ensures.ok))) (next c.args.at words (c.in_ok-name.ensures.answer words sp r.a_stat rest (r.stuck x us) (stops e))))) d

pub functions::function_statement-returns-clause-answer : goal.functions::function_statement-returns-clause-answer
functions::function_statement-returns-clause-answer rank c words sp =
    let h = key_stands sp c.args.at kinds.Function tt c.requires.here in
    let rest = bd.statement_rest h.spot.line (counts c.args.scope) in
    let name = c.in_ok-name.name in
    let d = bd.body_at (hidden_of name.method) name.target.at words (Ok c.in_ok-read.read) (c.line_at-line.ensures ∙ sym h.line) refl (c.in_ok-read.ensures.answer words sp) in
    look_at h.is (take_at h.is (keeps_deep _ (omega (arith, c.in_ok-may_nest.ensures.ok))) (next c.args.at words (c.in_ok-name.ensures.answer words sp r.a_stat rest _ (thens d
    (gave (ap (λ l. t.function_stat l (expr_view name.target.node) (func_view c.in_ok-read.read.node)) (h.line ∙ sym c.line_at-line.ensures) ∙ sym (bd.view_function_stat _ _ _)))))))

pub functions::function_statement-returns-clause-moves : goal.functions::function_statement-returns-clause-moves
functions::function_statement-returns-clause-moves rank c = record {
  forth = omega (arith, c.in_ok-read.ensures.moves.forth, c.in_ok-name.ensures.moves.forth);
  within = c.in_ok-read.ensures.moves.within;
  high = omega (arith, bd.tall_at_function c.line_at-line.result c.in_ok-name.name.target.node c.in_ok-read.read.node, c.in_ok-read.ensures.moves.high, c.in_ok-name.ensures.moves.high, c.max.ensures);
  low = omega (arith, c.in_ok-read.ensures.moves.low, c.in_ok-name.ensures.moves.low, c.max.ensures);
}

pub functions::local_function-returns-in_err-may_nest-clause-answer : goal.functions::local_function-returns-in_err-may_nest-clause-answer
functions::local_function-returns-in_err-may_nest-clause-answer rank c words sp =
    faulted stat_view c.args.at words faults.TooDeep (c.args.at + 1) (200 < c.args.scope.depth + 1) c.in_err-may_nest.field-0.0 c.from_residual.result c.from_residual.ensures.1 c.in_err-may_nest.ensures.err
    (λ over. bd.local_function_deep sp (counts c.args.scope) c.args.at c.requires.here c.requires.function (omega (arith, over)))

pub functions::local_function-returns-in_err-name-clause-answer : goal.functions::local_function-returns-in_err-name-clause-answer
functions::local_function-returns-in_err-name-clause-answer rank c words sp =
    stopped (λ y. y) stat_view (c.args.at + 2) c.args.at words c.in_err-name.field-0.0 c.from_residual-in_err-name.result c.from_residual-in_err-name.ensures.1
    (λ x us e. bd.local_function_opens sp (counts c.args.scope) c.args.at _ c.requires.here c.requires.function (omega (arith, c.in_ok-may_nest.ensures.ok)) e)
    (tg.no_local c.args.source.now sp (λ y. y) _ (c.args.at + 2) c.args.scope.locals c.in_err-name.field-0.0 c.in_err-name.ensures.err)

pub functions::local_function-returns-in_err-read-clause-answer : goal.functions::local_function-returns-in_err-read-clause-answer
functions::local_function-returns-in_err-read-clause-answer rank c words sp =
    let d = bd.body_at [] (c.args.at + 3) words (Err c.in_err-read.field-0.0) c.line_at-line.ensures refl (c.in_err-read.ensures.answer words sp) in
    stopped func_view stat_view (c.args.at + 3) c.args.at words c.in_err-read.field-0.0 c.from_residual-in_err-read.result c.from_residual-in_err-read.ensures.1
    (λ x us e. bd.local_function_opens sp (counts c.args.scope) c.args.at _ c.requires.here c.requires.function (omega (arith, c.in_ok-may_nest.ensures.ok))
    (lp.local_named c.args.source.now sp _ (c.args.at + 2) (c.args.at + 3) c.args.scope.locals c.in_ok-name.name _ c.in_ok-name.ensures.ok c.in_ok-name.ensures.room (omega arith) (stops e))) d

pub functions::local_function-returns-clause-answer : goal.functions::local_function-returns-clause-answer
functions::local_function-returns-clause-answer rank c words sp =
    let d = bd.body_at [] (c.args.at + 3) words (Ok c.in_ok-read.read) c.line_at-line.ensures refl (c.in_ok-read.ensures.answer words sp) in
    bd.local_function_opens sp (counts c.args.scope) c.args.at _ c.requires.here c.requires.function (omega (arith, c.in_ok-may_nest.ensures.ok))
    (lp.local_named c.args.source.now sp _ (c.args.at + 2) (c.args.at + 3) c.args.scope.locals c.in_ok-name.name _ c.in_ok-name.ensures.ok c.in_ok-name.ensures.room (omega arith) (thens d
    (gave (ap (λ l. t.local_function l c.in_ok-name.name (func_view c.in_ok-read.read.node)) (sym c.line_at.ensures) ∙ sym (bd.view_local_function _ _ _)))))

pub functions::body-returns-in_err-at-clause-answer : goal.functions::body-returns-in_err-at-clause-answer
functions::body-returns-in_err-at-clause-answer rank c words sp =
    faulted func_view c.args.at words faults.Unexpected c.args.at (kind_at c.args.source.now.tokens.now c.args.at ≡ Some kinds.OpenParen → ⊥) c.in_err-at.field-0.0 c.from_residual.result c.from_residual.ensures.1 c.in_err-at.ensures.err
    (λ none. not_there (no_key sp c.args.at kinds.OpenParen (key w.open_paren) refl none))

pub functions::body-returns-in_err-parameters-clause-answer : goal.functions::body-returns-in_err-parameters-clause-answer
functions::body-returns-in_err-parameters-clause-answer rank c words sp =
    stopped (λ y. y) func_view c.in_ok-at.at c.args.at words c.in_err-parameters.field-0.0 c.from_residual-in_err-parameters.result c.from_residual-in_err-parameters.ensures.1
    (λ x us e. bd.body_opens sp c.args.at c.in_ok-at.at _ c.in_ok-at.ensures.there c.in_ok-at.ensures.next (stops e))
    (bd.params_stopped c.args.method c.in_ok-at.at words c.in_err-parameters.field-0.0 (c.in_err-parameters.ensures.answer words sp))

pub functions::body-returns-in_err-read-clause-answer : goal.functions::body-returns-in_err-read-clause-answer
functions::body-returns-in_err-read-clause-answer rank c words sp =
    let ps = c.in_ok-parameters.parameters in
    let p = c.in_ok-parameters.ensures.answer words sp in
    let names = hidden_of c.args.method ++ p.0 in
    let long : length names ≡ c.len.result = omega (arith, ap length p.1, ps.names.ok.0, c.len.ensures) in
    let d = at_counts block_view r.block _ _ ps.at words (Err c.in_err-read.field-0.0) (c.function-inner.ensures.counts names long) (c.in_err-read.ensures.answer words sp) in
    stopped block_view func_view ps.at c.args.at words c.in_err-read.field-0.0 c.from_residual-in_err-read.result c.from_residual-in_err-read.ensures.1
    (λ x us e. bd.body_opens sp c.args.at c.in_ok-at.at _ c.in_ok-at.ensures.there c.in_ok-at.ensures.next (thens p.2 (stops e))) d

pub functions::body-returns-in_err-at-2-clause-answer : goal.functions::body-returns-in_err-at-2-clause-answer
functions::body-returns-in_err-at-2-clause-answer rank c words sp =
    let ps = c.in_ok-parameters.parameters in
    let p = c.in_ok-parameters.ensures.answer words sp in
    let names = hidden_of c.args.method ++ p.0 in
    let long : length names ≡ c.len.result = omega (arith, ap length p.1, ps.names.ok.0, c.len.ensures) in
    let read = c.in_ok-read.read in
    let d = at_counts block_view r.block _ _ ps.at words (Ok read) (c.function-inner.ensures.counts names long) (c.in_ok-read.ensures.answer words sp) in
    faulted func_view c.args.at words faults.Unexpected read.at (kind_at c.args.source.now.tokens.now read.at ≡ Some kinds.End → ⊥) c.in_err-at-2.field-0.0 c.from_residual-in_err-at-2.result c.from_residual-in_err-at-2.ensures.1 c.in_err-at-2.ensures.err
    (λ none. bd.body_opens sp c.args.at c.in_ok-at.at _ c.in_ok-at.ensures.there c.in_ok-at.ensures.next (thens p.2 (thens d (not_there (no_key sp read.at kinds.End (key w.end_) refl none)))))

pub functions::body-returns-clause-answer : goal.functions::body-returns-clause-answer
functions::body-returns-clause-answer rank c words sp =
    let ps = c.in_ok-parameters.parameters in
    let p = c.in_ok-parameters.ensures.answer words sp in
    let names = hidden_of c.args.method ++ p.0 in
    let long : length names ≡ c.len.result = omega (arith, ap length p.1, ps.names.ok.0, c.len.ensures) in
    let read = c.in_ok-read.read in
    let d = at_counts block_view r.block _ _ ps.at words (Ok read) (c.function-inner.ensures.counts names long) (c.in_ok-read.ensures.answer words sp) in
    bd.body_opens sp c.args.at c.in_ok-at.at _ c.in_ok-at.ensures.there c.in_ok-at.ensures.next (thens p.2 (thens d (bd.body_ends sp read.at _ _ c.in_ok-at-2.ensures.there c.in_ok-at-2.ensures.next
    (gave (bd.func_is c.args.line names ps.names.items c.from_vec.result ps.dots read.node p.1 c.from_vec.ensures)))))

pub functions::body-returns-clause-moves : goal.functions::body-returns-clause-moves
functions::body-returns-clause-moves rank c = record {
  forth = omega (arith, c.in_ok-at.ensures.next, c.in_ok-parameters.ensures.forth, c.in_ok-read.ensures.moves.forth, c.in_ok-at-2.ensures.next);
  within = omega (arith, c.in_ok-at-2.ensures.next, c.in_ok-at-2.ensures.within);
  high = bd.high_func _ _ _ _ _ c.in_ok-read.ensures.moves.high;
  low = omega (arith, c.in_ok-read.ensures.moves.low, c.function-inner.ensures.depth);
}
