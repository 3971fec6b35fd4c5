use Rattle.std.proofs.Common.{◌≡◌, ◌+◌, ◌<◌, ◌≤◌, ◌∷◌, ◌++◌, [], ℕ, suc, subst, drop, Some, refl, sym, ap, ◌∙◌, arith, rules, vec_len}
use Rattle.std.proofs.lemmas.Bool.{false≢true}
use Rattle.lua_tree.specs.Reading.{give, more_names, then}
use Rattle.lua_tree.specs.Answer.{NoLocalAt}
use Rattle.lua_tree.proofs.Descent.{stopped}
use Rattle.lua_tree.proofs.TargetSteps.{first_front, first_stays, names_begin, names_end, names_stop, no_local, one_more_name}
use Rattle.lua_tree.proofs.LoopSteps.{view_while}
use Rattle.lua_tree.proofs.assignments.more_names.Goals as goal

pub names-init : goal.names-init
names-init c =
    let one = c.in_ok-push.ensures.items ∙ ap (λ ys. ys ++ c.args.first ∷ []) c.new-names.ensures.items in
    let len = c.in_ok-push.ensures.len in
    let none = c.new-names.ensures.len in
    record {
      forth = omega arith;
      within = omega (arith, c.requires.within);
      few = omega (arith, len, none, c.requires.room);
      some = omega (arith, len, none);
      front = first_front _ _ one;
      so_far = λ words sp. names_begin words (c.args.locals + 1) c.args.at _ c.args.at c.args.first _ (omega (arith, len, none)) refl one;
    }

pub names-preserved : goal.names-preserved
names-preserved c =
    let more = c.in_ok-push-2.ensures.items in
    let len = c.in_ok-push-2.ensures.len in
    let room = c.in_ok-local_at.ensures.room in
    let before = c.len.ensures in
    record {
      forth = omega (arith, c.names.invariant.forth);
      within = omega (arith, c.in_ok-local_at.ensures.within);
      few = omega (arith, len, room, before);
      some = omega (arith, len);
      front = first_stays c.args.first c.in_ok-local_at.field-0 _ _ c.names.invariant.front more;
      so_far = λ words sp. one_more_name c.args.source.now sp (c.args.locals + 1) c.args.at (c.args.locals + vec_len c.names.names) c.names.end _ _ c.args.first _ c.names.names.items _
          (c.is.ensures.value.0 c.names-test.true) c.in_ok-local_at.ensures.ok (omega (arith, room, before)) c.names.invariant.front more (omega (arith, len)) (omega arith) (c.names.invariant.so_far words sp);
    }

pub returns-in_err-local_at-clause-answer : goal.returns-in_err-local_at-clause-answer
returns-in_err-local_at-clause-answer c words sp =
    let n = c.args.locals + vec_len c.names.names in
    stopped (λ y. y) (λ names. drop 1 names) (c.names.end + 1) c.args.at words c.in_err-local_at.field-0.0 c.from_residual-in_err-local_at.result c.from_residual-in_err-local_at.ensures.1
    (names_stop sp (c.args.locals + 1) c.args.at n c.names.end c.names.names.items (c.is.ensures.value.0 c.names-test.true) (c.names.invariant.so_far words sp))
    (no_local c.args.source.now sp (λ y. y) (λ y s'. then (more_names (suc n)) (λ xs. give (y ∷ xs))) (c.names.end + 1) n c.in_err-local_at.field-0.0
    (subst (λ (k : ℕ). NoLocalAt c.args.source.now (c.names.end + 1) (c.args.locals + k) c.in_err-local_at.field-0.0) c.len.ensures c.in_err-local_at.ensures.err))

pub returns-clause-answer : goal.returns-clause-answer
returns-clause-answer c words sp =
    names_end sp (c.args.locals + 1) c.args.at (c.args.locals + vec_len c.names.names) c.names.end c.names.names.items c.from_vec.result
    (λ e. false≢true (sym c.names-test.false ∙ c.is.ensures.value.1 e)) c.from_vec.ensures (c.names.invariant.so_far words sp)

pub returns-clause-first : goal.returns-clause-first
returns-clause-first c = c.from_vec.ensures ∙ (c.names.invariant.front ∙ ap (λ ys. c.args.first ∷ drop 1 ys) (sym c.from_vec.ensures))
