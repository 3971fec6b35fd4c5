use Rattle.std.proofs.Common.{◌≡◌, ◌+◌, ◌<◌, ◌≤◌, ◌++◌, ◌∷◌, [], append-nil, ℕ, Some, Ok, Err, length, vec_len, refl, sym, ap, ◌∙◌, subst, arith}
use Rattle.std.proofs.lemmas.Bool.{false≢true}
use Rattle.lua_tree.specs.Begins.{hidden_of}
use Rattle.lua_tree.specs.Heads.{ParametersAt}
use Rattle.lua_tree.proofs.Descent.{handed}
use Rattle.lua_tree.proofs.FunctionSteps.{dots_close, no_close, no_comma, no_local, no_params, none_yet, one_more_param, params_end}
use Rattle.lua_tree.proofs.functions.parameter_list.Goals as goal

pub returns-then-is-clause-answer : goal.returns-then-is-clause-answer
returns-then-is-clause-answer c words sp =
    ([], c.in_ok-names.ensures.ok ∙ sym (append-nil (hidden_of c.args.method)), no_params c.args.source.now words sp c.args.at (length (hidden_of c.args.method)) (c.is.ensures.value.0 c.if-is.true))

pub names-init : goal.names-init
names-init c = record {
  forth = omega arith;
  few = omega (arith, c.in_ok-names.ensures.few);
  so_far = none_yet c.args.source.now c.args.at (hidden_of c.args.method) _ c.in_ok-names.ensures.ok;
}

pub returns-in_err-local_at-clause-answer : goal.returns-in_err-local_at-clause-answer
returns-in_err-local_at-clause-answer c words sp =
    handed c.from_residual-in_err-local_at.result c.in_err-local_at.field-0.0 (λ o. ParametersAt c.args.method c.args.at o words) c.from_residual-in_err-local_at.ensures.1
    (no_local c.args.source.now words sp c.args.at c.names.end c.len.result c.args.method c.names.names.items c.names.invariant.so_far (omega (arith, c.len.ensures, c.names.names.ok.0))
    (λ e. false≢true (sym c.names-test.true ∙ c.is-in-names.ensures.value.1 e)) (λ e. false≢true (sym c.if-is.false ∙ c.is.ensures.value.1 e)) c.in_err-local_at.field-0.0 c.in_err-local_at.ensures.err)

pub returns-then-is-2-clause-answer : goal.returns-then-is-2-clause-answer
returns-then-is-2-clause-answer c words sp =
    params_end c.args.source.now words sp c.args.at c.names.end (hidden_of c.args.method) c.names.names.items _ c.names.invariant.so_far c.in_ok-local_at.field-0 c.in_ok-local_at.ensures.ok
    (omega (arith, c.in_ok-local_at.ensures.room, c.len.ensures, c.names.names.ok.0)) c.in_ok-push.ensures.items (c.is-in-names-2.ensures.value.0 c.if-is-2.true) (λ e. false≢true (sym c.if-is.false ∙ c.is.ensures.value.1 e))

pub returns-in_err-end-clause-answer : goal.returns-in_err-end-clause-answer
returns-in_err-end-clause-answer c words sp =
    handed c.from_residual-in_err-end.result c.in_err-end.field-0.0 (λ o. ParametersAt c.args.method c.args.at o words) c.from_residual-in_err-end.ensures.1
    (no_comma c.args.source.now words sp c.args.at c.names.end c.args.method c.names.names.items c.names.invariant.so_far c.in_ok-local_at.field-0 c.in_ok-local_at.ensures.ok
    (omega (arith, c.in_ok-local_at.ensures.room, c.len.ensures, c.names.names.ok.0)) (λ e. false≢true (sym c.if-is.false ∙ c.is.ensures.value.1 e)) (λ e. false≢true (sym c.if-is-2.false ∙ c.is-in-names-2.ensures.value.1 e))
    c.in_err-end.field-0.0 c.in_err-end.ensures.err)

pub names-preserved : goal.names-preserved
names-preserved c = record {
  forth = omega (arith, c.names.invariant.forth, c.in_ok-end.ensures.next);
  few = omega (arith, c.in_ok-push.ensures.len, c.in_ok-local_at.ensures.room, c.len.ensures);
  so_far = one_more_param c.args.source.now c.args.at c.names.end _ (hidden_of c.args.method) c.names.names.items _ c.names.invariant.so_far c.in_ok-local_at.field-0 c.in_ok-local_at.ensures.ok
      (omega (arith, c.in_ok-local_at.ensures.room, c.len.ensures, c.names.names.ok.0)) c.in_ok-push.ensures.items c.in_ok-end.ensures.there c.in_ok-end.ensures.next;
}

pub returns-in_err-expect-clause-answer : goal.returns-in_err-expect-clause-answer
returns-in_err-expect-clause-answer c words sp =
    handed c.from_residual-in_err-expect.result c.in_err-expect.field-0.0 (λ o. ParametersAt c.args.method c.args.at o words) c.from_residual-in_err-expect.ensures.1
    (no_close c.args.source.now words sp c.args.at c.names.end c.args.method c.names.names.items c.names.invariant.so_far (c.is-in-names.ensures.value.0 c.names-test.false) (λ e. false≢true (sym c.if-is.false ∙ c.is.ensures.value.1 e))
    c.in_err-expect.field-0.0 c.in_err-expect.ensures.err)

pub returns-clause-answer : goal.returns-clause-answer
returns-clause-answer c words sp =
    dots_close c.args.source.now words sp c.args.at c.names.end c.in_ok-expect.field-0 (hidden_of c.args.method) c.names.names.items c.names.invariant.so_far (c.is-in-names.ensures.value.0 c.names-test.false)
    (λ e. false≢true (sym c.if-is.false ∙ c.is.ensures.value.1 e)) c.in_ok-expect.ensures.there c.in_ok-expect.ensures.next
