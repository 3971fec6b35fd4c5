use Rattle.std.proofs.Common.{◌≡◌, ◌+◌, ◌<◌, ◌≤◌, ℕ, Some, Ok, Err, refl, sym, ap, ◌∙◌, arith}
use Rattle.std.proofs.lemmas.Bool.{false≢true}
use Rattle.lua_tree.specs.Attributes.{height}
use Rattle.lua_tree.specs.Answer.{counts}
use Rattle.lua_tree.specs.Heads.{FunctionNameAt}
use Rattle.lua_tree.specs.View.{expr_view}
use Rattle.lua_tree.proofs.Descent.{handed}
use Rattle.lua_tree.proofs.Heights.{one_high}
use Rattle.lua_tree.proofs.BodySteps.{member_low}
use Rattle.lua_tree.proofs.FunctionSteps.{member_follows, method_ends, name_begins, name_ends, no_function_name, no_member, no_method}
use Rattle.lua_tree.proofs.functions.function_name.Goals as goal

pub returns-in_err-target-clause-answer : goal.returns-in_err-target-clause-answer
returns-in_err-target-clause-answer c words sp =
    handed c.from_residual.result c.in_err-target.field-0.0 (λ o. FunctionNameAt (counts c.args.scope) c.args.at o words) c.from_residual.ensures.1
    (no_function_name c.args.source.now words sp (counts c.args.scope) c.args.at c.args.scope.depth c.requires.deep c.in_err-target.field-0.0 c.in_err-target.ensures.err)

pub names-init : goal.names-init
names-init c =
    let m = c.in_ok-target.ensures.moves in
    let one = one_high (expr_view c.in_ok-target.target.node) in
    record {
      forth = m.forth;
      tall = omega (arith, m.high, one);
      behind = record { some = omega (arith, m.forth); within = m.within; high = m.high; low = m.low };
      so_far = name_begins c.args.source.now (counts c.args.scope) c.args.at _ _ c.in_ok-target.ensures.ok c.in_ok-target.ensures.next;
    }

pub returns-in_err-target-2-clause-answer : goal.returns-in_err-target-2-clause-answer
returns-in_err-target-2-clause-answer c words sp =
    handed c.from_residual-in_err-target-2.result c.in_err-target-2.field-0.0 (λ o. FunctionNameAt (counts c.args.scope) c.args.at o words) c.from_residual-in_err-target-2.ensures.1
    (no_member c.args.source.now words sp (counts c.args.scope) c.args.at c.names.target c.names.invariant.so_far (c.is.ensures.value.0 c.names-test.true) c.names.invariant.behind.high c.in_err-target-2.field-0.0 c.in_err-target-2.ensures.err)

pub names-preserved : goal.names-preserved
names-preserved c =
    let m = c.in_ok-target-2.ensures.moves in
    let one = one_high (expr_view c.in_ok-target-2.target.node) in
    record {
      forth = omega (arith, m.forth, c.names.invariant.forth);
      tall = omega (arith, m.high, one);
      behind = record { some = omega (arith, m.forth); within = m.within; high = m.high; low = m.low };
      so_far = member_follows c.args.source.now (counts c.args.scope) c.args.at _ c.names.target _ c.names.invariant.so_far (c.is.ensures.value.0 c.names-test.true) c.in_ok-target-2.ensures.ok c.in_ok-target-2.ensures.next
          (member_low c.args.source.now c.names.target _ c.args.scope.depth _ c.in_ok-target-2.ensures.ok m.high m.low);
    }

pub returns-then-not-is-clause-answer : goal.returns-then-not-is-clause-answer
returns-then-not-is-clause-answer c words sp s f r d =
    name_ends c.args.source.now words sp (counts c.args.scope) c.args.at c.names.target.at (expr_view c.names.target.node) c.names.invariant.so_far
    (λ e. false≢true (sym c.names-test.false ∙ c.is.ensures.value.1 e)) (λ e. false≢true (sym c.if-not-is.true ∙ c.is-2.ensures.value.1 e)) s f r d

pub returns-in_err-member-clause-answer : goal.returns-in_err-member-clause-answer
returns-in_err-member-clause-answer c words sp =
    handed c.from_residual-in_err-member.result c.in_err-member.field-0.0 (λ o. FunctionNameAt (counts c.args.scope) c.args.at o words) c.from_residual-in_err-member.ensures.1
    (no_method c.args.source.now words sp (counts c.args.scope) c.args.at c.names.target c.names.invariant.so_far (c.is-2.ensures.value.0 c.if-not-is.false) c.names.invariant.behind.high c.in_err-member.field-0.0 c.in_err-member.ensures.err)

pub returns-clause-answer : goal.returns-clause-answer
returns-clause-answer c words sp s f r d =
    let m = c.in_ok-member.ensures.moves in
    method_ends c.args.source.now words sp (counts c.args.scope) c.args.at _ c.names.target _ c.names.invariant.so_far (c.is-2.ensures.value.0 c.if-not-is.false) c.in_ok-member.ensures.ok c.in_ok-member.ensures.next
    (member_low c.args.source.now c.names.target _ c.args.scope.depth _ c.in_ok-member.ensures.ok m.high m.low) s f r d
