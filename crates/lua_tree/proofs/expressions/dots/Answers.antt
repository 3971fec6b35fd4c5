use Rattle.std.proofs.Common.{◌≡◌, ◌+◌, ◌<◌, ◌≤◌, ℕ, suc, Some, true, false, ap, refl, sym, ◌∙◌, drop, arith, subst}
use Rattle.lua_token.specs.declared.kind.Kind.TheVariants as kinds
use Rattle.lua_tree.specs.declared.stop.Fault.TheVariants as faults
use Rattle.lua_tree.specs.Tree as t
use Rattle.lua_tree.specs.Attributes.{varargs, nodes}
use Rattle.lua_tree.specs.Reading.{first_of}
use Rattle.lua_tree.specs.View.{expr_view}
use Rattle.lua_tree.specs.Answer.{counts}
use Rattle.lua_tree.proofs.Taking.{look_at, passed_at, take_at}
use Rattle.lua_tree.proofs.Marks.{key_stands}
use Rattle.lua_tree.proofs.Views.{view_dots}
use Rattle.lua_tree.proofs.Counted.{no_dots, has_dots}
use Rattle.lua_tree.proofs.Descent.{gave, faulted, outside_dots, deep_dots, keeps_dots, ended}
use Rattle.lua_tree.proofs.expressions.dots.Goals as goal

pub returns-then-not-scope-clause-answer : goal.returns-then-not-scope-clause-answer
returns-then-not-scope-clause-answer c words sp =
    let h = key_stands sp c.args.at kinds.Dots tt c.requires.here in
    let none : counts c.args.scope varargs ≡ 1 = no_dots c.args.scope c.if-not-scope.true in
    look_at h.is (passed_at h.is (outside_dots (counts c.args.scope) (omega (arith, none))))

pub returns-in_err-may_nest-clause-answer : goal.returns-in_err-may_nest-clause-answer
returns-in_err-may_nest-clause-answer c words sp =
    let h = key_stands sp c.args.at kinds.Dots tt c.requires.here in
    let some : counts c.args.scope varargs ≡ 0 = has_dots c.args.scope c.if-not-scope.false in
    faulted expr_view c.args.at words faults.TooDeep c.args.at (200 < c.args.scope.depth + 1) c.in_err-may_nest.field-0.0 c.from_residual.result c.from_residual.ensures.1 c.in_err-may_nest.ensures.err
    (λ over. look_at h.is (passed_at h.is (deep_dots (counts c.args.scope) some (omega (arith, over)))))

pub returns-clause-answer : goal.returns-clause-answer
returns-clause-answer c words sp =
    let h = key_stands sp c.args.at kinds.Dots tt c.requires.here in
    let some : counts c.args.scope varargs ≡ 0 = has_dots c.args.scope c.if-not-scope.false in
    look_at h.is (take_at h.is (keeps_dots (counts c.args.scope) some (omega (arith, c.in_ok-may_nest.ensures.ok)))
    (ended c.args.at c.leaf.result.at words (ap t.dots h.line ∙ (sym (view_dots _) ∙ sym c.leaf.ensures.view)) (sym c.leaf.ensures.at)))
