use Rattle.std.proofs.Common.{◌≡◌, ◌+◌, ◌<◌, ◌≤◌, ℕ, Some, ap, refl, sym, ◌∙◌, arith}
use Rattle.lua_token.specs.declared.kind.Kind.TheVariants as kinds
use Rattle.lua_tree.specs.Tree as t
use Rattle.lua_tree.specs.Attributes.{breaks}
use Rattle.lua_tree.specs.Answer.{counts}
use Rattle.lua_tree.proofs.Taking.{look_at, passed_at, take_at}
use Rattle.lua_tree.proofs.Marks.{key_stands}
use Rattle.lua_tree.proofs.Counted.{no_loop, has_loop}
use Rattle.lua_tree.proofs.Views.{view_break}
use Rattle.lua_tree.proofs.Descent.{ended, outside_break, keeps_break}
use Rattle.lua_tree.proofs.statements.break_statement.Goals as goal

pub returns-then-not-scope-clause-answer : goal.returns-then-not-scope-clause-answer
returns-then-not-scope-clause-answer c words sp =
    let h = key_stands sp c.args.at kinds.Break tt c.requires.here in
    let none : counts c.args.scope breaks ≡ 1 = no_loop c.args.scope c.if-not-scope.true in
    look_at h.is (passed_at h.is (outside_break (counts c.args.scope) (omega (arith, none))))

pub returns-clause-answer : goal.returns-clause-answer
returns-clause-answer c words sp =
    let h = key_stands sp c.args.at kinds.Break tt c.requires.here in
    let some : counts c.args.scope breaks ≡ 0 = has_loop c.args.scope c.if-not-scope.false in
    look_at h.is (take_at h.is (keeps_break (counts c.args.scope) some)
    (ended c.args.at (c.args.at + 1) words (ap t.break_stat (h.line ∙ sym c.line_at.ensures) ∙ sym (view_break _)) refl))
