use Rattle.std.proofs.Common.{◌≡◌, ◌+◌, ◌<◌, ◌≤◌, ℕ, List, Some, ap, refl, sym, ◌∙◌, arith, subst}
use Rattle.std.proofs.lemmas.Option.{same_Some, slice_get_within}
use Rattle.lua_token.specs.declared.kind.Kind.TheVariants as kinds
use Rattle.lua_token.proofs.Values.{one_value}
use Rattle.lua_token.specs.Value.{HasValue}
use Rattle.lua_token.specs.declared.token.Token.{Token}
use Rattle.lua_tree.specs.declared.stop.Fault.TheVariants as faults
use Rattle.lua_tree.specs.Tree as t
use Rattle.lua_tree.specs.Attributes.{height}
use Rattle.std.specs.Prelude.{slice_get}
use Rattle.lua_tree.specs.View.{expr_view}
use Rattle.lua_tree.specs.Answer.{line_of}
use Rattle.lua_tree.proofs.Taking.{look_at, passed_at, take_at, keeps_deep, passes_deep}
use Rattle.lua_tree.proofs.Marks.{kind_token, str_stands}
use Rattle.lua_tree.proofs.Views.{view_str}
use Rattle.lua_tree.proofs.Descent.{faulted, forgotten, ended}
use Rattle.lua_tree.proofs.expressions.string.Goals as goal

pub returns-in_err-may_nest-clause-answer : goal.returns-in_err-may_nest-clause-answer
returns-in_err-may_nest-clause-answer c words sp =
    let h = str_stands sp c.args.at c.requires.here in
    faulted expr_view c.args.at words faults.TooDeep c.args.at (200 < c.args.scope.depth + 1) c.in_err-may_nest.field-0.0 c.from_residual.result c.from_residual.ensures.1 c.in_err-may_nest.ensures.err
    (λ over. look_at h.4.is (passed_at h.4.is (passes_deep _ (omega (arith, over)))))

pub returns-in_err-string_at-clause-answer : goal.returns-in_err-string_at-clause-answer
returns-in_err-string_at-clause-answer c words sp =
    forgotten _ expr_view c.args.at words c.in_err-string_at.field-0.0 c.from_residual-in_err-string_at.result c.from_residual-in_err-string_at.ensures.1 c.in_err-string_at.ensures.err

pub returns-clause-answer : goal.returns-clause-answer
returns-clause-answer c words sp =
    let h = str_stands sp c.args.at c.requires.here in
    let found = c.in_ok-string_at.ensures.ok in
    let token = same_Some h.0 found.0 (sym h.2 ∙ found.1) in
    let value = one_value c.args.source.now.bytes.now found.0 h.1 c.in_ok-string_at.field-0 (subst (λ (u : Token). HasValue c.args.source.now.bytes.now u h.1) token h.3) found.3 in
    look_at h.4.is (take_at h.4.is (keeps_deep _ (omega (arith, c.in_ok-may_nest.ensures.ok)))
    (ended c.args.at c.leaf.result.at words (ap (λ l. t.str l h.1) h.4.line ∙ (ap (λ (x : List ℕ). t.str (line_of (slice_get c.args.source.now.tokens.now c.args.at)) x) value ∙ (sym (view_str _ _) ∙ sym c.leaf.ensures.view))) (sym c.leaf.ensures.at)))

pub returns-clause-moves : goal.returns-clause-moves
returns-clause-moves c =
    let u = kind_token c.args.source.now.tokens.now c.args.at kinds.Str c.requires.here in
    let within = slice_get_within c.args.source.now.tokens.now c.args.at u.0 u.1 in
    record {
      forth = omega (arith, c.leaf.ensures.at);
      within = omega (arith, within, c.leaf.ensures.at);
      high = c.leaf.ensures.height ∙ sym (ap height (c.leaf.ensures.view ∙ view_str _ _));
      low = omega (arith, c.leaf.ensures.height, c.in_ok-may_nest.ensures.ok);
    }
