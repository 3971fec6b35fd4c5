use Rattle.std.proofs.Common.{◌≡◌, ◌+◌, ℕ, Some, ap, sym, ◌∙◌}
use Rattle.lua_token.specs.declared.kind.Kind.TheVariants as kinds
use Rattle.lua_tree.specs.Tree as t
use Rattle.lua_tree.specs.Spelled.{kind_of}
use Rattle.lua_tree.specs.Answer.{line_of, NoNameAt}
use Rattle.lua_tree.proofs.Views.{view_name}
use Rattle.lua_tree.proofs.Descent.{handed_on, no_name_here, too_deep_here}
use Rattle.lua_tree.proofs.suffixes.name.Goals as goal

pub returns-clause-ok : goal.returns-clause-ok
returns-clause-ok c =
    let n = c.in_ok-name.ensures.ok in
    (n.0, n.1, n.2, c.leaf.ensures.view ∙ (view_name _ _ ∙ (ap (λ l. t.name l c.in_ok-name.name) (ap line_of n.1) ∙ ap (t.name n.0.line) n.3)))

pub returns-in_err-name-clause-err : goal.returns-in_err-name-clause-err
returns-in_err-name-clause-err c =
    handed_on c.from_residual.result c.in_err-name.field-0.0 (NoNameAt c.args.source.now c.args.at c.args.scope.depth) c.from_residual.ensures.1
    (no_name_here c.args.source.now c.args.at c.args.scope.depth c.in_err-name.field-0.0 c.in_err-name.ensures.err)

pub returns-in_err-may_nest-clause-err : goal.returns-in_err-may_nest-clause-err
returns-in_err-may_nest-clause-err c =
    let n = c.in_ok-name.ensures.ok in
    handed_on c.from_residual-in_err-may_nest.result c.in_err-may_nest.field-0.0 (NoNameAt c.args.source.now c.args.at c.args.scope.depth) c.from_residual-in_err-may_nest.ensures.1
    (too_deep_here c.args.source.now c.args.at c.args.scope.depth c.in_err-may_nest.field-0.0 (ap kind_of n.1 ∙ ap Some n.2) c.in_err-may_nest.ensures.err)
