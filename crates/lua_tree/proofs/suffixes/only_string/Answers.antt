use Rattle.std.proofs.Common.{◌≡◌, ◌+◌, ◌≤◌, ℕ, refl, sym, ◌∙◌, arith}
use Rattle.std.proofs.lemmas.Option.{slice_get_within}
use Rattle.lua_token.specs.declared.kind.Kind.TheVariants as kinds
use Rattle.lua_tree.specs.Reading.{args, program}
use Rattle.lua_tree.specs.Answer.{args_view}
use Rattle.lua_tree.proofs.Marks.{kind_token}
use Rattle.lua_tree.proofs.Views.{view_str}
use Rattle.lua_tree.proofs.Descent.{forgotten}
use Rattle.lua_tree.proofs.SuffixSteps.{high_only, string_args}
use Rattle.lua_tree.proofs.suffixes.only_string.Goals as goal

pub returns-in_err-only-clause-answer : goal.returns-in_err-only-clause-answer
returns-in_err-only-clause-answer c n low k words sp =
    forgotten (program (args n k)) (args_view c.args.source.now c.args.at) c.args.at words c.in_err-only.field-0.0 c.from_residual-in_err-only.result c.from_residual-in_err-only.ensures.1 c.in_err-only.ensures.err

pub returns-clause-moves : goal.returns-clause-moves
returns-clause-moves c =
    let u = kind_token c.args.source.now.tokens.now c.args.at kinds.Str c.requires.here in
    let within = slice_get_within c.args.source.now.tokens.now c.args.at u.0 u.1 in
    record {
      forth = omega arith;
      within = omega (arith, within);
      high = high_only c.leaf-string.result.node c.in_ok-only.field-0 _ _ c.in_ok-only.ensures.ok (c.leaf-string.ensures.view ∙ view_str _ _);
      low = omega arith;
    }

pub returns-clause-answer : goal.returns-clause-answer
returns-clause-answer c n low k words sp =
    string_args c.args.source.now sp c.requires.cut n k c.args.at (c.args.at + 1) c.in_ok-string_at.field-0 c.leaf-string.result.node c.in_ok-only.field-0 low c.requires.here c.in_ok-string_at.ensures.ok
    (c.leaf-string.ensures.view ∙ view_str _ _) c.in_ok-only.ensures.ok refl
