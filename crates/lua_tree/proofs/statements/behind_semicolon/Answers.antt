use Rattle.std.proofs.Common.{◌≡◌, ◌+◌, ℕ, refl, sym, ◌∙◌}
use Rattle.std.proofs.lemmas.Bool.{false≢true}
use Rattle.lua_token.specs.declared.kind.Kind.TheVariants as kinds
use Rattle.lua_tree.specs.Words as w
use Rattle.lua_tree.specs.Reading.{gives}
use Rattle.lua_tree.proofs.Taking.{look_at, take_at, keeps_free}
use Rattle.lua_tree.proofs.Marks.{key_stands, no_key}
use Rattle.lua_tree.proofs.Others.{look_as, semi_other}
use Rattle.lua_tree.proofs.Descent.{ended}
use Rattle.lua_tree.proofs.statements.behind_semicolon.Goals as goal

pub returns-then-is-clause-read : goal.returns-then-is-clause-read
returns-then-is-clause-read c words sp =
    let h = key_stands sp c.args.at kinds.Semicolon tt (c.is.ensures.value.0 c.if-is.true) in
    look_at h.is (take_at h.is keeps_free (ended c.args.at (c.args.at + 1) words refl refl))

pub returns-else-is-clause-read : goal.returns-else-is-clause-read
returns-else-is-clause-read c words sp =
    look_as (semi_other _ _ (no_key sp c.args.at kinds.Semicolon (w.key w.semicolon) refl (λ e. false≢true (sym c.if-is.false ∙ c.is.ensures.value.1 e)))) gives
