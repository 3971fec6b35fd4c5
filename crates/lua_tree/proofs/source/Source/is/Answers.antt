use Rattle.std.proofs.Common.{ℕ, List, length, ◌<◌, ◌≡◌, Option, Some, None, true, false, Bool, refl, sym, ap, ◌∙◌, subst}
use Rattle.std.specs.Prelude.{IsTrue}
use Rattle.std.specs.Option.{option_eq}
use Rattle.std.specs.Prelude.{IfSome}
use Rattle.std.proofs.lemmas.Option.{none-some}
use Rattle.lua_token.specs.declared.token.Token.{Token}
use Rattle.std.proofs.lemmas.Bool.{false≢true}
use Rattle.lua_token.specs.contracts.kind.KindPartialEq.TheImpl.{eq-value}
use Rattle.lua_token.specs.declared.kind.Kind.{Kind}
use Rattle.lua_tree.specs.Spelled.{IsMark}
use Rattle.lua_tree.proofs.SameKind.{same_kind, kind_same}
use Rattle.lua_tree.proofs.source.Source.is.Goals as goal

found : (o : Option Kind) (k : Kind) → IsMark k → option_eq eq-value.it o (Some k) ≡ true → o ≡ Some k
found None k m e = absurd (false≢true e)
found (Some j) k m e = ap Some (same_kind j k m e)

pub returns-clause-value : goal.returns-clause-value
returns-clause-value c = (
  λ t. sym c.kind_at.ensures.value ∙ found c.kind_at.result c.args.kind c.requires (sym c.eq.ensures ∙ t),
  λ e. c.eq.ensures ∙ ap (λ o. option_eq eq-value.it o (Some c.args.kind)) (c.kind_at.ensures.value ∙ e) ∙ kind_same c.args.kind c.requires,
)

within : (ts : List Token) (at : ℕ) (o : Option Kind) (k : Kind) → o ≡ Some k → IfSome o (λ j. at < length ts) → at < length ts
within ts at (Some j) k e h = h
within ts at None k e h = absurd (none-some k e)

pub returns-clause-within : goal.returns-clause-within
returns-clause-within c = λ t. within c.args.self.now.tokens.now c.args.at c.kind_at.result c.args.kind (found c.kind_at.result c.args.kind c.requires (sym c.eq.ensures ∙ t)) c.kind_at.ensures.within
