use Rattle.std.proofs.Common.{◌≡◌, ◌≢◌, ℕ, Some, None, List, [], ◌∷◌, refl, sym, ◌∙◌}
use Rattle.lua_value.specs.Place.{BeginsWithout}
use Rattle.lua_value.proofs.Fronts.{behind_byte}
use Rattle.lua_value.proofs.decimal.split_fraction.Goals as goal

begins_without : (text : List ℕ) → ((c : ℕ) (rest : List ℕ) → text ≡ c ∷ rest → c ≢ 46) → BeginsWithout 46 text
begins_without [] h = tt
begins_without (c ∷ cs) h = h c cs refl

pub returns-in-Some : goal.returns-in-Some
returns-in-Some c = (
  Some c.split_digits.result.0.now,
  c.split_digits.ensures.digits,
  (c.split_digits.ensures.rest, λ none. absurd (cc none)),
  refl,
  behind_byte 46 c.args.text.now (Some c.in-Some.behind) c.in-Some.ensures.cases ∙ rw (← c.split_digits.ensures.whole) refl,
)

pub returns-in-None : goal.returns-in-None
returns-in-None c = (
  None,
  tt,
  (rw c.split_at.ensures.back c.requires, λ _. rw c.split_at.ensures.back (begins_without _ (behind_byte 46 c.args.text.now None c.in-None.ensures.cases))),
  c.split_at.ensures.front,
  sym c.split_at.ensures.back,
)
