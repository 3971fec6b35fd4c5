-- The words at a place of the tokens.
use Rattle.std.proofs.Common.{◌≡◌, ℕ, zero, suc, ◌+◌, ◌-◌, ◌<◌, List, [], ◌∷◌, Option, Some, None, drop, refl, sym, subst}
use Rattle.std.specs.Prelude.{slice_get, nat_lt}
use Rattle.std.proofs.lemmas.Option.{none-some, same_Some}
use Rattle.lua_token.specs.declared.kind.Kind.{Kind}
use Rattle.lua_token.specs.declared.kind.Kind.TheVariants as kinds
use Rattle.lua_token.specs.declared.token.Token.{Token}
use Rattle.lua_tree.specs.Words as w
use Rattle.lua_tree.specs.Words.{Word, Spot, Tok, tok, word_of}
use Rattle.lua_tree.specs.Spelled.{Spelled, no_token, token_and, IsWord, spot_behind, kind_at, kind_of, word_of_kind}
use Rattle.lua_tree.specs.Answer.{line_of}

-- the line of the token before a place
abbrev pub before_at : List Token → ℕ → ℕ → ℕ
before_at ts zero first = first
before_at ts (suc k) first = line_of (slice_get ts k)

-- where this token stands, its word stands
pub record Here (source : List ℕ) (ts : List Token) (words : List Tok) (first at : ℕ) (t : Token) : Type 0 where
  pub word : Word
  pub is_word : IsWord source t t.kind word
  pub stands : drop at words ≡ tok word (spot_behind (before_at ts at first) t) ∷ drop (suc at) words

pub here : {source : List ℕ} {first : ℕ} {ts : List Token} {words : List Tok} → Spelled source first ts words → (at : ℕ) (t : Token) → slice_get ts at ≡ Some t → Here source ts words first at t
here no_token at t e = absurd (none-some t e)
here {source = source} (token_and {before = b} {t = u} {ts = ts} {v = v} {us = us} is rest) zero t e =
    subst (λ (x : Token). Here source (u ∷ ts) (tok v (spot_behind b u) ∷ us) b zero x) (same_Some u t e) (record { word = v; is_word = is; stands = refl })
here (token_and {t = u} is rest) (suc zero) t e =
    let h = here rest zero t e in record { word = h.word; is_word = h.is_word; stands = h.stands }
here (token_and {t = u} is rest) (suc (suc at)) t e =
    let h = here rest (suc at) t e in record { word = h.word; is_word = h.is_word; stands = h.stands }

-- at the end no word stands
pub past : {source : List ℕ} {first : ℕ} {ts : List Token} {words : List Tok} → Spelled source first ts words → (at : ℕ) → slice_get ts at ≡ None → drop at words ≡ []
past no_token zero e = refl
past no_token (suc at) e = refl
past (token_and is rest) zero e = absurd (none-some _ (sym e))
past (token_and is rest) (suc at) e = past rest at e
