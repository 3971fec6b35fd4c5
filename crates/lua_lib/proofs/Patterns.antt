-- Whether a text has a byte that means something in a pattern.
use Rattle.std.proofs.Common.{◌≡◌, ℕ, zero, suc, ◌<◌, Bool, true, false, ◌||◌, List, [], ◌∷◌, length, get_or, arith, ap, refl, ◌∙◌}
use Rattle.std.specs.Prelude.{codes}
use Rattle.lua_meaning.specs.Strings.{is_one_of, is_pattern}

abbrev special : ℕ → Bool
special c = is_one_of (codes "^$*+?.([%-") c

pub pattern-some : (text : List ℕ) (i : ℕ) → i < length text → special (get_or text i 0) ≡ true → is_pattern text ≡ true
pattern-some [] i h e = absurd (omega arith)
pattern-some (c ∷ cs) zero h e = ap (λ (b : Bool). b || is_pattern cs) e
pattern-some (c ∷ cs) (suc i) h e = from (special c) (pattern-some cs i (omega arith) e)
  where
    from : (b : Bool) → is_pattern cs ≡ true → b || is_pattern cs ≡ true
    from true later = refl
    from false later = later

pub pattern-none : (text : List ℕ) → ((k : ℕ) → k < length text → special (get_or text k 0) ≡ false) → is_pattern text ≡ false
pattern-none [] h = refl
pattern-none (c ∷ cs) h =
    ap (λ (b : Bool). b || is_pattern cs) (h 0 (omega arith)) ∙ pattern-none cs (λ k l. h (suc k) (omega arith))
