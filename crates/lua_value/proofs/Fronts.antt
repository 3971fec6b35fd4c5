-- What stands behind a byte at the front of a text.
use Rattle.std.proofs.Common.{◌≡◌, ◌≢◌, ℕ, true, false, List, [], ◌∷◌, length, take, drop, nat_eq, Option, Some, None, Bor, MatchOption, ◌+◌, refl, sym}
use Rattle.std.specs.Cmp.Lexicographic.{pointwise, same_text, other_text}

-- what a test for that byte says of the whole
pub behind_byte : (b : ℕ) (text : List ℕ) (found : Option (Bor (List ℕ))) →
    MatchOption found (pointwise nat_eq (take (length (b ∷ [])) text) (b ∷ []) ≡ false)
    (λ rest. (pointwise nat_eq (take (length (b ∷ [])) text) (b ∷ []) ≡ true)
    × (rest.now ≡ drop (length (b ∷ [])) text) × (length rest.now + length (b ∷ []) ≡ length text)) →
    MatchOption found ((c : ℕ) (rest : List ℕ) → text ≡ c ∷ rest → c ≢ b) (λ rest. text ≡ b ∷ rest.now)
behind_byte b text None cases = λ c rest is same. other_text (take 1 text) (b ∷ []) (sym cases) (rw (is, same) refl)
behind_byte b [] (Some rest) cases = absurd (cc cases.0)
behind_byte b (c ∷ cs) (Some rest) cases =
    let one : c ∷ [] ≡ b ∷ [] = same_text (c ∷ []) (b ∷ []) (sym cases.0) in
    let same : c ≡ b = cc in
    rw (same, cases.1) refl
