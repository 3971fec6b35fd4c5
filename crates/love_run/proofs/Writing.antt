-- Outputs written piece by piece.
use Rattle.std.proofs.Common.{◌≡◌, ℕ, zero, suc, ◌+◌, ◌-◌, ◌≤◌, ◌++◌, List, [], ◌∷◌, length, take, drop, Option, Some, None, Result, Ok, Err, refl, sym, ◌∙◌, ap, arith}
use Rattle.std.proofs.Math.Seq.{take-add}
use Rattle.std.proofs.lemmas.List.{append_assoc, length-drop, length-take}
use Rattle.std.specs.Option.{option_map}
use Rattle.std.specs.Result.{OnErr}

-- what a sink that tells its bytes has taken after two writes
pub taken_twice : (told : Option (List ℕ)) (first second : List ℕ) → option_map (λ before. before ++ second) (option_map (λ before. before ++ first) told) ≡ option_map (λ before. before ++ (first ++ second)) told
taken_twice None first second = refl
taken_twice (Some before) first second = ap Some (append_assoc before first second)

-- a fact holds at an error where it holds anyway
pub on_err : {T E : Type 0} {P : Type 0} (r : Result T E) → P → OnErr r P
on_err (Ok value) holds = tt
on_err (Err error) holds = holds

-- what follows from a fact at an error
pub on_err_then : {T E : Type 0} {P Q : Type 0} (r : Result T E) → OnErr r P → (P → Q) → OnErr r Q
on_err_then (Ok value) holds follows = tt
on_err_then (Err error) holds follows = follows holds

-- the first bytes of a piece are the next ones of the whole
pub piece_of : (n m count : ℕ) (whole : List ℕ) → count ≤ m → take count (take m (drop n whole)) ≡ take count (drop n whole)
piece_of n m count whole few = take_take count m (drop n whole) few
  where
    take_take : (count m : ℕ) (xs : List ℕ) → count ≤ m → take count (take m xs) ≡ take count xs
    take_take zero m xs few = refl
    take_take (suc count) zero xs few = absurd (omega arith)
    take_take (suc count) (suc m) [] few = refl
    take_take (suc count) (suc m) (x ∷ xs) few = ap (λ rest. x ∷ rest) (take_take count m xs (omega arith))

-- one piece more is written
pub piece_written : (before mid after : Option (List ℕ)) (out piece : List ℕ) (written count : ℕ) → mid ≡ option_map (λ b. b ++ take written out) before → after ≡ option_map (λ b. b ++ take count piece) mid → take count piece ≡ take count (drop written out) → after ≡ option_map (λ b. b ++ take (written + count) out) before
piece_written before mid after out piece written count so_far now is =
    now
    ∙ ap (λ m. option_map (λ b. b ++ take count piece) m) so_far
    ∙ taken_twice before (take written out) (take count piece)
    ∙ ap (λ part. option_map (λ b. b ++ part) before) (ap (λ part. take written out ++ part) is ∙ sym (take-add written count out))

-- a piece lies within what is left
pub piece_within : (out : List ℕ) (written end count : ℕ) → written ≤ length out → count ≤ length (take (end - written) (drop written out)) → (written + count ≤ length out) × (count ≤ end - written)
piece_within out written end count within few =
    let size = length-take (end - written) (drop written out) in
    let left = length-drop written out in
    (omega (arith, size, left, few), omega (arith, size, left, few))
