-- A part of a part of a list.
use Rattle.std.proofs.Common.{◌≡◌, ℕ, ◌+◌, ◌-◌, ◌≤◌, List, drop, slice_range, refl, arith}
use Rattle.std.proofs.lemmas.List.{drop-take, take-take, drop-drop}

pub slice_range-slice_range : {X : Type 0} (xs : List X) (start size offset count : ℕ) → offset + count ≤ size
    → slice_range xs (start + offset) (start + offset + count) ≡ slice_range (slice_range xs start (start + size)) offset (offset + count)
slice_range-slice_range xs start size offset count within =
    let outer : start + size - start ≡ offset + (size - offset) = omega arith in
    let inner : offset + count - offset ≡ count = omega arith in
    let direct : start + offset + count - (start + offset) ≡ count = omega arith in
    let fits : count ≤ size - offset = omega arith in
    rw (outer, inner, direct, drop-take offset (size - offset) (drop start xs), take-take count (size - offset) (drop offset (drop start xs)) fits, drop-drop offset start xs) refl
