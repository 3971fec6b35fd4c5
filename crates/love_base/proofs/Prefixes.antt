-- Lists that begin one another.
use Rattle.std.proofs.Common.{◌≡◌, ℕ, ◌≤◌, List, [], ◌++◌, length, take, sym, ap, ◌∙◌, arith, append-nil, append_assoc, length-append}
use Rattle.std.proofs.lemmas.List.{take-append-le}
use Rattle.love_base.specs.Prefix.{IsPrefix}

module _ {E : Type 0} where
  -- a list begins with itself
  pub whole : (xs : List E) → IsPrefix xs xs
  whole xs = ([], sym (append-nil xs))

  -- what begins the beginning begins the whole
  pub further : (xs ys zs : List E) → IsPrefix xs ys → IsPrefix ys zs → IsPrefix xs zs
  further xs ys zs a b = (a.0 ++ b.0, b.1 ∙ (ap (λ (l : List E). l ++ b.0) a.1 ∙ append_assoc xs a.0 b.0))

  -- the whole is no shorter than its beginning
  pub longer : (xs ys : List E) → IsPrefix xs ys → length xs ≤ length ys
  longer xs ys a = rw a.1 (omega (arith, length-append xs a.0))

  -- the first n of a list are the first n of what it begins
  pub first_same : (n : ℕ) (xs ys : List E) → n ≤ length xs → IsPrefix xs ys → take n ys ≡ take n xs
  first_same n xs ys le a = ap (take n) a.1 ∙ take-append-le n xs a.0 le
