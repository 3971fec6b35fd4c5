-- What is left of a list behind its first elements, as the code slices it.
use Rattle.std.proofs.Common.{◌≡◌, ℕ, ◌-◌, List, length, take, drop, subst}
use Rattle.std.proofs.lemmas.List.{length-drop}
use Rattle.std.proofs.Math.Seq.{take-length}

pub rest_is : (n : ℕ) (text : List ℕ) → take (length text - n) (drop n text) ≡ drop n text
rest_is n text = subst (λ k. take k (drop n text) ≡ drop n text) (length-drop n text) (take-length (drop n text))
