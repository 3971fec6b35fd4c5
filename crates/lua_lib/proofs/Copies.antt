-- Copies of a text, one more at the end.
use Rattle.std.proofs.Common.{◌≡◌, ℕ, zero, suc, List, ◌++◌, ap, sym, ◌∙◌, append_assoc, append-nil}
use Rattle.lua_meaning.specs.Strings.{copies}

pub copies-more : (n : ℕ) (s : List ℕ) → copies n s ++ s ≡ copies (suc n) s
copies-more zero s = sym (append-nil s)
copies-more (suc n) s = append_assoc s (copies n s) s ∙ ap (λ (l : List ℕ). s ++ l) (copies-more n s)
