-- The order of texts.
use Rattle.std.proofs.Common.{◌≡◌, ℕ, List, Bool, not, refl, arith}
use Rattle.std.proofs.lemmas.Bool.Decides.{nat_tests}
use Rattle.std.proofs.lemmas.Cmp.{same_from_slice_cmp_tested}
use Rattle.std.specs.Cmp.Lexicographic.{slice_partial_cmp}
use Rattle.std.specs.Ordering.{nat_cmp, is_lt, is_some_and}
use Rattle.std.specs.Prelude.{Some}
use Rattle.lua_meaning.specs.Tables.{is_text_up_to}

pub text_less : (xs ys : List ℕ) (r : Bool) → r ≡ is_some_and is_lt (slice_partial_cmp (λ x y. Some (nat_cmp x y)) xs ys) → r ≡ not (is_text_up_to ys xs)
text_less xs ys r is =
    same_from_slice_cmp_tested nat_cmp is_lt (λ a b. not (is_text_up_to b a)) refl (λ _ _. refl) (λ _ _. refl)
    (λ x y a b o h. grind (arith, nat_tests)) xs ys r is
