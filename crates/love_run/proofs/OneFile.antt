-- A folder of one file.
use Rattle.std.proofs.Common.{◌≡◌, ℕ, List, [], ◌∷◌, nat_eq, sym, subst}
use Rattle.std.specs.Global.{Vec}
use Rattle.std.specs.List.{IsDistinct}
use Rattle.std.specs.Cmp.Lexicographic.{pointwise}
use Rattle.love_base.specs.Folder.{paths, stored}

-- the path of one file is like no other
pub one_path : (files : List (List ℕ × Vec ℕ)) (file : List ℕ × Vec ℕ) → files ≡ file ∷ [] → IsDistinct (pointwise nat_eq) (paths (stored files))
unfolding IsDistinct
one_path files file is =
    let Distinct : List (List ℕ × Vec ℕ) → Type 0 = λ fs. IsDistinct (pointwise nat_eq) (paths (stored fs)) in
    subst Distinct (sym is) (tt, tt)
