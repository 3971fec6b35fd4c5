-- Which paths have contents.
use Rattle.std.proofs.Common.{◌≡◌, ℕ, Bool, true, false, List, [], ◌∷◌, Some, if◌then◌else◌, nat_eq, ◌||◌, refl}
use Rattle.std.specs.Prelude.{is_some}
use Rattle.std.specs.List.{list_any}
use Rattle.std.specs.Cmp.Lexicographic.{pointwise}
use Rattle.love_base.specs.Folder.{File, content, paths}

-- a path has contents exactly where it is among the paths
pub is_some-content : (files : List File) (path : List ℕ) → is_some (content files path) ≡ list_any (λ other. pointwise nat_eq other path) (paths files)
is_some-content [] path = refl
is_some-content (file ∷ files) path = one (pointwise nat_eq file.0 path) (is_some-content files path)
  where
    one : (same : Bool) → is_some (content files path) ≡ list_any (λ other. pointwise nat_eq other path) (paths files) → is_some (if same then Some file.1 else content files path) ≡ (same || list_any (λ other. pointwise nat_eq other path) (paths files))
    one true ih = refl
    one false ih = ih
