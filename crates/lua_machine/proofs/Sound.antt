-- The files of a program are sound, one after the other.
use Rattle.std.proofs.Common.{◌≡◌, ℕ, zero, suc, ◌+◌, ◌<◌, List, [], ◌∷◌, length, map, take, refl, subst, slice_index, get_or, arith}
use Rattle.std.specs.List.{AllByRecursion}
use Rattle.lua_code.specs.Natives as natives
use Rattle.lua_code.specs.Sound.{IsSoundFile}
use Rattle.lua_code.specs.Held.{file_code_view, file_view}
use Rattle.lua_code.specs.declared.program.File.{File}

-- so many files are sound
abbrev pub SoundUpTo : List File → ℕ → Type 0
SoundUpTo files n = (k : ℕ) (file : File) → k < n → k < length files → IsSoundFile (file_code_view (get_or files k file).code)

pub all_files : (files : List File) (n : ℕ) → length files ≡ n → SoundUpTo files n → AllByRecursion (λ (f : natives.File). IsSoundFile f.code) (map file_view files)
all_files [] n e each = tt
all_files (f ∷ files) zero e each = absurd (let x : ⊥ = omega (arith, e) in x)
all_files (f ∷ files) (suc n) e each = (
  each 0 f (omega arith) (omega arith),
  all_files files n (let x : length files ≡ n = omega (arith, e) in x) (λ k file lt inside. each (suc k) file (omega (arith, lt)) (omega (arith, inside))),
)
