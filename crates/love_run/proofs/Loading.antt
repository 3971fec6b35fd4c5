-- How far a folder was read.
use Rattle.std.proofs.Common.{◌≡◌, ℕ, ◌+◌, ◌++◌, List, [], ◌∷◌, length, Option, Some, None, IfSome, sym, ◌∙◌, ap, subst, append_assoc, length-append, arith}
use Rattle.std.specs.Prelude.{unwrap_or}
use Rattle.std.specs.List.{AllByRecursion}
use Rattle.std.proofs.lemmas.List.{map-append}
use Rattle.std.proofs.lemmas.List.Sums.{sum_by-append}
use Rattle.love_base.specs.Folder.{File}
use Rattle.love_run.specs.Game.{GameFile, IsFileOf, names_of, size_at, size_of}

-- what was read are the files of the first names, of this size together, where the folder tells them
pub record IsReadSoFar (told : Option (List File)) (names rest : List (List ℕ)) (made : List GameFile) (size : ℕ) : Type 0 where
  pub parts : names_of made ++ rest ≡ names
  pub holds : IfSome told (λ files. AllByRecursion (IsFileOf files) made)
  pub counted : IfSome told (λ files. size_of files (names_of made) ≡ size)

-- one item more makes a list longer by one
pub one_longer : {X : Type 0} (xs ys : List X) (x : X) → ys ≡ xs ++ x ∷ [] → length ys ≡ length xs + 1
one_longer xs ys x is = ap length is ∙ length-append xs (x ∷ [])

-- a fact of each item, and of one more
all_more : {X : Type 0} (P : X → Type 0) (xs : List X) (x : X) → AllByRecursion P xs → P x → AllByRecursion P (xs ++ x ∷ [])
all_more P [] x all one = (one, tt)
all_more P (y ∷ xs) x all one = (all.0, all_more P xs x all.1 one)

-- the size of a file that was read
size_read : (files : List File) (file : GameFile) → IsFileOf files file → size_at files file.0 ≡ length file.1.bytes
size_read files file is = ap (λ found. length (unwrap_or found [])) is.0

size_more : (files : List File) (names : List (List ℕ)) (file : GameFile) (size n : ℕ) → IsFileOf files file → n ≡ length file.1.bytes → size_of files names ≡ size → size_of files (names ++ file.0 ∷ []) ≡ size + n
size_more files names file size n is counted so_far =
    let all = sum_by-append (size_at files) names (file.0 ∷ []) in
    let one = size_read files file is in
    omega (arith, all, one, counted, so_far)

-- one file more
pub read_more : (told : Option (List File)) (names rest rest' : List (List ℕ)) (made made' : List GameFile) (size : ℕ) (file : GameFile) {n : ℕ} {name : List ℕ} → IsReadSoFar told names rest made size → rest ≡ name ∷ rest' → file.0 ≡ name → IfSome told (λ files. IsFileOf files file) → made' ≡ made ++ file ∷ [] → n ≡ length file.1.bytes → IsReadSoFar told names rest' made' (size + n)
read_more told names rest rest' made made' size file {n} {name} so_far next named is pushed counted =
    let listed : names_of made' ≡ names_of made ++ file.0 ∷ [] = ap names_of pushed ∙ map-append (λ f. f.0) made (file ∷ []) in
    record {
      parts = ap (λ ns. ns ++ rest') listed ∙ append_assoc (names_of made) (file.0 ∷ []) rest' ∙ ap (λ t. names_of made ++ t ∷ rest') named ∙ ap (λ r. names_of made ++ r) (sym next) ∙ so_far.parts;
      holds = holds_more told so_far.holds is;
      counted = counted_more told listed so_far.counted is;
    }
  where
    holds_more : (told : Option (List File)) → IfSome told (λ files. AllByRecursion (IsFileOf files) made) → IfSome told (λ files. IsFileOf files file) → IfSome told (λ files. AllByRecursion (IsFileOf files) made')
    holds_more None all one = tt
    holds_more (Some files) all one = subst (AllByRecursion (IsFileOf files)) (sym pushed) (all_more (IsFileOf files) made file all one)

    counted_more : (told : Option (List File)) → names_of made' ≡ names_of made ++ file.0 ∷ [] → IfSome told (λ files. size_of files (names_of made) ≡ size) → IfSome told (λ files. IsFileOf files file) → IfSome told (λ files. size_of files (names_of made') ≡ size + n)
    counted_more None listed so_far one = tt
    counted_more (Some files) listed so_far one = ap (size_of files) listed ∙ size_more files (names_of made) file size n one counted so_far
