-- What a listing of a folder says of its files, and whether it has a `main.lua`.
use Rattle.std.proofs.lemmas.List.Sorted.{Contains-permutation, IsPermutation-sym, sum_by-IsPermutation}
use Rattle.std.proofs.lemmas.Slice.Eq.{bytes_eq-Decides}
use Rattle.std.specs.List.Sorted.{IsPermutation}
use Rattle.std.proofs.Common.{◌≡◌, ℕ, zero, suc, ◌<◌, ◌||◌, if◌then◌else◌, inl, inr, true≢false, arith, [], ◌∷◌, Bool, true, false, List, Option, Some, None, Err, IsErrOf, IfSome, nat_eq, refl, sym, ◌∙◌, ap, subst}
use Rattle.std.specs.Prelude.{IsSome, is_some}
use Rattle.std.specs.Option.{ForSome}
use Rattle.std.specs.List.{AllByRecursion, Contains, list_any}
use Rattle.std.specs.Cmp.Lexicographic.{pointwise}
use Rattle.love_base.specs.Folder.{File, content, paths}
use Rattle.love_base.proofs.Content.{is_some-content}
use Rattle.love_run.specs.Game.{GameFile, HasNoMain, IsTooLarge, main_lua, most_bytes, names_of, size_at, size_of}
use Rattle.lua_state.specs.Runs.{HasMain}

-- the answer of a search in the paths, told of the files
searched : (files : List File) (names : List (List ℕ)) (path : List ℕ) (found : Bool) → names ≡ paths files → found ≡ list_any (λ other. pointwise nat_eq other path) names → is_some (content files path) ≡ found
searched files names path found told is =
    is_some-content files path ∙ ap (list_any (λ other. pointwise nat_eq other path)) (sym told) ∙ sym is

none_from : {X : Type 0} (o : Option X) → is_some o ≡ false → o ≡ None
none_from None is = refl
none_from (Some x) is = cc

some_from : {X : Type 0} (o : Option X) → is_some o ≡ true → IsSome o
some_from None is = cc
some_from (Some x) is = refl

-- no name is that of `main.lua`
pub main_missing : (told : Option (List File)) (names : List (List ℕ)) (path : List ℕ) (found : Bool) → path ≡ main_lua → IfSome told (λ files. names ≡ paths files) → found ≡ list_any (λ other. pointwise nat_eq other path) names → found ≡ false → IfSome told HasNoMain
main_missing None names path found main lists among not = tt
main_missing (Some files) names path found main lists among not =
    let Missing : List ℕ → Type 0 = λ p. content files p ≡ None in
    subst Missing main (none_from (content files path) (searched files names path found lists among ∙ not))

-- a name that was found has contents, also after the search
pub main_there : (told after : Option (List File)) (names : List (List ℕ)) (path : List ℕ) (found : Bool) → after ≡ told → IfSome told (λ files. names ≡ paths files) → found ≡ list_any (λ other. pointwise nat_eq other path) names → found ≡ true → ForSome after (λ files. IsSome (content files path))
main_there told after names path found same lists among there files is = by_told told lists (sym is ∙ same)
  where
    by_told : (told : Option (List File)) → IfSome told (λ files. names ≡ paths files) → Some files ≡ told → IsSome (content files path)
    by_told None lists e = cc
    by_told (Some others) lists e =
        let same_files : files ≡ others = cc in
        let Lists : List File → Type 0 = λ fs. names ≡ paths fs in
        some_from (content files path) (searched files names path found (subst Lists (sym same_files) lists) among ∙ there)

-- a text that a search finds is among the texts
pub among_texts : (texts : List (List ℕ)) (text : List ℕ) → list_any (λ other. pointwise nat_eq other text) texts ≡ true → Contains texts text
among_texts [] text found = cc
among_texts (first ∷ texts) text found = one (pointwise nat_eq first text) refl found (among_texts texts text)
  where
    one : (same : Bool) → pointwise nat_eq first text ≡ same → (same || list_any (λ other. pointwise nat_eq other text) texts) ≡ true → (list_any (λ other. pointwise nat_eq other text) texts ≡ true → Contains texts text) → Contains (first ∷ texts) text
    one true is found behind = (0, omega arith, (bytes_eq-Decides first text).0 is)
    one false is found behind =
        let rest = behind found in
        (suc rest.0, omega (arith, rest.1), rest.2)

-- a name that was found stands among the names in order too
pub main_among : (names sorted : List (List ℕ)) (path : List ℕ) (found : Bool) → path ≡ main_lua → IsPermutation names sorted → found ≡ list_any (λ other. pointwise nat_eq other path) names → found ≡ true → Contains sorted main_lua
main_among names sorted path found main moved among there =
    subst (Contains sorted) main (Contains-permutation names sorted path moved (among_texts names path (sym among ∙ there)))

-- a path among those of the files has contents
pub listed_has : (files : List File) (path : List ℕ) → Contains (paths files) path → is_some (content files path) ≡ true
listed_has [] path among = absurd (omega (arith, among.1))
listed_has (file ∷ files) path among = one (pointwise nat_eq file.0 path) refl among (listed_has files path)
  where
    one : (same : Bool) → pointwise nat_eq file.0 path ≡ same → Contains (file.0 ∷ paths files) path → (Contains (paths files) path → is_some (content files path) ≡ true) → is_some (if same then Some file.1 else content files path) ≡ true
    one true is among behind = refl
    one false is (zero, below, at) behind = absurd (true≢false (sym ((bytes_eq-Decides file.0 path).1 at) ∙ is))
    one false is (suc k, below, at) behind = behind (k, omega (arith, below), at)

pub each_has : (files : List File) (names : List (List ℕ)) → IsPermutation (paths files) names → AllByRecursion (λ name. IsSome (content files name)) names
each_has files names moved = go names (λ name among. some_from (content files name) (listed_has files name (Contains-permutation names (paths files) name (IsPermutation-sym (paths files) names moved) among)))
  where
    go : (some : List (List ℕ)) → ((name : List ℕ) → Contains some name → IsSome (content files name)) → AllByRecursion (λ name. IsSome (content files name)) some
    go [] has = tt
    go (name ∷ some) has = (has name (0, omega arith, refl), go some (λ other among. has other (suc among.0, omega (arith, among.1), among.2)))

-- each name that a listing gave has contents, also after it
pub all_listed : (told after : Option (List File)) (names : List (List ℕ)) → after ≡ told → IfSome told (λ files. IsPermutation (paths files) names) → ForSome after (λ files. AllByRecursion (λ name. IsSome (content files name)) names)
all_listed None after names same moved files is = absurd (cc)
all_listed (Some others) after names same moved files is =
    let same_files : others ≡ files = cc in
    subst (λ fs. AllByRecursion (λ name. IsSome (content fs name)) names) same_files (each_has others names moved)

-- the names in order have the bytes that the files have
pub too_large_by : (told after : Option (List File)) (names : List (List ℕ)) → after ≡ told → IfSome told (λ files. IsPermutation (paths files) names) → IfSome after (λ files. most_bytes < size_of files names) → IfSome told IsTooLarge
too_large_by None after names same moved large = tt
too_large_by (Some files) after names same moved large =
    let Large : Option (List File) → Type 0 = λ told. IfSome told (λ fs. most_bytes < size_of fs names) in
    inr (subst (λ n. most_bytes < n) (sum_by-IsPermutation (size_at files) (paths files) names moved) (subst Large same large))

-- a game whose names have `main.lua` has it
pub has_main : (game : List GameFile) → Contains (names_of game) main_lua → HasMain game
has_main [] among = absurd (omega (arith, among.1))
has_main (file ∷ game) (zero, below, at) = inl at
has_main (file ∷ game) (suc k, below, at) = inr (has_main game (k, omega (arith, below), at))

pub game_has_main : (game made : List GameFile) (names : List (List ℕ)) → game ≡ made → names_of made ≡ names → Contains names main_lua → HasMain game
game_has_main game made names is named among = has_main game (subst (λ ns. Contains ns main_lua) (sym (ap names_of is ∙ named)) among)

-- a fault is the same, whatever the call gives otherwise
pub same_fault : {T U E : Type 0} (fault other : E) → IsErrOf {T = T} (Err fault) other → IsErrOf {T = U} (Err fault) other
same_fault fault other is =
    let same : fault ≡ other = cc in
    ap Err same
