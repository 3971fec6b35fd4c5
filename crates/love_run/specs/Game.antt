-- The files of a game's folder, and the game that they are.
use Rattle.std.specs.Prelude.{◌≡◌, ◌<◌, ◌⊎◌, ℕ, List, [], length, map, codes, unwrap_or, Some, None}
use Rattle.std.specs.List.{AllByRecursion, sum_by}
use Rattle.std.specs.List.Sorted.{IsPermutation, IsSorted}
use Rattle.std.specs.Ordering.{nat_cmp}
use Rattle.std.specs.Cmp.Lexicographic.{slice_cmp}
use Rattle.love_base.specs.Data.{Contents}
use Rattle.love_base.specs.Folder.{File, content, paths}
use Rattle.love_base.specs.declared.folder.FolderErr.{FolderErr}
use Rattle.love_base.specs.declared.folder.FolderErr.TheVariants as folder
use Rattle.love_run.specs.declared.load_fault.LoadFault.{LoadFault}
use Rattle.love_run.specs.declared.load_fault.LoadFault.TheVariants as load

-- the path of the file that runs first
abbrev pub main_lua : List ℕ
main_lua = codes "main.lua"

-- the files have no `main.lua`
abbrev pub HasNoMain : List File → Type 0
HasNoMain files = content files main_lua ≡ None

-- the most files of a game
abbrev pub most_files : ℕ
most_files = 1000

-- the most bytes of all its files together
abbrev pub most_bytes : ℕ
most_bytes = 67108864

-- how many bytes the file of a path has
abbrev pub size_at : List File → List ℕ → ℕ
size_at files path = length (unwrap_or (content files path) [])

-- how many bytes the files of these paths have together
abbrev pub size_of : List File → List (List ℕ) → ℕ
size_of files paths = sum_by (size_at files) paths

-- there are too many files, or they have too many bytes together
abbrev pub IsTooLarge : List File → Type 0
IsTooLarge files = (most_files < length files) ⊎ (most_bytes < size_of files (paths files))

-- ---- a game: names with the bytes of their files

abbrev pub GameFile : Type 0
GameFile = List ℕ × Contents

abbrev pub names_of : List GameFile → List (List ℕ)
names_of game = map (λ file. file.0) game

-- the file is one of these, and its bytes name no file
abbrev pub IsFileOf : List File → GameFile → Type 0
IsFileOf files file = (content files file.0 ≡ Some file.1.bytes) × (file.1.name ≡ None)

-- the names rise byte by byte
abbrev pub Rises : List (List ℕ) → Type 0
Rises names = IsSorted (slice_cmp nat_cmp) names

-- the game is that of these files: all of them, in the byte order of their names
pub record IsGame (files : List File) (game : List GameFile) : Type 0 where
  pub names : IsPermutation (paths files) (names_of game)
  pub rises : Rises (names_of game)
  pub holds : AllByRecursion (IsFileOf files) game

-- ---- faults

-- how a fault of the folder is told
abbrev pub load_fault_of : FolderErr → LoadFault
load_fault_of folder.Failed = load.Folder
load_fault_of folder.Memory = load.Memory
