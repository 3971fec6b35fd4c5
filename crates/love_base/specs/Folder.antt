-- What a folder tells of its files.
use Rattle.std.specs.Prelude.{ℕ, List, [], ◌∷◌, ◌++◌, Option, Some, None, if◌then◌else◌, map, nat_eq}
use Rattle.std.specs.Cmp.Lexicographic.{pointwise}
use Rattle.std.specs.Global.{Vec}

-- a file: its path and its bytes
abbrev pub File : Type 0
File = List ℕ × List ℕ

-- the paths of these files
abbrev pub paths : List File → List (List ℕ)
paths files = map (λ file. file.0) files

-- the bytes of the first file of that path, where there is one
abbrev pub content : List File → List ℕ → Option (List ℕ)
content [] path = None
content (file ∷ files) path =
    if pointwise nat_eq file.0 path then Some file.1 else content files path

-- the path of what has a name in a folder, where the path of the folder at the start is empty
abbrev pub joined : List ℕ → List ℕ → List ℕ
joined [] name = name
joined (first ∷ folder) name = first ∷ folder ++ (47 ∷ name)

-- files that are kept as vectors of bytes
abbrev pub stored : List (List ℕ × Vec ℕ) → List File
stored [] = []
stored (file ∷ files) = (file.0, file.1.items) ∷ stored files
