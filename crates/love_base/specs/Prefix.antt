-- Parts of lists from their front.
use Rattle.std.specs.Prelude.{◌≡◌, List, ◌∷◌, ◌++◌}

-- the whole begins with the part
abbrev pub IsPrefix : {X : Type 0} → List X → List X → Type 0
IsPrefix {X} part whole = (rest : List X) × (whole ≡ part ++ rest)

-- the whole begins with the part, and goes on behind it
abbrev pub IsProperPrefix : {X : Type 0} → List X → List X → Type 0
IsProperPrefix {X} part whole = (next : X) × (rest : List X) × (whole ≡ part ++ next ∷ rest)
