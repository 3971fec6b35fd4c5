-- Facts of histories: lists of entries, the oldest first.
use Rattle.std.specs.Prelude.{◌≡◌, List, ◌∷◌, ◌++◌}

-- a fact of each entry, taken with the entries before it
abbrev pub AtEach : {E : Type 0} → (List E → E → Type 0) → List E → Type 0
AtEach {E} P h = (before : List E) (e : E) (after : List E) → h ≡ before ++ e ∷ after → P before e
