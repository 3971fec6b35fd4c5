-- The strings of a heap: each text once, at the place that is its id, and how a text's place is found.
use Rattle.std.specs.Prelude.{◌≡◌, ℕ, ◌<◌, ◌≤◌, List, [], ◌∷◌, ◌++◌, length, slice_get, slice_range, Option, None, Some, IsSome, ◌⊎◌, bytes_eq, nat_eq, ◌==◌, map, if◌then◌else◌}
use Rattle.std.specs.Map.{lookup}
use Rattle.std.specs.Hash.FoldHasher as folding
use Rattle.lua_tree.specs.Tree.{Bytes}
use Rattle.lua_heap.specs.declared.texts.Span.{Span}

-- texts once a text is among them: behind the others, where it is new
abbrev pub interned : List Bytes → Bytes → List Bytes
interned [] text = text ∷ []
interned (other ∷ texts) text =
    if bytes_eq other text then other ∷ texts else other ∷ interned texts text

-- no text stands at two places
abbrev pub AreOnce : List Bytes → Type 0
AreOnce texts = (m n : ℕ) (text : Bytes) → slice_get texts m ≡ Some text → slice_get texts n ≡ Some text → m ≡ n

-- ---- how a place is found

abbrev pub text_hash : Bytes → ℕ
text_hash text = folding.finish (folding.write folding.initial text)

-- the texts that spans of an arena are
abbrev pub spanned : List ℕ → List Span → List Bytes
spanned arena spans = map (λ span. slice_range arena span.start span.end) spans

-- a span lies in an arena
pub record Lies (arena : List ℕ) (span : Span) : Type 0 where
  pub rising : span.start ≤ span.end
  pub within : span.end ≤ length arena

-- the first place of a hash, where it has one
abbrev pub first_of : List (ℕ × ℕ) → ℕ → Option ℕ
first_of first hash = lookup (nat_eq hash) first

-- a place is the first one of its hash, or it is among the later ones of hashes that stood before
abbrev pub IsListed : (first : List (ℕ × ℕ)) → (later : List ℕ) → (hash place : ℕ) → Type 0
IsListed first later hash place =
    (first_of first hash ≡ Some place)
    ⊎ (IsSome (first_of first hash) × ((k : ℕ) × (slice_get later k ≡ Some place)))

-- each text is found by its hash, and only places of texts are
pub record AreFound (first : List (ℕ × ℕ)) (later : List ℕ) (texts : List Bytes) : Type 0 where
  pub first_within : (hash place : ℕ) → first_of first hash ≡ Some place → place < length texts
  pub later_within : (k place : ℕ) → slice_get later k ≡ Some place → place < length texts
  pub listed : (place : ℕ) (text : Bytes) → slice_get texts place ≡ Some text → IsListed first later (text_hash text) place

-- what the strings of a heap keep
pub record AreTexts (arena : List ℕ) (spans : List Span) (first : List (ℕ × ℕ)) (later : List ℕ) : Type 0 where
  pub lie : (k : ℕ) (span : Span) → slice_get spans k ≡ Some span → Lies arena span
  pub found : AreFound first later (spanned arena spans)
  pub once : AreOnce (spanned arena spans)

-- a place of a hash was entered: as its first one, or behind the later ones
pub data IsEntered (first : List (ℕ × ℕ)) (later : List ℕ) (first_then : List (ℕ × ℕ)) (later_then : List ℕ) (hash place : ℕ) : Type 0 where
  as_first :
      first_of first hash ≡ None
      → ((other : ℕ) → first_of first_then other ≡ (if hash == other then Some place else first_of first other))
      → later_then ≡ later
      → IsEntered first later first_then later_then hash place
  as_later :
      IsSome (first_of first hash)
      → first_then ≡ first
      → later_then ≡ later ++ place ∷ []
      → IsEntered first later first_then later_then hash place
