-- Which positions are vacant among those that have had a value, and what a table's least border is by them. No contract of the
-- table cites it.
use Rattle.std.specs.Prelude.{◌≡◌, ◌≢◌, ℕ, ◌+◌, ◌*◌, ◌/◌, ◌^◌, ◌<◌, ◌≤◌, Bool, true, false, List, length, slice_index, slice_index_or, Option, is_none}
use Rattle.std.specs.Option.{option_map_or}
use Rattle.lua_table.specs.Table.{Places, has_place, value_at}

-- what stands for no number
abbrev pub none : ℕ
none = 0xffff_ffff

-- the numbers of a set, as a flag for each
abbrev pub has_gap : List Bool → ℕ → Bool
has_gap flags number = slice_index_or flags number false

-- the least number of the set in a block of eight, or none
pub record IsFirst (flags : List Bool) (block first : ℕ) : Type 0 where
  pub inside : first ≢ none → first / 8 ≡ block
  pub there : first ≢ none → has_gap flags first ≡ true
  pub least : (number : ℕ) → number / 8 ≡ block → has_gap flags number ≡ true → first ≤ number

-- the lesser of two
pub record IsLesser (least left right : ℕ) : Type 0 where
  pub below_left : least ≤ left
  pub below_right : least ≤ right
  pub either : least ≢ left → least ≡ right

-- the node i of a tree has the lesser of what its two children have
abbrev pub IsNode : List ℕ → ℕ → Type 0
IsNode tree i = IsLesser (slice_index tree i) (slice_index tree (2 * i)) (slice_index tree (2 * i + 1))

-- how many leaves a tree has
abbrev pub leaves : List ℕ → ℕ
leaves tree = length tree / 2

-- a tree over the blocks of a set: its leaves are its second half
pub record IsTree (flags : List Bool) (tree : List ℕ) : Type 0 where
  pub even : length tree ≡ 2 * leaves tree
  pub blocks : length flags ≡ 8 * leaves tree
  pub small : length flags ≤ 2 ^ 31
  pub node : (i : ℕ) → 1 ≤ i → i < leaves tree → IsNode tree i
  pub leaf : (block : ℕ) → block < leaves tree → IsFirst flags block (slice_index tree (leaves tree + block))

module _ {K V : Type 0} (same : K → K → Bool) (at : ℕ → Option K) where
  -- whether a position ever had a value
  abbrev pub had : Places K V → ℕ → Bool
  had places n = option_map_or (has_place same places) (at n) false

  -- whether a position has no value
  abbrev pub vacant : Places K V → ℕ → Bool
  vacant places n = is_none (value_at same at places n)

  -- each position up to `reached` has had a value, the next one hasn't, and a number below `reached` is a gap where the position
  -- behind it is vacant
  pub record IsBordered (places : Places K V) (reached : ℕ) (gaps : List Bool) : Type 0 where
    pub behind : (n : ℕ) → 1 ≤ n → n ≤ reached → had places n ≡ true
    pub ended : had places (reached + 1) ≡ false
    pub known : (k : ℕ) → k < reached → has_gap gaps k ≡ vacant places (k + 1)
    pub inside : (k : ℕ) → has_gap gaps k ≡ true → k < reached
    pub room : reached ≤ length gaps
