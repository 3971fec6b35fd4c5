-- What the tree over a set's blocks says of the set.
use Rattle.std.proofs.Common.{◌≡◌, ◌≢◌, ℕ, zero, suc, ◌+◌, ◌-◌, ◌*◌, ◌/◌, ◌<◌, ◌≤◌, Bool, true, false, List, ◌++◌, length, get_or, set, take, subst, refl, sym, ap, ◌∙◌, ◌⊎◌, inl, inr, true≢false, arith}
use Rattle.std.proofs.lemmas.Bool.{cases_eq, cases_lt}
use Rattle.std.proofs.lemmas.List.{get_or_past, get_or-set_same, get_or-set_other, length-set, take_at}
use Rattle.lua_table.specs.Gaps.{none, has_gap, leaves, IsFirst, IsNode, IsTree}

-- a number that is in the set is below the room
pub below-room : (flags : List Bool) (k : ℕ) → has_gap flags k ≡ true → k < length flags
below-room flags k has = by (cases_lt k (length flags))
  where
    by : (k < length flags) ⊎ (length flags ≤ k) → k < length flags
    by (inl less) = less
    by (inr past) = absurd (true≢false (sym has ∙ get_or_past flags k false past))

module _ (flags : List Bool) (tree : List ℕ) (is : IsTree flags tree) where
  -- no node has less than the root
  above-root : (fuel i : ℕ) → i ≤ fuel → 1 ≤ i → i < length tree → get_or tree 1 0 ≤ get_or tree i 0
  above-root zero i few low high = absurd (omega arith)
  above-root (suc fuel) i few low high =
      by (cases_eq i 1) (cases_eq i (2 * (i / 2))) (λ other. above-root fuel (i / 2) (omega arith) (omega (arith, other)) (omega arith))
    where
      node : (i ≡ 1 → ⊥) → IsNode tree (i / 2)
      node other = is.node (i / 2) (omega (arith, other)) (omega (arith, is.even))

      by : (i ≡ 1) ⊎ (i ≡ 1 → ⊥) → (i ≡ 2 * (i / 2)) ⊎ (i ≡ 2 * (i / 2) → ⊥) → ((i ≡ 1 → ⊥) → get_or tree 1 0 ≤ get_or tree (i / 2) 0)
          → get_or tree 1 0 ≤ get_or tree i 0
      by (inl e) _ up = omega (arith, ap (λ j. get_or tree j 0) e)
      by (inr other) (inl e) up = omega (arith, up other, (node other).below_left, ap (λ j. get_or tree j 0) e)
      by (inr other) (inr odd) up =
          let e : i ≡ 2 * (i / 2) + 1 = omega (arith, odd) in
          omega (arith, up other, (node other).below_right, ap (λ j. get_or tree j 0) e)

  -- the root is below each number of the set
  pub root-least : (k : ℕ) → has_gap flags k ≡ true → get_or tree 1 0 ≤ k
  root-least k has =
      let within = below-room flags k has in
      let leaf = is.leaf (k / 8) (omega (arith, within, is.blocks)) in
      let above = above-root (length tree) (leaves tree + k / 8) (omega (arith, within, is.blocks, is.even)) (omega (arith, within, is.blocks))
      (omega (arith, within, is.blocks, is.even)) in
      omega (arith, above, leaf.least k refl has)

  -- each node has a number of the set, or none
  node-there : (fuel i : ℕ) → 1 ≤ i → i < length tree → length tree ≤ i + fuel → get_or tree i 0 ≢ none → has_gap flags (get_or tree i 0) ≡ true
  node-there zero i low high few some = absurd (omega arith)
  node-there (suc fuel) i low high few some =
      by (cases_lt i (leaves tree))
      (λ less. node-there fuel (2 * i) (omega arith) (omega (arith, is.even, less)) (omega arith))
      (λ less. node-there fuel (2 * i + 1) (omega arith) (omega (arith, is.even, less)) (omega arith))
    where
      by : (i < leaves tree) ⊎ (leaves tree ≤ i)
          → (i < leaves tree → get_or tree (2 * i) 0 ≢ none → has_gap flags (get_or tree (2 * i) 0) ≡ true)
          → (i < leaves tree → get_or tree (2 * i + 1) 0 ≢ none → has_gap flags (get_or tree (2 * i + 1) 0) ≡ true)
          → has_gap flags (get_or tree i 0) ≡ true
      by (inl less) left right = child (cases_eq (get_or tree i 0) (get_or tree (2 * i) 0))
        where
          child : (get_or tree i 0 ≡ get_or tree (2 * i) 0) ⊎ (get_or tree i 0 ≡ get_or tree (2 * i) 0 → ⊥) → has_gap flags (get_or tree i 0) ≡ true
          child (inl e) = ap (has_gap flags) e ∙ left less (λ h. some (e ∙ h))
          child (inr other) =
              let e = (is.node i low less).either other in
              ap (has_gap flags) e ∙ right less (λ h. some (e ∙ h))
      by (inr more) left right =
          let same : leaves tree + (i - leaves tree) ≡ i = omega (arith, more) in
          let leaf = is.leaf (i - leaves tree) (omega (arith, more, high, is.even)) in
          let e = ap (λ j. get_or tree j 0) same in
          ap (has_gap flags) (sym e) ∙ leaf.there (λ h. some (sym e ∙ h))

  pub root-there : 2 ≤ length tree → get_or tree 1 0 ≢ none → has_gap flags (get_or tree 1 0) ≡ true
  root-there long some = node-there (length tree) 1 (omega arith) (omega (arith, long)) (omega arith) some

  -- a flag of another block leaves a block's first number
  IsFirst-other : (number : ℕ) (is_in : Bool) (block first : ℕ) → (block ≡ number / 8 → ⊥) → IsFirst flags block first → IsFirst (set flags number is_in) block first
  IsFirst-other number is_in block first apart of = record {
    inside = of.inside;
    there = λ some. get_or-set_other flags number first is_in false (λ e. apart (sym (of.inside some) ∙ ap (λ k. k / 8) e)) ∙ of.there some;
    least = λ k in_block has. of.least k in_block (sym (get_or-set_other flags number k is_in false (λ e. apart (sym in_block ∙ ap (λ j. j / 8) e))) ∙ has);
  }

  -- a number is marked, its leaf has its block's first number, and the nodes are right
  pub IsTree-marked : (number : ℕ) (is_in : Bool) (first : ℕ) → number < length flags → IsFirst (set flags number is_in) (number / 8) first
      → (new : List ℕ) → length new ≡ length tree → ((i : ℕ) → 1 ≤ i → i < leaves new → IsNode new i)
      → ((i : ℕ) → leaves tree ≤ i → get_or new i 0 ≡ get_or (set tree (leaves tree + number / 8) first) i 0)
      → IsTree (set flags number is_in) new
  IsTree-marked number is_in first within of new long nodes kept = record {
    even = omega (arith, long, is.even);
    blocks = omega (arith, long, is.blocks, length-set flags number is_in);
    small = omega (arith, is.small, length-set flags number is_in);
    node = nodes;
    leaf = λ block less.
        let halves : leaves new ≡ leaves tree = omega (arith, long) in
        rw halves (by block (omega (arith, halves, less)) (cases_eq block (number / 8)));
  }
    where
      by : (block : ℕ) → block < leaves tree → (block ≡ number / 8) ⊎ (block ≡ number / 8 → ⊥) → IsFirst (set flags number is_in) block (get_or new (leaves tree + block) 0)
      by block less (inl e) =
          let there : leaves tree + number / 8 < length tree = omega (arith, is.even, is.blocks, within) in
          rw (e, kept (leaves tree + number / 8) (omega arith), get_or-set_same tree (leaves tree + number / 8) first 0 there) of
      by block less (inr other) =
          rw (kept (leaves tree + block) (omega arith), get_or-set_other tree (leaves tree + number / 8) (leaves tree + block) first 0 (λ e. other (omega (arith, e))))
          (IsFirst-other number is_in block (get_or tree (leaves tree + block) 0) other (is.leaf block less))

  -- where the root has none, the set is empty
  pub no-gaps : get_or tree 1 0 ≡ none → (k : ℕ) → has_gap flags k ≡ false
  no-gaps e k = by (has_gap flags k) refl
    where
      by : (b : Bool) → has_gap flags k ≡ b → b ≡ false
      by false has = refl
      by true has = absurd (omega (arith, e, root-least k has, below-room flags k has, is.small))

  -- the same as `mark` leaves it
  pub IsTree-written : (number : ℕ) (is_in : Bool) (first : ℕ) → number < length flags
      → (flags' : List Bool) → flags' ≡ set flags number is_in → IsFirst flags' (number / 8) first
      → (len : ℕ) → len ≡ length tree → (tree' : List ℕ) → tree' ≡ set tree (len / 2 + number / 8) first
      → (new : List ℕ) → length new ≡ length tree' → ((i : ℕ) → 1 ≤ i → i < leaves new → IsNode new i)
      → ((i : ℕ) → leaves tree' ≤ i → get_or new i 0 ≡ get_or tree' i 0)
      → (rest : List ℕ) (n : ℕ) → n ≡ length tree → IsTree (set flags number is_in) (take n (new ++ rest))
  IsTree-written number is_in first within flags' marked of len l tree' put new long nodes kept rest n all =
      let same : length tree' ≡ length tree = ap length put ∙ length-set tree (len / 2 + number / 8) first in
      let whole : take n (new ++ rest) ≡ new = take_at new rest n (long ∙ same ∙ sym all) in
      let at : tree' ≡ set tree (leaves tree + number / 8) first = put ∙ ap (λ m. set tree (m / 2 + number / 8) first) l in
      let first_there : IsFirst (set flags number is_in) (number / 8) first = let P : List Bool → Type 0 = λ f. IsFirst f (number / 8) first in subst P marked of in
      rw whole (IsTree-marked number is_in first within first_there new (long ∙ same) nodes
      (λ i low. kept i (omega (arith, same, low)) ∙ ap (λ t. get_or t i 0) at))
