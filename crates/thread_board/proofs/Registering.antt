-- What stands on the board after one more entry.
use Rattle.std.proofs.Common.{◌≡◌, ℕ, suc, zero, ◌+◌, ◌-◌, ◌≤◌, Bool, true, false, List, [], ◌∷◌, ◌++◌, length, get_or, Option, Some, None, refl, ap, subst, arith, if◌then◌else◌}
use Rattle.std.proofs.lemmas.List.Elements.{All-head, All-tail}
use Rattle.std.specs.Prelude.{All, nat_eq, slice_get, slice_set}
use Rattle.std.specs.Cmp.Lexicographic.{pointwise}
use Rattle.std.specs.Global.{Vec}
use Rattle.std.specs.Map.{lookup}
use Rattle.std.specs.declared.hash.FoldHasher.{FoldHasher}
use Rattle.std.specs.declared.hash.BuildHasherDefault.{BuildHasherDefault}
use Rattle.indexmap.specs.IndexMap.{IndexMap, insert_entry}
use Rattle.std.specs.Option.{option_map_or}
use Rattle.std.proofs.lemmas.List.{length-set}
use Rattle.std.proofs.lemmas.List.Sums.{fold_push}
use Rattle.thread_board.specs.declared.entry.BoardEntry.{BoardEntry}
use Rattle.thread_board.specs.declared.place.Thread.{Thread}
use Rattle.thread_board.specs.declared.place.Started.{Started}
use Rattle.thread_board.specs.Register.{Register, blank, after_change, register, numbered, change_thread, channel_of, not_ended}
use Rattle.thread_board.specs.Sound.{kept_names}

pub register-push : (h : List BoardEntry) (e : BoardEntry) → register (h ++ e ∷ []) ≡ after_change (register h) e.by.state e.what
register-push h e = fold_push (λ (r : Register) (x : BoardEntry). after_change r x.by.state x.what) blank h e

-- a name is looked up as it is kept
pub channel_of-kept : (names : List (Vec ℕ × ℕ)) (name : List ℕ) → channel_of (kept_names names) name ≡ lookup (λ (k : Vec ℕ). pointwise nat_eq name k.items) names
channel_of-kept [] name = refl
channel_of-kept (known ∷ others) name = elim (pointwise nat_eq name known.0.items) as (λ b. (if b then Some known.1 else channel_of (kept_names others) name) ≡ (if b then Some known.1 else lookup (λ (k : Vec ℕ). pointwise nat_eq name k.items) others)) [
  | true ↦ refl
  | false ↦ channel_of-kept others name
]

-- a new name goes last
pub kept_names-insert : (names : IndexMap (Vec ℕ) ℕ (BuildHasherDefault FoldHasher)) (key : Vec ℕ) (channel : ℕ) (name : List ℕ) → key.items ≡ name → channel_of (kept_names names.entries) name ≡ None
    → kept_names (insert_entry (λ (a b : Vec ℕ). pointwise nat_eq a.items b.items) names.entries key channel) ≡ kept_names names.entries ++ (name, channel) ∷ []
kept_names-insert names key channel name same fresh = added names.entries fresh
  where
    tested : (k : Vec ℕ × ℕ) (ks : List (Vec ℕ × ℕ)) (found : Bool)
        → (channel_of (kept_names ks) name ≡ None → kept_names (insert_entry (λ (a b : Vec ℕ). pointwise nat_eq a.items b.items) ks key channel) ≡ kept_names ks ++ (name, channel) ∷ [])
        → (if found then Some k.1 else channel_of (kept_names ks) name) ≡ None
        → kept_names (if found then (k.0, channel) ∷ ks else k ∷ insert_entry (λ (a b : Vec ℕ). pointwise nat_eq a.items b.items) ks key channel) ≡ (k.0.items, k.1) ∷ (kept_names ks ++ (name, channel) ∷ [])
    tested k ks true rest fresh = absurd (cc)
    tested k ks false rest fresh = ap (λ names. (k.0.items, k.1) ∷ names) (rest fresh)

    added : (known : List (Vec ℕ × ℕ)) → channel_of (kept_names known) name ≡ None
        → kept_names (insert_entry (λ (a b : Vec ℕ). pointwise nat_eq a.items b.items) known key channel) ≡ kept_names known ++ (name, channel) ∷ []
    added [] fresh = ap (λ bytes. (bytes, channel) ∷ []) same
    added (k ∷ ks) fresh =
        let test = ap (λ bytes. pointwise nat_eq bytes k.0.items) same in
        rw test (tested k ks (pointwise nat_eq name k.0.items) (added ks) fresh)

pub length-change_thread : (threads : List Thread) (number : ℕ) (runs ended : Option ℕ) → length (change_thread threads number runs ended) ≡ length threads
length-change_thread threads number runs ended = by_thread (numbered threads number)
  where
    by_thread : (found : Option Thread) → length (option_map_or (λ thread. slice_set threads (number - 1) (record { source = thread.source; runs = runs; ended = ended })) found threads) ≡ length threads
    by_thread None = refl
    by_thread (Some thread) = length-set threads (number - 1) _

-- one state more that hasn't ended
pub not_ended-started : (states : List Started) (thread : ℕ) → not_ended (states ++ record { thread = thread; ended = false } ∷ []) ≡ not_ended states + 1
not_ended-started [] thread = refl
not_ended-started (s ∷ ss) thread =
    let rest = not_ended-started ss thread in
    elim s.ended as (λ b. (if b then not_ended (ss ++ record { thread = thread; ended = false } ∷ []) else not_ended (ss ++ record { thread = thread; ended = false } ∷ []) + 1) ≡ (if b then not_ended ss else not_ended ss + 1) + 1) [
      | true ↦ rest
      | false ↦ omega (arith, rest)
    ]

-- one state fewer, where one of them ends
pub not_ended-ended : (states : List Started) (k thread : ℕ) (state : Started) → slice_get states k ≡ Some state → state.ended ≡ false
    → not_ended (slice_set states k (record { thread = thread; ended = true })) + 1 ≡ not_ended states
not_ended-ended [] k thread state at runs = absurd (cc)
not_ended-ended (s ∷ ss) zero thread state at runs = let same : s.ended ≡ false = cc in rw same refl
not_ended-ended (s ∷ ss) (suc k) thread state at runs =
    let rest = not_ended-ended ss k thread state at runs in
    elim s.ended as (λ b. (if b then not_ended (slice_set ss k (record { thread = thread; ended = true })) else not_ended (slice_set ss k (record { thread = thread; ended = true })) + 1) + 1 ≡ (if b then not_ended ss else not_ended ss + 1)) [
      | true ↦ rest
      | false ↦ omega (arith, rest)
    ]

-- the item of a number is one of the list
pub numbered-within : {A : Type 0} → (xs : List A) (number : ℕ) (x : A) → numbered xs number ≡ Some x → (1 ≤ number) × (number ≤ length xs)
numbered-within {A} xs zero x found = absurd (cc)
numbered-within {A} xs (suc k) x found = (omega arith, within xs k found)
  where
    within : (xs : List A) (k : ℕ) → slice_get xs k ≡ Some x → suc k ≤ length xs
    within [] k found = absurd (cc)
    within (y ∷ ys) zero found = omega arith
    within (y ∷ ys) (suc k) found = let rest = within ys k found in omega (arith, rest)

pub not_ended-numbered : (states : List Started) (number : ℕ) (state : Started) → numbered states number ≡ Some state → state.ended ≡ false
    → not_ended (slice_set states (number - 1) (record { thread = state.thread; ended = true })) + 1 ≡ not_ended states
not_ended-numbered states zero state found runs = absurd (cc)
not_ended-numbered states (suc k) state found runs =
    let place : suc k - 1 ≡ k = omega arith in
    rw place (not_ended-ended states k state.thread state found runs)

-- what holds of all holds of the one of a number
pub All-numbered : (P : Started → Type 0) (states : List Started) (number : ℕ) (state : Started) → numbered states number ≡ Some state → All P states → P state
All-numbered P states zero state found all = absurd (cc)
All-numbered P states (suc k) state found all = at states k found all
  where
    at : (states : List Started) (k : ℕ) → slice_get states k ≡ Some state → All P states → P state
    at [] k found all = absurd (cc)
    at (s ∷ ss) zero found all = let same : s ≡ state = cc in subst P same (All-head P s ss all)
    at (s ∷ ss) (suc k) found all = at ss k found (All-tail P s ss all)

-- the item at a number is the one that an index reads
pub numbered-read : (states : List Started) (number : ℕ) (state read : Started) → numbered states number ≡ Some state → read ≡ get_or states (number - 1) read → read ≡ state
numbered-read states zero state read found is = absurd (cc)
numbered-read states (suc k) state read found is = let place : suc k - 1 ≡ k = omega arith in at states k found (rw place at is)
  where
    at : (states : List Started) (k : ℕ) → slice_get states k ≡ Some state → read ≡ get_or states k read → read ≡ state
    at [] k found is = absurd (cc)
    at (s ∷ ss) zero found is = cc
    at (s ∷ ss) (suc k) found is = at ss k found is
