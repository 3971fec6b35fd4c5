-- Slots and cells that get lists of values.
use Rattle.std.proofs.Common.{◌≡◌, ℕ, zero, suc, ◌+◌, ◌-◌, ◌<◌, ◌≤◌, List, [], ◌∷◌, ◌++◌, length, take, drop, set, Bool, true, false, refl, sym, ap, ◌∙◌, subst, get_or, arith}
use Rattle.std.specs.Prelude.{◌==◌, if◌then◌else◌, map, min, slice_range}
use Rattle.std.proofs.lemmas.Bool.{eqb-true}
use Rattle.std.proofs.lemmas.List.{append_assoc, append-nil, take_more, drop-append-le, drop-drop, drop-take, length-drop, length-take-le}
use Rattle.lua_tree.specs.Tree.{Bytes}
use Rattle.lua_meaning.specs.Value as meant
use Rattle.lua_meaning.specs.Value.{first}
use Rattle.lua_heap.specs.declared.value.Value.{Value}
use Rattle.lua_heap.specs.Value.{value_view}
use Rattle.lua_heap.specs.Heap.{HeapView, IsMade}
use Rattle.lua_code.specs.State.{put, put_values, put_all, row}
use Rattle.lua_machine.specs.View.{EngineView, value_at, cell_at, slots_view}
use Rattle.lua_machine.specs.Made.{AreMade, IsEngine}
use Rattle.lua_machine.specs.Changes.{with_cell}
use Rattle.lua_machine.specs.declared.arguments.Behind.{Behind}
use Rattle.lua_machine.specs.Arguments.{first_of, filled, all_put, behind_of, given, extra_given}
use Rattle.lua_machine.proofs.Doing.{slots_set}
use Rattle.lua_machine.proofs.Taking.{length_set}
use Rattle.lua_machine.proofs.NewCells.{longer_with, cells_put}

-- ---- slots that are filled

pub filled_long : (values : List Value) (at count : ℕ) (vs : List Value) → length (filled values at count vs) ≡ length values
filled_long values at zero vs = refl
filled_long values at (suc count) vs = filled_long (set values at (first_of vs)) (suc at) count (drop 1 vs) ∙ length_set values at (first_of vs)

made_set : (h : HeapView) (vs : List Value) (n : ℕ) (v : Value) → AreMade h vs → IsMade h v → AreMade h (set vs n v)
made_set h [] n v all own = tt
made_set h (w ∷ vs) zero v all own = (own, all.1)
made_set h (w ∷ vs) (suc n) v all own = (all.0, made_set h vs n v all.1 own)

made_first : (h : HeapView) (vs : List Value) → AreMade h vs → IsMade h (first_of vs)
made_first h [] all = tt
made_first h (v ∷ vs) all = all.0

made_rest : (h : HeapView) (vs : List Value) → AreMade h vs → AreMade h (drop 1 vs)
made_rest h [] all = tt
made_rest h (v ∷ vs) all = all.1

pub made_filled : (h : HeapView) (values : List Value) (at count : ℕ) (vs : List Value) → AreMade h values → AreMade h vs → AreMade h (filled values at count vs)
made_filled h values at zero vs all more = all
made_filled h values at (suc count) vs all more =
    made_filled h (set values at (first_of vs)) (suc at) count (drop 1 vs) (made_set h values at (first_of vs) all (made_first h vs more)) (made_rest h vs more)

first_view : (texts : List Bytes) (vs : List Value) → value_view texts (first_of vs) ≡ first (map (value_view texts) vs)
first_view texts [] = refl
first_view texts (v ∷ vs) = refl

rest_view : (texts : List Bytes) (vs : List Value) → map (value_view texts) (drop 1 vs) ≡ drop 1 (map (value_view texts) vs)
rest_view texts [] = refl
rest_view texts (v ∷ vs) = refl

pub slots_filled : (texts : List Bytes) (values : List Value) (at count : ℕ) (vs : List Value) → at + count ≤ length values → slots_view texts (filled values at count vs) ≡ put_values (slots_view texts values) at count (map (value_view texts) vs)
slots_filled texts values at zero vs le = refl
slots_filled texts values at (suc count) vs le =
    let long = length_set values at (first_of vs) in
    slots_filled texts (set values at (first_of vs)) (suc at) count (drop 1 vs) (omega (arith, le, long))
    ∙ ap (λ (s : ℕ → meant.Value). put_values s (suc at) count (map (value_view texts) (drop 1 vs))) (sym (slots_set texts values at (first_of vs) (omega (arith, le))))
    ∙ ap (λ (w : meant.Value). put_values (put (slots_view texts values) at w) (suc at) count (map (value_view texts) (drop 1 vs))) (first_view texts vs)
    ∙ ap (λ (ws : List meant.Value). put_values (put (slots_view texts values) at (first (map (value_view texts) vs))) (suc at) count ws) (rest_view texts vs)

-- ---- one slot more

first_at : (vs : List Value) (n : ℕ) → first_of (drop n vs) ≡ value_at vs n
first_at [] zero = refl
first_at [] (suc n) = refl
first_at (v ∷ vs) zero = refl
first_at (v ∷ vs) (suc n) = first_at vs n

rest_at : (vs : List Value) (n : ℕ) → drop 1 (drop n vs) ≡ drop (suc n) vs
rest_at [] zero = refl
rest_at [] (suc n) = refl
rest_at (v ∷ vs) zero = refl
rest_at (v ∷ vs) (suc n) = rest_at vs n

filled_one : (now : List Value) (at k j : ℕ) (vs : List Value) → k ≡ suc j → filled now at k vs ≡ filled (set now at (first_of vs)) (suc at) j (drop 1 vs)
filled_one now at k j vs e = ap (λ n. filled now at n vs) e

pub filled_next : (now : List Value) (at n count : ℕ) (vs : List Value) (v : Value) → n < count → v ≡ value_at vs n → filled now (at + n) (count - n) (drop n vs) ≡ filled (set now (at + n) v) (at + (n + 1)) (count - (n + 1)) (drop (n + 1) vs)
filled_next now at n count vs v lt is =
    filled_one now (at + n) (count - n) (count - suc n) (drop n vs) (omega (arith, lt))
    ∙ ap (λ (w : Value). filled (set now (at + n) w) (suc (at + n)) (count - suc n) (drop 1 (drop n vs))) (first_at vs n ∙ sym is)
    ∙ ap (λ (k : ℕ). filled (set now (at + n) v) k (count - suc n) (drop 1 (drop n vs))) (let e : suc (at + n) ≡ at + suc n = omega arith in e)
    ∙ ap (λ (ws : List Value). filled (set now (at + n) v) (at + suc n) (count - suc n) ws) (rest_at vs n)
    ∙ ap (λ (k : ℕ). filled (set now (at + n) v) (at + k) (count - k) (drop k vs)) (let e : suc n ≡ n + 1 = omega arith in e)

pub filled_start : (now : List Value) (at count : ℕ) (vs : List Value) → filled now (at + 0) (count - 0) (drop 0 vs) ≡ filled now at count vs
filled_start now at count vs =
    ap (λ k. filled now k (count - 0) vs) (let e : at + 0 ≡ at = omega arith in e)
    ∙ ap (λ k. filled now at k vs) (let e : count - 0 ≡ count = omega arith in e)

pub filled_none : (now : List Value) (at k : ℕ) (vs : List Value) → k ≡ 0 → filled now at k vs ≡ now
filled_none now at k vs e = ap (λ n. filled now at n vs) e

-- an engine whose slots are filled
pub fills_is : (m : EngineView) → IsEngine m → (now : List Value) (at count : ℕ) (vs : List Value) → AreMade m.heap vs → now ≡ filled m.values at count vs → IsEngine (record m { values = now })
fills_is m is now at count vs more e =
    record {
      events = is.events;
      extra = is.extra;
      below = is.below;
      values = subst (AreMade m.heap) (sym e) (made_filled m.heap m.values at count vs is.values more);
      tail = is.tail;
      extras = is.extras;
      args = is.args;
      cells = is.cells;
      chunks = is.chunks;
      modules = is.modules;
    }

-- ---- arguments that stand where they are wanted

put_self : (s : ℕ → meant.Value) (at : ℕ) → put s at (s at) ≡ s
put_self s at = λ i k. by k (k == at) refl i
  where
    by : (k : ℕ) (b : Bool) → (k == at) ≡ b → (if b then s at else s k) ≡ s k
    by k true e = ap s (sym (eqb-true k at e))
    by k false e = refl

pub in_place : (s : ℕ → meant.Value) (at count params : ℕ) (vs : List meant.Value) → put_values s at params (row s at count ++ vs) ≡ put_values s (at + count) (params - count) vs
in_place s at zero params vs =
    ap (λ n. put_values s n params vs) (let e : at ≡ at + zero = omega arith in e)
    ∙ ap (λ n. put_values s (at + zero) n vs) (let e : params ≡ params - zero = omega arith in e)
in_place s at (suc count) zero vs = ap (λ n. put_values s (at + suc count) n vs) (let e : zero ≡ zero - suc count = omega arith in e)
in_place s at (suc count) (suc params) vs =
    ap (λ (t : ℕ → meant.Value). put_values t (suc at) params (row s (suc at) count ++ vs)) (put_self s at)
    ∙ in_place s (suc at) count params vs
    ∙ ap (λ n. put_values s n (params - count) vs) (let e : suc at + count ≡ at + suc count = omega arith in e)
    ∙ ap (λ n. put_values s (at + suc count) n vs) (let e : params - count ≡ suc params - suc count = omega arith in e)

-- ---- arguments behind the parameters

pub drop_past : {A : Type 0} (xs ys : List A) (n : ℕ) → length xs ≤ n → drop n (xs ++ ys) ≡ drop (n - length xs) ys
drop_past [] ys n le = ap (λ k. drop k ys) (let e : n ≡ n - zero = omega arith in e)
drop_past (x ∷ xs) ys zero le = absurd (let e : ⊥ = omega (arith, le) in e)
drop_past (x ∷ xs) ys (suc n) le = drop_past xs ys n (omega (arith, le)) ∙ ap (λ k. drop k ys) (let e : n - length xs ≡ suc n - suc (length xs) = omega arith in e)

pub kept_rest : (vs : List Value) (skipped : ℕ) → drop (min skipped (length vs)) vs ≡ drop skipped vs
kept_rest [] zero = refl
kept_rest [] (suc n) = ap (λ k. drop k []) (let e : min (suc n) zero ≡ zero = omega arith in e)
kept_rest (v ∷ vs) zero = ap (λ k. drop k (v ∷ vs)) (let e : min zero (suc (length vs)) ≡ zero = omega arith in e)
kept_rest (v ∷ vs) (suc n) = ap (λ k. drop k (v ∷ vs)) (let e : min (suc n) (suc (length vs)) ≡ suc (min n (length vs)) = omega arith in e) ∙ kept_rest vs n

pub kept_none : (extras : List Value) (skipped : ℕ) → extras ++ drop skipped [] ≡ extras
kept_none extras zero = append-nil extras
kept_none extras (suc n) = append-nil extras

-- where there are more arguments in slots than parameters
pub kept_both : (values more : List Value) (first count params : ℕ) → params < count → first + count ≤ length values → take (first + count - (first + params)) (drop (first + params) values) ++ drop 0 more ≡ drop params (take (first + count - first) (drop first values) ++ more)
kept_both values more first count params lt le =
    let few : List Value = drop first values in
    let rest = length-drop first values in
    let long : length (take (first + count - first) few) ≡ first + count - first = length-take-le (first + count - first) few (omega (arith, rest, le)) in
    let split : first + count - first ≡ params + (first + count - (first + params)) = omega (arith, lt) in
    ap (λ (vs : List Value). take (first + count - (first + params)) vs ++ more) (sym (drop-drop params first values))
    ∙ ap (λ (vs : List Value). vs ++ more) (sym (drop-take params (first + count - (first + params)) few))
    ∙ ap (λ k. drop params (take k few) ++ more) (sym split)
    ∙ sym (drop-append-le params (take (first + count - first) few) more (omega (arith, lt, long)))

-- where there are no more
pub kept_later : (values more : List Value) (first count params : ℕ) → count ≤ params → first + count ≤ length values → drop (params - count) more ≡ drop params (take (first + count - first) (drop first values) ++ more)
kept_later values more first count params ge le =
    let few : List Value = drop first values in
    let rest = length-drop first values in
    let long : length (take (first + count - first) few) ≡ first + count - first = length-take-le (first + count - first) few (omega (arith, rest, le)) in
    let same : count ≡ length (take (first + count - first) few) = omega (arith, long) in
    ap (λ k. drop (params - k) more) same
    ∙ sym (drop_past (take (first + count - first) few) more params (omega (arith, ge, long)))

pub kept_all : (m k x : EngineView) (varargs : Bool) (first count params : ℕ) (behind : Behind) → varargs ≡ true → params < count → first + count ≤ length m.values → k ≡ record m { extras = m.extras ++ slice_range m.values (first + params) (first + count) } → x ≡ record k { extras = k.extras ++ drop 0 (behind_of behind k) } → x ≡ record m { extras = m.extras ++ extra_given varargs params (given m first count behind) }
kept_all m k x varargs first count params behind all lt le slots rest =
    rest
    ∙ ap (λ (y : EngineView). record y { extras = y.extras ++ drop 0 (behind_of behind y) }) slots
    ∙ ap (λ (vs : List Value). record m { extras = vs }) (append_assoc m.extras (slice_range m.values (first + params) (first + count)) (behind_of behind m))
    ∙ ap (λ (vs : List Value). record m { extras = m.extras ++ vs }) (kept_both m.values (behind_of behind m) first count params lt le)
    ∙ ap (λ (b : Bool). record m { extras = m.extras ++ extra_given b params (given m first count behind) }) (sym all)

-- ---- cells that are put

pub all_put_long : (cells : List ℕ) (at : ℕ) (ids : List ℕ) → at ≤ length cells → (length cells ≤ length (all_put cells at ids)) × (at + length ids ≤ length (all_put cells at ids))
all_put_long cells at [] le = (omega arith, omega (arith, le))
all_put_long cells at (id ∷ ids) le =
    let here = longer_with cells at id le in
    let h0 = here.0 in
    let rest = all_put_long (with_cell cells at id) (suc at) ids here.1 in
    let r0 = rest.0 in
    let r1 = rest.1 in
    (omega (arith, h0, r0), omega (arith, r1))

pub all_put_view : (cells : List ℕ) (at : ℕ) (ids : List ℕ) → at ≤ length cells → cell_at (all_put cells at ids) ≡ put_all (cell_at cells) at ids
all_put_view cells at [] le = refl
all_put_view cells at (id ∷ ids) le =
    all_put_view (with_cell cells at id) (suc at) ids (longer_with cells at id le).1
    ∙ ap (λ (f : ℕ → ℕ). put_all f (suc at) ids) (sym (cells_put cells at id le))

-- one more
pub all_put_last : (cells : List ℕ) (at : ℕ) (ids : List ℕ) (id : ℕ) → with_cell (all_put cells at ids) (at + length ids) id ≡ all_put cells at (ids ++ id ∷ [])
all_put_last cells at [] id = ap (λ k. with_cell cells k id) (let e : at + zero ≡ at = omega arith in e)
all_put_last cells at (c ∷ ids) id =
    ap (λ k. with_cell (all_put (with_cell cells at c) (suc at) ids) k id) (let e : at + suc (length ids) ≡ suc at + length ids = omega arith in e)
    ∙ all_put_last (with_cell cells at c) (suc at) ids id

-- so many of a function's cells are put
pub copied_at : (m l : EngineView) (at n : ℕ) (held : List ℕ) → at ≤ length m.cells → n ≤ length held → l ≡ record m { cells = all_put m.cells at (take n held) } → at + n ≤ length l.cells
copied_at m l at n held le few so =
    let put = (all_put_long m.cells at (take n held) le).1 in
    let long = length-take-le n held few in
    let same : length l.cells ≡ length (all_put m.cells at (take n held)) = ap (λ (y : EngineView). length y.cells) so in
    omega (arith, put, long, same)

pub copied_next : (m l k : EngineView) (at n id d : ℕ) (held seen : List ℕ) → seen ≡ held → n < length held → l ≡ record m { cells = all_put m.cells at (take n held) } → id ≡ get_or seen n d → k ≡ record l { cells = with_cell l.cells (at + n) id } → k ≡ record m { cells = all_put m.cells at (take (n + 1) held) }
copied_next m l k at n id d held seen same lt so item put =
    let long = length-take-le n held (omega (arith, lt)) in
    let more : take (n + 1) held ≡ take n held ++ id ∷ [] =
    take_more held n d lt ∙ ap (λ (x : ℕ). take n held ++ x ∷ []) (sym (item ∙ ap (λ (xs : List ℕ). get_or xs n d) same)) in
    put
    ∙ ap (λ (y : EngineView). record y { cells = with_cell y.cells (at + n) id }) so
    ∙ ap (λ (cs : List ℕ). record m { cells = cs })
    (ap (λ (j : ℕ). with_cell (all_put m.cells at (take n held)) j id) (let e : at + n ≡ at + length (take n held) = omega (arith, long) in e)
    ∙ all_put_last m.cells at (take n held) id
    ∙ ap (λ (ids : List ℕ). all_put m.cells at ids) (sym more))
