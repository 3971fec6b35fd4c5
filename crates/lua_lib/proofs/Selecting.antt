-- Which arguments `select` gives.
use Rattle.std.proofs.Common.{◌≡◌, ℕ, zero, suc, ◌-◌, ◌<◌, inl, inr, ℤ, pos, negsuc, Bool, cond, List, length, drop, map, min, arith, ap, sym, ◌∙◌}
use Rattle.std.proofs.lemmas.Bool.{cases_lt, lt-ltb}
use Rattle.std.proofs.lemmas.List.{drop-map, drop_all, length-map}
use Rattle.lua_meaning.specs.Value.{Value}
use Rattle.lua_meaning.specs.Store.{Store}
use Rattle.lua_meaning.specs.Arguments.{Answer, answers, answer}
use Rattle.lua_meaning.specs.Basic as meaning
use Rattle.lua_lib.specs.Outcome.{Gives}

drop-within : {T : Type 0} (k : ℕ) (xs : List T) → drop (min (suc k - 1) (length xs)) xs ≡ drop k xs
drop-within k xs = elim (cases_lt k (length xs)) [
  | inl within ↦ let same : min (suc k - 1) (length xs) ≡ k = omega arith in ap (λ (m : ℕ). drop m xs) same
  | inr past ↦
      let all : min (suc k - 1) (length xs) ≡ length xs = omega arith in
      ap (λ (m : ℕ). drop m xs) all ∙ (drop_all (length xs) xs (omega arith) ∙ sym (drop_all k xs past))
]

-- from the n-th on
pub select-from : {T : Type 0} (n : ℤ) (place : ℕ) (xs ys : List T) → n ≡ pos place → 0 < place → ys ≡ drop (min (place - 1) (length xs)) xs →
    (value : T → Value) → Gives (meaning.selected n (map value xs)) (map value ys)
select-from n zero xs ys e some h value = absurd (omega arith)
select-from n (suc k) xs ys e some h value = λ s.
    rw e (ap (λ (vs : List Value). answers vs s) (drop-map value k xs ∙ ap (map value) (sym (h ∙ drop-within k xs))))

abbrev behind_count : {T : Type 0} (value : T → Value) (xs : List T) (k : ℕ) → Bool → Store → Answer (List Value)
behind_count value xs k b s =
    cond b (answer (drop (length (map value xs) - suc k) (map value xs))) meaning.out_of_range s

pub select-behind : {T : Type 0} (n : ℤ) (k : ℕ) (xs ys : List T) → n ≡ negsuc k → k < length xs → ys ≡ drop (length xs - suc k) xs →
    (value : T → Value) → Gives (meaning.selected n (map value xs)) (map value ys)
select-behind n k xs ys e some h value = λ s.
    let same = length-map xs value in
    rw e (ap (λ (b : Bool). behind_count value xs k b s) (lt-ltb k (length (map value xs)) (omega arith))
    ∙ ap (λ (vs : List Value). answers vs s) (ap (λ (m : ℕ). drop (m - suc k) (map value xs)) same ∙ (drop-map value (length xs - suc k) xs
    ∙ ap (map value) (sym h))))
