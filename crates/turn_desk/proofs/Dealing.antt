-- The passes of a desk as they are made, one after another.
use Rattle.std.proofs.Common.{◌≡◌, ℕ, ◌+◌, ◌<◌, ◌==◌, Bool, cond, zero, suc, List, [], ◌∷◌, ◌++◌, length, map, replicate, sym, ap, ◌∙◌, arith, ne_eqb}
use Rattle.std.proofs.lemmas.List.{length-replicate, map-append}
use Rattle.std.specs.List.{range_with_len}
use Rattle.atomic_table.specs.Seated.{TableId}
use Rattle.turn_desk.specs.declared.view.View.{View}
use Rattle.turn_desk.specs.Opening.{opening_pass, opening_passes}
use Rattle.turn_desk.specs.Passes.{Standing}
use Rattle.turn_desk.specs.View.{blank, newcomer, opening}

-- one number more
range_more : (a n : ℕ) → range_with_len a (n + 1) ≡ range_with_len a n ++ (n + a) ∷ []
range_more a zero = let e : a ≡ 0 + a = omega arith in ap (λ (k : ℕ). k ∷ []) e
range_more a (suc n) = let e : suc n + 1 ≡ suc (n + 1) = omega arith in let f : n + (a + 1) ≡ suc n + a = omega arith in
    ap (range_with_len a) e ∙ ap (λ (l : List ℕ). a ∷ l) (range_more (a + 1) n ∙ ap (λ (k : ℕ). range_with_len (a + 1) n ++ k ∷ []) f)

module _ {E : Type 0} where
  -- a pass by its parts
  abbrev pub pass_of : TableId → View E → Standing E
  pass_of table v = record { desk = record { table = table; seats = v.seats }; view = v }

  -- what is known to a pass that was just made
  newcomer_view : (n seats : ℕ) (fixed : List ℕ) → 1 < n → newcomer (opening {E = E} 1 n seats 0 fixed) ≡ opening n (cond (n == 1) (seats + 1) 0) seats 0 fixed
  newcomer_view n seats fixed lt = let many : length (replicate (length fixed) (blank {E = E})) ≡ length fixed = length-replicate (length fixed) (blank {E = E}) in
      let none : 0 ≡ cond (n == 1) (seats + 1) 0 = sym (ap (λ (b : Bool). cond b (seats + 1) 0) (ne_eqb n 1 (λ e. omega arith))) in
      λ i. record { number = n; numbers = n ∷ []; seats = seats; next = none i; awaited = 0; fixed = fixed; handed = []; spots = replicate (many i) blank; refused = []; looks = []; actions = [] }

  -- one pass more
  pub deal_one : (table : TableId) (others seats : ℕ) (fixed : List ℕ) (id : TableId) (v : View E) (pass : Standing E) (passes passes' : List (Standing E)) → id ≡ table → v ≡ newcomer (opening 1 (others + 2) seats 0 fixed)
      → pass ≡ pass_of id v → passes ≡ map (opening_pass (record { table = table; seats = seats }) fixed) (range_with_len 2 others) → passes' ≡ passes ++ pass ∷ []
      → passes' ≡ map (opening_pass (record { table = table; seats = seats }) fixed) (range_with_len 2 (others + 1))
  deal_one table others seats fixed id v pass passes passes' same new is so_far more =
      let f : ℕ → Standing E = opening_pass (record { table = table; seats = seats }) fixed in let n : ℕ = others + 2 in
      let view = new ∙ newcomer_view n seats fixed (omega arith) in
      let this : pass ≡ f n = is ∙ (λ i. pass_of (same i) (view i)) in
      more ∙ ((λ i. so_far i ++ this i ∷ []) ∙ sym (ap (map f) (range_more 2 others) ∙ map-append f (range_with_len 2 others) (n ∷ [])))

  -- with the first, they are all
  pub deal_all : (table : TableId) (others seats : ℕ) (fixed : List ℕ) (id : TableId) (v : View E) (pass : Standing E) (passes passes' : List (Standing E)) → others + 1 ≡ seats → id ≡ table → v ≡ opening 1 (others + 2) seats 0 fixed
      → pass ≡ pass_of id v → passes ≡ map (opening_pass (record { table = table; seats = seats }) fixed) (range_with_len 2 others) → passes' ≡ pass ∷ passes
      → passes' ≡ opening_passes (record { table = table; seats = seats }) fixed
  deal_all table others seats fixed id v pass passes passes' all same first is so_far more =
      let f : ℕ → Standing E = opening_pass (record { table = table; seats = seats }) fixed in
      let next : others + 2 ≡ seats + 1 = omega arith in let count : suc others ≡ seats = omega arith in
      let view = first ∙ ap (λ (n : ℕ). opening {E = E} 1 n seats 0 fixed) next in
      let this : pass ≡ f 1 = is ∙ (λ i. pass_of (same i) (view i)) in
      more ∙ ((λ i. this i ∷ so_far i) ∙ ap (λ (n : ℕ). map f (range_with_len 1 n)) count)
