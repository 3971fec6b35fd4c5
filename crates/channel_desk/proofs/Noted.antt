-- Each action of a state is one that its pass noted.
use Rattle.std.specs.Prelude.{slice_index}
use Rattle.std.proofs.Common.{◌≡◌, ◌∙◌, ℕ, zero, suc, ◌+◌, ◌-◌, ◌<◌, ◌≤◌, Bool, true, false, List, [], ◌∷◌, ◌++◌, map, length, get_or, refl, sym, ap, subst, arith}
use mathlib.Core.Option.{some, some-ne-none}
use lib.ListN.{get_elem?}
use Rattle.love_base.proofs.Prefixes.{longer}
use Rattle.turn_desk.specs.declared.view.Action.{Action as Note}
use Rattle.turn_desk.specs.declared.view.Spot.{Spot}
use Rattle.turn_desk.specs.declared.view.View.{View}
use Rattle.turn_desk.specs.Notes.{step_of}
use Rattle.turn_desk.specs.View.{blank, changes, fronts_of, freed, meeting, published, spot}
use Rattle.channel_desk.specs.declared.shared.SharedEntry.{SharedEntry}
use Rattle.channel_desk.specs.Ahead.{IsNoted}
use Rattle.channel_desk.specs.Looking.{Looked}
use Rattle.channel_desk.specs.Turns.{Took, Turned, Waited}
use Rattle.channel_desk.proofs.Ahead.{took_grew}

-- the front of an object among all fronts
fronts_at : (l : List (Spot SharedEntry)) (b : ℕ) → slice_index (map (λ (x : Spot SharedEntry). x.front) l) b ≡ (get_or l b blank).front
fronts_at [] b = refl
fronts_at (x ∷ xs) zero = refl
fronts_at (x ∷ xs) (suc b) = fronts_at xs b

fronts_seen : (v : View SharedEntry) (b : ℕ) → (spot v b).front ≤ slice_index (fronts_of v) b
fronts_seen v b = let same = fronts_at v.spots b in omega arith

-- an entry behind others
note_behind : (l m : List Note) (k : ℕ) → get_elem? (l ++ m) (length l + k) ≡ get_elem? m k
note_behind [] m k = ap (get_elem? m) (let e : 0 + k ≡ k = omega arith in e)
note_behind (x ∷ xs) m k = ap (get_elem? (x ∷ xs ++ m)) (let e : length (x ∷ xs) + k ≡ suc (length xs + k) = omega arith in e) ∙ note_behind xs m k

note_longer : (l m : List Note) (i : ℕ) (a : Note) → get_elem? l i ≡ some a → get_elem? (l ++ m) i ≡ some a
note_longer [] m i a e = absurd (some-ne-none a (sym e))
note_longer (x ∷ xs) m zero a e = e
note_longer (x ∷ xs) m (suc i) a e = note_longer xs m i a e

changes_at : (seat o : ℕ) (fronts : List ℕ) (after n k : ℕ) → k < n → get_elem? (changes seat o fronts after n) k ≡ some (record { seat = seat; object = o; place = after + 1 + k; changed = true; fronts = fronts })
changes_at seat o fronts after zero k lt = absurd (omega arith)
changes_at seat o fronts after (suc n) zero lt = ap (λ (p : ℕ). some (record { seat = seat; object = o; place = p; changed = true; fronts = fronts })) (let e : after + 1 ≡ after + 1 + 0 = omega arith in e)
changes_at seat o fronts after (suc n) (suc k) lt = changes_at seat o fronts (after + 1) n k (omega arith) ∙ ap (λ (p : ℕ). some (record { seat = seat; object = o; place = p; changed = true; fronts = fronts })) (let e : after + 1 + 1 + k ≡ after + 1 + suc k = omega arith in e)

-- a note that was made after some waiting
pub noted_later : (u v w : View SharedEntry) (o place : ℕ) (changed : Bool) → Waited u v → IsNoted v w o place changed → IsNoted u w o place changed
noted_later u v w o place changed waited n = record {
  at = n.at;
  since = let l = longer u.actions v.actions waited.grew.actions in let s = n.since in omega arith;
  fronts = n.fronts;
  seen = λ b. let f = waited.grew.front b in let s = n.seen b in omega arith;
  note = n.note;
}

-- the meeting that was noted last
met_last : (v w : View SharedEntry) (o place : ℕ) → w.actions ≡ v.actions ++ meeting o place v ∷ [] → w.number ≡ v.number → IsNoted v w o place false
met_last v w o place acts number = record {
  at = length v.actions;
  since = omega arith;
  fronts = fronts_of v;
  seen = fronts_seen v;
  note = ap (λ (l : List Note). get_elem? l (length v.actions)) acts ∙ (ap (get_elem? (v.actions ++ meeting o place v ∷ [])) (let e : length v.actions ≡ length v.actions + 0 = omega arith in e) ∙ (note_behind v.actions (meeting o place v ∷ []) 0
      ∙ ap (λ (n : ℕ). some (record { seat = n; object = o; place = place; changed = false; fronts = fronts_of v })) (sym number)));
}

-- a look is noted
pub noted_look : (v w : View SharedEntry) (o place summary : ℕ) → Looked v w o place summary → IsNoted v w o place false
noted_look v w o place summary looked = met_last v w o place (ap (λ (z : View SharedEntry). z.actions) looked.looked) (ap (λ (z : View SharedEntry). z.number) looked.looked)

-- and so is a take
pub noted_took : (v w : View SharedEntry) (o : ℕ) (log : List SharedEntry) → Took v w o log → IsNoted v w o (length log) false
noted_took v w o log t = let b = t.began in noted_later v b w o (length log) false t.waited (met_last b w o (length log) (ap (λ (z : View SharedEntry). z.actions) t.takes.2) (ap (λ (z : View SharedEntry). z.number) t.takes.2))

-- each new place is noted where the object is given back
pub noted_given : (v w : View SharedEntry) (o : ℕ) (log : List SharedEntry) (n : ℕ) → w ≡ freed o (published o log v) → length (spot v o).known < n → n ≤ length log → IsNoted v w o n true
noted_given v w o log n gave low high =
    let known : ℕ = length (spot v o).known in let k : ℕ = n - (known + 1) in let fresh = changes v.number o (fronts_of v) known (length log - known) in
    let acts : w.actions ≡ v.actions ++ fresh = ap (λ (z : View SharedEntry). z.actions) gave in
    let number : w.number ≡ v.number = ap (λ (z : View SharedEntry). z.number) gave in
    let place : known + 1 + k ≡ n = omega arith in record {
      at = length v.actions + k;
      since = omega arith;
      fronts = fronts_of v;
      seen = fronts_seen v;
      note = ap (λ (l : List Note). get_elem? l (length v.actions + k)) acts ∙ (note_behind v.actions fresh k ∙ (changes_at v.number o (fronts_of v) known (length log - known) k (omega arith)
          ∙ (λ i. some (record { seat = sym number i; object = o; place = place i; changed = true; fronts = fronts_of v }))));
    }

-- what stays noted
noted_on : (v u w : View SharedEntry) (o place : ℕ) (changed : Bool) (more : List Note) → w.actions ≡ u.actions ++ more → w.number ≡ u.number → IsNoted v u o place changed → IsNoted v w o place changed
noted_on v u w o place changed more acts number n = record {
  at = n.at;
  since = n.since;
  fronts = n.fronts;
  seen = n.seen;
  note = ap (λ (l : List Note). get_elem? l n.at) acts ∙ (note_longer u.actions more n.at (record { seat = u.number; object = o; place = place; changed = changed; fronts = n.fronts }) n.note
      ∙ ap (λ (k : ℕ). some (record { seat = k; object = o; place = place; changed = changed; fronts = n.fronts })) (sym number));
}

-- an action in one turn is noted at its place
pub noted_turn : (v w : View SharedEntry) (o : ℕ) (log log' : List SharedEntry) (changed : Bool) → Turned v w o log log' → length log' ≡ length log + step_of changed → IsNoted v w o (length log') changed
noted_turn v w o log log' false t long =
    let u = t.taken in let same : length log ≡ length log' = omega arith in
    noted_on v u w o (length log') false (changes u.number o (fronts_of u) (length (spot u o).known) (length log' - length (spot u o).known)) (ap (λ (z : View SharedEntry). z.actions) t.gave) (ap (λ (z : View SharedEntry). z.number) t.gave)
    (subst (λ (n : ℕ). IsNoted v u o n false) same (noted_took v u o log t.took))
noted_turn v w o log log' true t long =
    let u = t.taken in let met = noted_took v u o log t.took in
    let known : length (spot u o).known ≡ length log = ap length t.took.kept.known in
    let given : IsNoted u w o (length log') true = noted_given u w o log' (length log') t.gave (omega arith) (omega arith) in record {
      at = given.at;
      since = let a = met_before v u o log t.took in let s = given.since in omega arith;
      fronts = given.fronts;
      seen = λ b. let f = front_before v u o log t.took b in let s = given.seen b in omega arith;
      note = given.note;
    }
  where
    met_before : (v u : View SharedEntry) (o : ℕ) (log : List SharedEntry) → Took v u o log → length v.actions ≤ length u.actions
    met_before v u o log t = longer v.actions u.actions (took_grew v u o log t).actions

    front_before : (v u : View SharedEntry) (o : ℕ) (log : List SharedEntry) → Took v u o log → (b : ℕ) → (spot v b).front ≤ (spot u b).front
    front_before v u o log t b = (took_grew v u o log t).front b
