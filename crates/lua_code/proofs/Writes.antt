-- A local gets a value in the machine as it does in the meaning.
use Rattle.std.proofs.Common.{ℕ, ◌+◌, ◌≡◌, ◌<◌, refl, sym, ap, ◌∙◌, subst, [], ◌∷◌, Option, Some, None, Bool, true, false, arith}
use Rattle.std.specs.Prelude.{if◌then◌else◌, bytes_eq}
use Rattle.lua_tree.specs.Tree.{Bytes}
use Rattle.lua_meaning.specs.Value.{Value}
use Rattle.lua_meaning.specs.Locals.{Env, Slot, held, cell, holding}
use Rattle.lua_code.specs.Scope.{Kind, in_slot, in_cell, outside, named, hidden, Scope, slot_count, cell_count, Seat, at_slot, at_cell, seat_behind, seat_of}
use Rattle.lua_code.specs.State.{Registers, put_slot}
use Rattle.lua_code.proofs.Registers.{below_self, below_put, put_same, put_other, differs_above, stays_self, stays_put, At, Holds, holds_stays, SeatBelow, seat_below}
use Rattle.lua_code.proofs.Scopes.{Unmoved, unmoved_below}

-- ---- seats that are the same

abbrev slot_or : ℕ → Option Seat → ℕ
slot_or d None = d
slot_or d (Some (at_slot n)) = n
slot_or d (Some (at_cell n)) = d

abbrev IsSlot : Option Seat → Type 0
IsSlot None = ⊥
IsSlot (Some (at_slot n)) = Unit {0}
IsSlot (Some (at_cell n)) = ⊥

same_slot : (n m : ℕ) → Some (at_slot n) ≡ Some (at_slot m) → n ≡ m
same_slot n m e = ap (slot_or 0) e

no_slot : (o : Option Seat) (n : ℕ) → o ≡ Some (at_slot n) → IsSlot o
no_slot o n e = subst IsSlot (sym e) tt

pub below_slot : (scope : Scope) (x : Bytes) (n : ℕ) → seat_of scope x ≡ Some (at_slot n) → n < slot_count scope
below_slot scope x n e = subst (λ o. SeatBelow o (slot_count scope) (cell_count scope)) e (seat_below scope x)

abbrev pub Written : Registers → (base cell_base n : ℕ) → Value → Scope → Env → Type 0
Written r base cell_base n v scope env = Holds (put_slot r (base + n) v) base cell_base scope env × Unmoved r (put_slot r (base + n) v) base scope

at_written : (r : Registers) (base cell_base n : ℕ) (v : Value) (kind : Kind) (scope : Scope) (s : Slot) → n < slot_count scope → At r base cell_base kind scope s → At (put_slot r (base + n) v) base cell_base kind scope s
at_written r base cell_base n v in_slot scope (held u) l h = put_other r.slots (base + n) v (base + slot_count scope) (differs_above (base + slot_count scope) (base + n) (omega (arith, l))) ∙ h
at_written r base cell_base n v in_slot scope (cell c) l h = h
at_written r base cell_base n v in_cell scope (held u) l h = h
at_written r base cell_base n v in_cell scope (cell c) l h = h
at_written r base cell_base n v outside scope (held u) l h = h
at_written r base cell_base n v outside scope (cell c) l h = h

-- the local that is found
written_here : (kind : Kind) (y x : Bytes) (s : Slot) (scope : Scope) (env : Env) (n : ℕ) (v : Value) (r : Registers) (base cell_base : ℕ) → Some (seat_behind kind scope) ≡ Some (at_slot n) → At r base cell_base kind scope s → Holds r base cell_base scope env → Written r base cell_base n v (named x kind ∷ scope) ((x, held v) ∷ env)
written_here in_slot y x s scope env n v r base cell_base e a h =
    let m : slot_count scope ≡ n = same_slot (slot_count scope) n e in
    subst (λ k. Written r base cell_base k v (named x in_slot ∷ scope) ((x, held v) ∷ env)) m (
      (refl, put_same r.slots (base + slot_count scope) v, holds_stays r (put_slot r (base + slot_count scope) v) base cell_base scope env (base + slot_count scope) (cell_base + cell_count scope) (omega arith) (omega arith) (stays_put r r (base + slot_count scope) (cell_base + cell_count scope) (base + slot_count scope) v (omega arith) (stays_self r (base + slot_count scope) (cell_base + cell_count scope))) h),
      unmoved_below r (put_slot r (base + slot_count scope) v) base (base + slot_count scope) scope (omega arith) (below_put r.slots r.slots (base + slot_count scope) (base + slot_count scope) v (omega arith) (below_self r.slots (base + slot_count scope))),
    )
written_here in_cell y x s scope env n v r base cell_base e a h = absurd (no_slot (Some (at_cell (cell_count scope))) n e)
written_here outside y x s scope env n v r base cell_base e a h = absurd (no_slot (Some (at_cell (cell_count scope))) n e)

written_if : (b : Bool) (kind : Kind) (y x : Bytes) (s : Slot) (scope : Scope) (env rest : Env) (o : Option Seat) (n : ℕ) (v : Value) (r : Registers) (base cell_base : ℕ) → (if b then Some (seat_behind kind scope) else o) ≡ Some (at_slot n) → At r base cell_base kind scope s → Holds r base cell_base scope env → (o ≡ Some (at_slot n) → (n < slot_count scope) × Written r base cell_base n v scope rest)
    → Written r base cell_base n v (named y kind ∷ scope) (if b then (y, held v) ∷ env else (y, s) ∷ rest)
written_if true kind y x s scope env rest o n v r base cell_base e a h f = written_here kind y y s scope env n v r base cell_base e a h
written_if false kind y x s scope env rest o n v r base cell_base e a h f = let g = f e in ((refl, at_written r base cell_base n v kind scope s g.0 a, g.1.0), g.1.1)

pub writes : (scope : Scope) (env : Env) (x : Bytes) (n : ℕ) (v : Value) (r : Registers) (base cell_base : ℕ) → Holds r base cell_base scope env → seat_of scope x ≡ Some (at_slot n) → Written r base cell_base n v scope (holding x v env)
writes [] [] x n v r base cell_base h e = absurd (no_slot None n e)
writes [] (entry ∷ env) x n v r base cell_base h e = absurd h
writes (hidden ∷ scope) env x n v r base cell_base h e =
    let g = writes scope env x n v r base cell_base h e in
    let l = below_slot scope x n e in
    (g.0, (put_other r.slots (base + n) v (base + slot_count scope) (differs_above (base + slot_count scope) (base + n) (omega (arith, l))), g.1))
writes (named y kind ∷ scope) [] x n v r base cell_base h e = absurd h
writes (named y kind ∷ scope) (entry ∷ env) x n v r base cell_base h e =
    subst (λ z. Written r base cell_base n v (named y kind ∷ scope) (if bytes_eq z x then (z, held v) ∷ env else (z, entry.1) ∷ holding x v env)) h.0
    (written_if (bytes_eq y x) kind y x entry.1 scope env (holding x v env) (seat_of scope x) n v r base cell_base e h.1 h.2
    (λ e'. (below_slot scope x n e', writes scope env x n v r base cell_base h.2 e')))
