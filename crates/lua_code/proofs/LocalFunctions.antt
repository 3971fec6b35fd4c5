-- Local functions in the machine come to what they mean.
use Rattle.std.proofs.Common.{ℕ, suc, ◌+◌, ◌≡◌, refl, sym, ap, ◌∙◌, subst, List, ◌∷◌, length, Some, true, arith}
use Rattle.std.specs.Prelude.{if◌then◌else◌, bytes_eq}
use Rattle.std.proofs.lemmas.Slice.Eq.{bytes_eq-Decides}
use Rattle.lua_tree.specs.Tree.{Bytes}
use Rattle.lua_meaning.specs.Value.{Value}
use Rattle.lua_meaning.specs.Store.{set_cell}
use Rattle.lua_meaning.specs.World.{World, gives}
use Rattle.lua_meaning.specs.Locals.{Env, Slot, held, cell, find, holding, set_local, set_found}
use Rattle.lua_meaning.specs.Calls.{Later, Here}
use Rattle.lua_meaning.specs.Control.{Game}
use Rattle.lua_code.specs.Instr as i
use Rattle.lua_code.specs.Instr.{Instr, file_of, code_of, slot, constant}
use Rattle.lua_code.specs.Scope.{Kind, in_slot, in_cell, outside, Scope, named, slot_count, cell_count, seat_behind, seat_of}
use Rattle.lua_code.specs.Code.{local_code}
use Rattle.lua_code.specs.State.{Registers, Running, Frame, lua, on}
use Rattle.lua_code.specs.Natives.{Program}
use Rattle.lua_code.specs.Act.{at_pc}
use Rattle.lua_code.specs.Follows.{state_of, program_of}
use Rattle.lua_code.proofs.Registers.{differs, Stays, stays_self, At, Holds, holds_stays}
use Rattle.lua_code.proofs.Goes.{comes_on, Stands, going, Goes, one_step}
use Rattle.lua_code.proofs.Calling.{Invokes}
use Rattle.lua_code.proofs.Landing.{here_of, Got, goes_at}

bytes_same : (x : Bytes) → bytes_eq x x ≡ true
bytes_same x = (bytes_eq-Decides x x).1 refl

set_held : (x : Bytes) (u v : Value) (env : Env) (w : World) → set_local x v ((x, held u) ∷ env) w ≡ gives ((x, held v) ∷ env) w
set_held x u v env w =
    ap (λ b. set_found x v ((x, held u) ∷ env) (if b then Some (held u) else find x env) w) (bytes_same x)
    ∙ ap (λ b. gives (if b then (x, held v) ∷ env else (x, held u) ∷ holding x v env) w) (bytes_same x)

set_in_cell : (x : Bytes) (c : ℕ) (v : Value) (env : Env) (w : World) → set_local x v ((x, cell c) ∷ env) w ≡ gives ((x, cell c) ∷ env) (record w { store = set_cell w.store c v })
set_in_cell x c v env w = ap (λ b. set_found x v ((x, cell c) ∷ env) (if b then Some (cell c) else find x env) w) (bytes_same x)

pub seat_is : (x : Bytes) (k : Kind) (scope : Scope) → seat_of (named x k ∷ scope) x ≡ Some (seat_behind k scope)
seat_is x k scope = ap (λ b. if b then Some (seat_behind k scope) else seat_of scope x) (bytes_same x)

module _ (game : Game) (n : ℕ) (again : Later) (invokes : Invokes game n again) (run : Running) (frames : List Frame) where
  abbrev P : Program
  P = program_of game

  abbrev here : Here
  here = here_of run frames

  abbrev code : List Instr
  code = code_of run.code

  abbrev file : Bytes
  file = file_of run.code

  -- the function that stands in the local's slot becomes the local's value
  pub placed : (k : Kind) (s : Slot) (x : Bytes) (v : Value) (scope : Scope) (env : Env) (pc end : ℕ) (t u : Registers) (w : World) → end ≡ pc + length (local_code (Some (seat_behind k scope)) (slot_count scope)) → Stands code pc (local_code (Some (seat_behind k scope)) (slot_count scope)) → At t run.base run.cell_base k scope s → Holds t run.base run.cell_base scope env → Got t u run.base (run.cell_base + cell_count (named x k ∷ scope)) (suc (slot_count scope)) (slot_count scope) v → (k ≡ outside → ⊥)
      → Goes P w.ticks frames run.base run.cell_base u (going P run pc frames w u) (set_local x v ((x, s) ∷ env) w) (λ env' z. Holds z run.base run.cell_base (named x k ∷ scope) env' × (z.slots ≡ u.slots)) (λ env' w z. going P run end frames w z)
  placed in_slot (held u0) x v scope env pc end t u w ee st a hs g away =
      let st_u : Stays t u (run.base + slot_count scope) (run.cell_base + cell_count scope) = record { slots = λ k l. g.others k (omega (arith, l)) (differs k (run.base + slot_count scope) l); cells = g.cells } in
      subst (λ e. Goes P w.ticks frames run.base run.cell_base u (going P run pc frames w u) e (λ env' z. Holds z run.base run.cell_base (named x in_slot ∷ scope) env' × (z.slots ≡ u.slots)) (λ env' w z. going P run end frames w z)) (sym (set_held x u0 v env w))
      (u, omega arith, stays_self u run.base run.cell_base, ((refl, g.value, holds_stays t u run.base run.cell_base scope env (run.base + slot_count scope) (run.cell_base + cell_count scope) (omega arith) (omega arith) st_u hs), refl), goes_at P run frames pc end w u (omega (arith, ee)))
  placed in_slot (cell c) x v scope env pc end t u w ee st a hs g away = absurd a
  placed in_cell (held u0) x v scope env pc end t u w ee st a hs g away = absurd a
  placed in_cell (cell c) x v scope env pc end t u w ee st a hs g away =
      let st_u : Stays t u (run.base + slot_count scope) (run.cell_base + cell_count scope) = record { slots = λ k l. g.others k (omega (arith, l)) (differs k (run.base + slot_count scope) l); cells = λ k l. g.cells k (omega (arith, l)) } in
      let c_is : u.cells (run.cell_base + cell_count scope) ≡ c = g.cells (run.cell_base + cell_count scope) (omega arith) ∙ a in
      let w' : World = record w { store = set_cell w.store c v } in
      subst (λ e. Goes P w.ticks frames run.base run.cell_base u (going P run pc frames w u) e (λ env' z. Holds z run.base run.cell_base (named x in_cell ∷ scope) env' × (z.slots ≡ u.slots)) (λ env' w z. going P run end frames w z)) (sym (set_in_cell x c v env w)) (
        u,
        omega arith,
        stays_self u run.base run.cell_base,
        ((refl, c_is, holds_stays t u run.base run.cell_base scope env (run.base + slot_count scope) (run.cell_base + cell_count scope) (omega arith) (omega arith) st_u hs), refl),
        comes_on _ (going P run (pc + 1) frames w' u) _ (one_step P run pc frames u w (i.set_cell (cell_count scope) (slot (slot_count scope))) _ st.0
            (ap (λ c. on (record { active = lua (at_pc run (pc + 1)); frames = frames; registers = u; state = state_of (record w { store = set_cell w.store c (u.slots (run.base + slot_count scope)) }) })) c_is
            ∙ ap (λ v. on (record { active = lua (at_pc run (pc + 1)); frames = frames; registers = u; state = state_of (record w { store = set_cell w.store c v }) })) g.value)) (goes_at P run frames (pc + 1) end w' u (sym ee)),
      )
  placed outside s x v scope env pc end t u w ee st a hs g away = absurd (away refl)
