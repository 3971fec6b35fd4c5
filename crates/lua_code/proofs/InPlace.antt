-- One local that stands in a slot gets its value in place.
use Rattle.std.proofs.Common.{ℕ, ◌+◌, ◌≡◌, ◌≤◌, refl, sym, ◌∙◌, subst, List, [], ◌∷◌, length, Option, Some, None, Bool, true, false, arith}
use Rattle.std.specs.Prelude.{◌==◌}
use Rattle.std.proofs.lemmas.Bool.{eqb-true}
use Rattle.lua_tree.specs.Tree.{Bytes, Expr}
use Rattle.lua_meaning.specs.Value.{Value, first}
use Rattle.lua_meaning.specs.World.{World, ◌>>>◌}
use Rattle.lua_meaning.specs.Locals.{Env, Slot, held, cell, holding, find, set_found}
use Rattle.lua_meaning.specs.Calls.{Later, Here}
use Rattle.lua_meaning.specs.Control.{Game}
use Rattle.lua_meaning.specs.Expressions.{eval}
use Rattle.lua_meaning.specs.Statements.{name_target, assign_all}
use Rattle.lua_code.specs.Instr.{Instr, file_of, code_of}
use Rattle.lua_code.specs.Scope.{Scope, slot_count, cell_count, at_slot, seat_of}
use Rattle.lua_code.specs.Code.{expr_code}
use Rattle.lua_code.specs.State.{Registers, put_slot, Running, Frame}
use Rattle.lua_code.specs.Natives.{Program}
use Rattle.lua_code.specs.Follows.{program_of}
use Rattle.lua_code.proofs.Registers.{Stays, stays_self, put_same, put_other, Holds, holds_stays, Reads, reads}
use Rattle.lua_code.proofs.Goes.{comes_self, Stands, going, Goes, both}
use Rattle.lua_code.proofs.Calling.{Invokes}
use Rattle.lua_code.proofs.Landing.{here_of, Got}
use Rattle.lua_code.proofs.Nodes.{expr_goes}
use Rattle.lua_code.proofs.Scopes.{Unmoved, unmoved_below, unmoved_on}
use Rattle.lua_code.proofs.Writes.{Written, writes}

-- what stands behind a value that landed is what a write of it leaves
same_or : (b : Bool) (r t : Registers) (base k i : ℕ) (v : Value) → (i == base + k) ≡ b → t.slots (base + k) ≡ v → ((i == base + k) ≡ false → t.slots i ≡ r.slots i) → t.slots i ≡ (put_slot r (base + k) v).slots i
same_or true r t base k i v e x f =
    let at : i ≡ base + k = eqb-true i (base + k) e in
    subst (λ j. t.slots j ≡ (put_slot r (base + k) v).slots j) (sym at) (x ∙ sym (put_same r.slots (base + k) v))
same_or false r t base k i v e x f = f e ∙ sym (put_other r.slots (base + k) v i e)

written_stays : (r t : Registers) (base some high k : ℕ) (v : Value) → Got r t base some high k v → Stays (put_slot r (base + k) v) t (base + high) some
written_stays r t base some high k v g = record {
  slots = λ i l. same_or (i == base + k) r t base k i v refl g.value (g.others i l);
  cells = g.cells;
}

module _ (game : Game) (n : ℕ) (again : Later) (invokes : Invokes game n again) (run : Running) (frames : List Frame) where
  abbrev P : Program
  P = program_of game

  abbrev here : Here
  here = here_of run frames

  abbrev code : List Instr
  code = code_of run.code

  abbrev file : Bytes
  file = file_of run.code

  abbrev Left : Registers → Scope → Env → Registers → Type 0
  Left r scope env u = Holds u run.base run.cell_base scope env × Unmoved r u run.base scope

  -- the value is there already
  set_goes : (s : Option Slot) (line : ℕ) (x : Bytes) (k : ℕ) (vs : List Value) (end : ℕ) (scope : Scope) (env : Env) (r t : Registers) (w : World) → find x env ≡ s → seat_of scope x ≡ Some (at_slot k) → Reads r run.base run.cell_base (Some (at_slot k)) s → Holds r run.base run.cell_base scope env → Got r t run.base (run.cell_base + cell_count scope) (slot_count scope) k (first vs)
      → Goes P w.ticks frames run.base run.cell_base t (going P run end frames w t) (assign_all again here (name_target line x s ∷ []) vs env w) (Left r scope) (λ env' w u. going P run end frames w u)
  set_goes None line x k vs end scope env r t w fe se rs hs g = absurd rs
  set_goes (Some (cell c)) line x k vs end scope env r t w fe se rs hs g = absurd rs
  set_goes (Some (held u)) line x k vs end scope env r t w fe se rs hs g =
      let v = first vs in
      let some = run.cell_base + cell_count scope in
      let put_there = put_slot r (run.base + k) v in
      let y : Written r run.base run.cell_base k v scope (holding x v env) = writes scope env x k v r run.base run.cell_base hs se in
      let st : Stays put_there t (run.base + slot_count scope) some = written_stays r t run.base some (slot_count scope) k v g in
      subst (λ s. Goes P w.ticks frames run.base run.cell_base t (going P run end frames w t) (set_found x v env s w) (Left r scope) (λ env' w u. going P run end frames w u)) (sym fe) (
        t,
        omega arith,
        stays_self t run.base run.cell_base,
        (holds_stays put_there t run.base run.cell_base scope (holding x v env) (run.base + slot_count scope) some (omega arith) (omega arith) st y.0, unmoved_on r put_there t run.base scope y.1 (unmoved_below put_there t run.base (run.base + slot_count scope) scope (omega arith) st.slots)),
        comes_self _,
      )

  -- the expression's value goes right into the local's slot
  pub in_place_goes : (line : ℕ) (x : Bytes) (k : ℕ) (e : Expr) (pc end : ℕ) (scope : Scope) (env : Env) (r : Registers) (w : World) → w.ticks ≤ n → seat_of scope x ≡ Some (at_slot k) → end ≡ pc + length (expr_code e file scope (slot_count scope) k) → Stands code pc (expr_code e file scope (slot_count scope) k) → Holds r run.base run.cell_base scope env
      → Goes P w.ticks frames run.base run.cell_base r (going P run pc frames w r) (eval again here e env w >>> λ vs w. assign_all again here (name_target line x (find x env) ∷ []) vs env w) (Left r scope) (λ env' w u. going P run end frames w u)
  in_place_goes line x k e pc end scope env r w lw se ee st hs =
      both P n w.ticks lw frames run.base run.cell_base r _ (eval again here e env w) _ _ (λ vs w. assign_all again here (name_target line x (find x env) ∷ []) vs env w) _ _ (expr_goes game n again invokes run frames e pc end (slot_count scope) k scope env r w lw (omega arith) ee st hs)
      (λ vs w t l1 t_stays g. set_goes (find x env) line x k vs end scope env r t w refl se (subst (λ o. Reads r run.base run.cell_base o (find x env)) se (reads r run.base run.cell_base scope env x hs)) hs g.0)
