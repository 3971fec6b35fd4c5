-- Numeric loops in the machine come to what they mean.
use Rattle.std.proofs.Common.{ℕ, suc, ◌+◌, ◌-◌, ◌≡◌, ◌≤◌, refl, sym, ap, ◌∙◌, List, [], ◌∷◌, length, Bool, true, false, arith, length-append, Result, Ok, Err, ℤ}
use Rattle.std.specs.Prelude.{if◌then◌else◌}
use Rattle.lua_value.specs.Arithmetic as arithmetic
use Rattle.lua_value.specs.declared.arithmetic.NumFault.{NumFault}
use Rattle.lua_tree.specs.Tree.{Bytes, Block}
use Rattle.lua_meaning.specs.Value.{num}
use Rattle.lua_meaning.specs.World.{World, ◌>>>◌, give}
use Rattle.lua_meaning.specs.Locals.{Env, Flow, normal, broken, returned}
use Rattle.lua_meaning.specs.Calls.{Later, Here, Task, count_turn}
use Rattle.lua_meaning.specs.Control.{Game}
use Rattle.lua_meaning.specs.Running.{turn, looped, is_counting, counted, count_on}
use Rattle.lua_code.specs.Instr as i
use Rattle.lua_code.specs.Instr.{Site, Instr, file_of, code_of}
use Rattle.lua_code.specs.Scope.{Scope, slot_count, cell_count}
use Rattle.lua_code.specs.Code.{numbers_in}
use Rattle.lua_code.specs.State.{put, Registers, with_slots, put_slot, Running, Frame}
use Rattle.lua_code.specs.Frames.{ticking}
use Rattle.lua_code.specs.Natives.{Program}
use Rattle.lua_code.specs.Act.{at_pc, turns, counts, counts_on}
use Rattle.lua_code.specs.Follows.{state_of, program_of}
use Rattle.lua_code.proofs.Registers.{Below, below_self, below_put, put_same, put_other, differs, Stays, stays_self, Holds, holds_stays}
use Rattle.lua_code.proofs.Goes.{comes_self, Stands, front, back, stepping, Goes, first_comes, first_stays, one_step}
use Rattle.lua_code.proofs.Landing.{here_of, goes_at}
use Rattle.lua_code.proofs.Nodes.{weaken}
use Rattle.lua_code.proofs.Scopes.{unmoved_below, unmoved_on}
use Rattle.lua_code.proofs.Claims.{flow_at, turn_code, count_loop, Claim, Runs}
use Rattle.lua_code.proofs.Loops.{invokes, at_code, Leaves, turn_goes}

module _ (game : Game) (n : ℕ) (again : Later) (claim : (t : Task) → Claim game n again t) (run : Running) (frames : List Frame) where
  abbrev P : Program
  P = program_of game

  abbrev here : Here
  here = here_of run frames

  abbrev code : List Instr
  code = code_of run.code

  abbrev file : Bytes
  file = file_of run.code

  abbrev L : Scope → Registers → Flow → Registers → Type 0
  L = Leaves game n again claim run frames

  -- the loop's numbers, and the turn's own value
  abbrev counting : Registers → (at : ℕ) → (v m k : ℤ) → Registers
  counting r at v m k = with_slots r (put (put (put r.slots (run.base + at) (num v)) (run.base + at + 1) (num m)) (run.base + at + 2) (num k))

  counting_below : (r : Registers) (at : ℕ) (v m k : ℤ) → Below r.slots (counting r at v m k).slots (run.base + at)
  counting_below r at v m k = below_put r.slots _ (run.base + at) (run.base + at + 2) (num k) (omega arith) (below_put r.slots _ (run.base + at) (run.base + at + 1) (num m) (omega arith) (below_put r.slots r.slots (run.base + at) (run.base + at) (num v) (omega arith) (below_self r.slots (run.base + at))))

  counting_stays : (r : Registers) (at some : ℕ) (v m k : ℤ) → Stays r (counting r at v m k) (run.base + at) some
  counting_stays r at some v m k = record { slots = counting_below r at v m k; cells = below_self r.cells some }

  counted_goes : (res : Result ℤ NumFault) (x : Bytes) (b : Block) (env : Env) (scope : Scope) (p pc end exit : ℕ) (m k : ℤ) (t : Registers) (w : World) → suc w.ticks ≤ n → p ≡ pc + length (turn_code (x ∷ []) b 1 file (numbers_in scope)) → end ≡ p + 1 → end ≡ pc + length (count_loop x b file scope) → Stands code pc (count_loop x b file scope) → Holds t run.base run.cell_base scope env
      → Goes P w.ticks frames run.base run.cell_base t (stepping P w (counts (at_pc run p) frames t (state_of w) (slot_count scope) (length (turn_code (x ∷ []) b 1 file (numbers_in scope))) m k res)) (counted again here env x b m k res w) (L scope t) (flow_at P run end exit frames)
  counted_goes (Ok v) x b env scope p pc end exit m k t w lw pe ee el st hs =
      let c = length (turn_code (x ∷ []) b 1 file (numbers_in scope)) in
      let back_is : p - c ≡ pc = omega (arith, pe) in
      first_comes P w.ticks frames run.base run.cell_base t _ (stepping P w (turns (at_pc run p) frames t (state_of w) (slot_count scope) pc end v m k)) (again (count_turn here env x b v m k) w) _ _
      (λ j. (j, ap (λ q. stepping P w (turns (at_pc run p) frames t (state_of w) (slot_count scope) q (p + 1) v m k) j) back_is ∙ ap (λ q. stepping P w (turns (at_pc run p) frames t (state_of w) (slot_count scope) pc q v m k) j) (sym ee)))
      (claim (count_turn here env x b v m k) run frames scope p pc end exit t w refl lw el st hs)
  counted_goes (Err e) x b env scope p pc end exit m k t w lw pe ee el st hs = (t, omega arith, stays_self t run.base run.cell_base, (hs, unmoved_below t t run.base (run.base + slot_count scope) scope (omega arith) (below_self t.slots (run.base + slot_count scope))), goes_at P run frames (p + 1) end w t (sym ee))

  looped_count : (flow : Flow) (x : Bytes) (b : Block) (scope : Scope) (pc end exit : ℕ) (v m k : ℤ) (r t : Registers) (w : World) → suc w.ticks ≤ n → end ≡ pc + length (count_loop x b file scope) → Stands code pc (count_loop x b file scope) → r.slots (run.base + slot_count scope) ≡ num v → r.slots (run.base + suc (slot_count scope)) ≡ num m → r.slots (run.base + suc (suc (slot_count scope))) ≡ num k → L (numbers_in scope) r flow t
      → Goes P w.ticks frames run.base run.cell_base t (flow_at P run (pc + length (turn_code (x ∷ []) b 1 file (numbers_in scope))) (pc + length (turn_code (x ∷ []) b 1 file (numbers_in scope)) + 1) frames flow w t) (looped flow (λ env. counted again here env x b m k (arithmetic.add v k)) w) (L scope r) (flow_at P run end exit frames)
  looped_count (normal env) x b scope pc end exit v m k r t w lw ee st rv rm rk y =
      let at = slot_count scope in
      let ts = turn_code (x ∷ []) b 1 file (numbers_in scope) in
      let ins = i.for_next at (length ts) in
      let p = pc + length ts in
      let st1 = back code pc p ts _ refl st in
      let end_is : end ≡ p + 1 = omega (arith, ee, length-append ts (ins ∷ [])) in
      let one : run.base + suc at ≡ run.base + (at + 1) = omega arith in
      let two : run.base + suc (suc at) ≡ run.base + (at + 2) = omega arith in
      let tv : t.slots (run.base + at) ≡ num v = y.1.1.1.0 ∙ rv in
      let tm : t.slots (run.base + (at + 1)) ≡ num m = ap t.slots (sym one) ∙ y.1.1.0 ∙ rm in
      let tk : t.slots (run.base + (at + 2)) ≡ num k = ap t.slots (sym two) ∙ y.1.0 ∙ rk in
      first_comes P w.ticks frames run.base run.cell_base t _ (stepping P w (counts (at_pc run p) frames t (state_of w) at (length ts) m k (arithmetic.add v k))) (counted again here env x b m k (arithmetic.add v k) w) _ _
      (one_step P run p frames t w ins _ st1.0
      (ap (λ a. counts_on (at_pc run p) frames t (state_of w) at (length ts) a (t.slots (run.base + (at + 1))) (t.slots (run.base + (at + 2)))) tv
      ∙ ap (λ a. counts_on (at_pc run p) frames t (state_of w) at (length ts) (num v) a (t.slots (run.base + (at + 2)))) tm
      ∙ ap (λ a. counts_on (at_pc run p) frames t (state_of w) at (length ts) (num v) (num m) a) tk))
      (weaken game n again (invokes game n again claim) run frames w.ticks t _ (counted again here env x b m k (arithmetic.add v k) w) _ _ _ (λ flow u z. (z.0, unmoved_on r t u run.base scope y.1.1.1.1 z.1))
      (counted_goes (arithmetic.add v k) x b env scope p pc end exit m k t w lw refl end_is ee st y.0))
  looped_count (broken env) x b scope pc end exit v m k r t w lw ee st rv rm rk y =
      let ts = turn_code (x ∷ []) b 1 file (numbers_in scope) in
      (t, omega arith, stays_self t run.base run.cell_base, (y.0, y.1.1.1.1), goes_at P run frames (pc + length ts + 1) end w t (omega (arith, ee, length-append ts (i.for_next (slot_count scope) (length ts) ∷ []))))
  looped_count (returned vs) x b scope pc end exit v m k r t w lw ee st rv rm rk y = (t, omega arith, stays_self t run.base run.cell_base, (tt, y.1.1.1.1), comes_self _)

  -- a turn begins, or the loop ends
  count_if : (c : Bool) (x : Bytes) (b : Block) → Runs game n again run frames b → (env : Env) (scope : Scope) (any pc end exit : ℕ) (v m k : ℤ) (r : Registers) (w : World) → w.ticks ≤ n → end ≡ pc + length (count_loop x b file scope) → Stands code pc (count_loop x b file scope) → Holds r run.base run.cell_base scope env
      → Goes P w.ticks frames run.base run.cell_base r (stepping P w (if c then ticking w.ticks (state_of w) (λ st. at_code game n again claim run frames pc (put_slot (counting r (slot_count scope) v m k) (run.base + slot_count scope + 3) (num v)) st) else at_code game n again claim run frames end (counting r (slot_count scope) v m k) (state_of w))) ((if c then count_on again here env x b v m k else give (normal env)) w) (L scope r) (flow_at P run end exit frames)
  count_if true x b runs env scope any pc end exit v m k r w lw ee st hs =
      let at = slot_count scope in
      let some = run.cell_base + cell_count scope in
      let ts = turn_code (x ∷ []) b 1 file (numbers_in scope) in
      let q = counting r at v m k in
      let t = put_slot q (run.base + at + 3) (num v) in
      let low : Below r.slots t.slots (run.base + at) = below_put r.slots q.slots (run.base + at) (run.base + at + 3) (num v) (omega arith) (counting_below r at v m k) in
      let st_t : Stays r t (run.base + at) some = record { slots = low; cells = below_self r.cells some } in
      let st_b : Stays r t run.base run.cell_base = record { slots = λ j l. low j (omega (arith, l)); cells = below_self r.cells run.cell_base } in
      let hs_t = holds_stays r t run.base run.cell_base scope env (run.base + at) some (omega arith) (omega arith) st_t hs in
      let e1 : run.base + at + 1 ≡ run.base + suc at = omega arith in
      let e2 : run.base + at + 2 ≡ run.base + suc (suc at) = omega arith in
      let e3 : run.base + at + 3 ≡ run.base + suc (suc (suc at)) = omega arith in
      let s1 = put r.slots (run.base + at) (num v) in
      let s2 = put s1 (run.base + at + 1) (num m) in
      let v_is : t.slots (run.base + at) ≡ num v = put_other q.slots (run.base + at + 3) (num v) (run.base + at) (differs (run.base + at) (run.base + at + 3) (omega arith)) ∙ put_other s2 (run.base + at + 2) (num k) (run.base + at) (differs (run.base + at) (run.base + at + 2) (omega arith)) ∙ put_other s1 (run.base + at + 1) (num m) (run.base + at) (differs (run.base + at) (run.base + at + 1) (omega arith)) ∙ put_same r.slots (run.base + at) (num v) in
      let m_is : t.slots (run.base + at + 1) ≡ num m = put_other q.slots (run.base + at + 3) (num v) (run.base + at + 1) (differs (run.base + at + 1) (run.base + at + 3) (omega arith)) ∙ put_other s2 (run.base + at + 2) (num k) (run.base + at + 1) (differs (run.base + at + 1) (run.base + at + 2) (omega arith)) ∙ put_same s1 (run.base + at + 1) (num m) in
      let k_is : t.slots (run.base + at + 2) ≡ num k = put_other q.slots (run.base + at + 3) (num v) (run.base + at + 2) (differs (run.base + at + 2) (run.base + at + 3) (omega arith)) ∙ put_same s2 (run.base + at + 2) (num k) in
      first_stays P w.ticks frames run.base run.cell_base r t _ (turn again here (x ∷ []) (num v ∷ []) b env w >>> λ flow w. looped flow (λ env. counted again here env x b m k (arithmetic.add v k)) w) _ _ st_b
      (turn_goes game n again claim run frames (x ∷ []) (num v ∷ []) b runs pc (pc + length ts) 1 (numbers_in scope) env t w (λ flow. looped flow (λ env. counted again here env x b m k (arithmetic.add v k))) _ _ lw refl (front code pc ts _ st) hs_t (ap t.slots (sym e3) ∙ put_same q.slots (run.base + at + 3) (num v), tt)
      (λ flow w u lw y.
      weaken game n again (invokes game n again claim) run frames w.ticks u _ (looped flow (λ env. counted again here env x b m k (arithmetic.add v k)) w) _ _ _ (λ flow z g. (g.0, unmoved_on r t z run.base scope (unmoved_below r t run.base (run.base + at) scope (omega arith) low) g.1))
      (looped_count flow x b scope pc end exit v m k t u w lw ee st v_is (ap t.slots (sym e1) ∙ m_is) (ap t.slots (sym e2) ∙ k_is) y)))
  count_if false x b runs env scope any pc end exit v m k r w lw ee st hs =
      let at = slot_count scope in
      let some = run.cell_base + cell_count scope in
      let q = counting r at v m k in
      (q, omega arith, record { slots = λ j l. counting_below r at v m k j (omega (arith, l)); cells = below_self r.cells run.cell_base }, (holds_stays r q run.base run.cell_base scope env (run.base + at) some (omega arith) (omega arith) (counting_stays r at some v m k) hs, unmoved_below r q run.base (run.base + at) scope (omega arith) (counting_below r at v m k)), comes_self _)

  pub count_goes : (x : Bytes) (b : Block) → Runs game n again run frames b → (env : Env) (scope : Scope) (any pc end exit : ℕ) (v m k : ℤ) (r : Registers) (w : World) → w.ticks ≤ n → end ≡ pc + length (count_loop x b file scope) → Stands code pc (count_loop x b file scope) → Holds r run.base run.cell_base scope env
      → Goes P w.ticks frames run.base run.cell_base r (stepping P w (turns (at_pc run any) frames r (state_of w) (slot_count scope) pc end v m k)) ((if is_counting v m k then count_on again here env x b v m k else give (normal env)) w) (L scope r) (flow_at P run end exit frames)
  count_goes x b runs env scope any pc end exit v m k r w lw ee st hs = count_if (is_counting v m k) x b runs env scope any pc end exit v m k r w lw ee st hs
