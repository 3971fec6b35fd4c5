-- What statements are made of comes in the machine to what it means.
use Rattle.std.proofs.Common.{ℕ, suc, ◌+◌, ◌-◌, ◌≡◌, ◌≤◌, refl, sym, ap, ◌∙◌, subst, List, [], ◌∷◌, ◌++◌, length, Bool, true, false, arith, length-append, append_assoc}
use Rattle.std.specs.Prelude.{◌==◌, if◌then◌else◌, drop}
use Rattle.std.proofs.lemmas.Bool.{eqb-true}
use Rattle.lua_tree.specs.Tree.{Bytes, Exprs, Block}
use Rattle.lua_meaning.specs.Value.{Value, first}
use Rattle.lua_meaning.specs.Store.{add_cell}
use Rattle.lua_meaning.specs.World.{World, gives, ◌>>>◌}
use Rattle.lua_meaning.specs.Names.{is_captured}
use Rattle.lua_meaning.specs.Locals.{Env, Flow, normal, broken, returned, make_slot, declare, closed}
use Rattle.lua_meaning.specs.Calls.{Later, Here}
use Rattle.lua_meaning.specs.Control.{Game}
use Rattle.lua_meaning.specs.Expressions.{evals}
use Rattle.lua_meaning.specs.Statements.{block}
use Rattle.lua_code.specs.Instr as i
use Rattle.lua_code.specs.Instr.{Instr, file_of, code_of}
use Rattle.lua_code.specs.Scope.{Scope, named, slot_count, cell_count, kind_of, cell_code, declared, declare_code}
use Rattle.lua_code.specs.Code.{fitted, tailed, count, exprs_code, block_code, scope_at_end}
use Rattle.lua_code.specs.State.{put, put_values, Registers, with_slots, with_cells, Running, Frame, lua, on}
use Rattle.lua_code.specs.Natives.{Program}
use Rattle.lua_code.specs.Act.{at_pc}
use Rattle.lua_code.specs.Follows.{state_of, program_of}
use Rattle.lua_code.proofs.Registers.{Below, below_self, below_put, Stays, stays_self, stays_on, stays_less, stays_values, put_same, Holds, holds_stays}
use Rattle.lua_code.proofs.Goes.{Comes, comes_self, comes_on, Stands, front, back, going, Goes, both, then_on, one_step}
use Rattle.lua_code.proofs.Calling.{Invokes}
use Rattle.lua_code.proofs.Landing.{here_of, goes_at}
use Rattle.lua_code.proofs.Expressions.{listed}
use Rattle.lua_code.proofs.Nodes.{weaken, exprs_goes}
use Rattle.lua_code.proofs.Scopes.{Closed, Unmoved, unmoved_outer, after_less, closed_after, end_more, Rowed, rowed, rowed_all}
use Rattle.lua_code.proofs.Claims.{flow_at, Runs}

pub stays_cell : (r t : Registers) (low some k c : ℕ) → some ≤ k → Stays r t low some → Stays r (with_cells t (put t.cells k c)) low some
stays_cell r t low some k c l x = record { slots = x.slots; cells = below_put r.cells t.cells some k c l x.cells }

module _ (game : Game) (n : ℕ) (again : Later) (invokes : Invokes game n again) (run : Running) (frames : List Frame) where
  abbrev P : Program
  P = program_of game

  abbrev here : Here
  here = here_of run frames

  abbrev code : List Instr
  code = code_of run.code

  abbrev file : Bytes
  file = file_of run.code

  -- ---- the values of a list, as many as are wanted

  fits : (b tl : Bool) (wanted given at pc end some : ℕ) (vs : List Value) (t : Registers) (w : World) → (wanted == given) ≡ b → end ≡ pc + length (if b then [] else i.spread (at + given) (wanted - given) tl ∷ []) → Stands code pc (if b then [] else i.spread (at + given) (wanted - given) tl ∷ []) → listed t (run.base + at) given tl ≡ vs
      → (u : Registers) × Stays t u (run.base + at) some × Rowed u.slots (run.base + at) wanted vs × Comes (going P run pc frames w t) (going P run end frames w u)
  fits true true wanted given at pc end some vs t w eb ee st l_is = (t, stays_self t (run.base + at) some, subst (λ k. Rowed t.slots (run.base + at) k vs) (sym (eqb-true wanted given eb)) (subst (λ vs. Rowed t.slots (run.base + at) given vs) l_is (rowed_all t.slots given (run.base + at) t.tail)), goes_at P run frames pc end w t (omega (arith, ee)))
  fits true false wanted given at pc end some vs t w eb ee st l_is = (t, stays_self t (run.base + at) some, subst (λ k. Rowed t.slots (run.base + at) k vs) (sym (eqb-true wanted given eb)) (subst (λ vs. Rowed t.slots (run.base + at) given vs) l_is (rowed_all t.slots given (run.base + at) [])), goes_at P run frames pc end w t (omega (arith, ee)))
  fits false true wanted given at pc end some vs t w eb ee st l_is =
      let u = with_slots t (put_values t.slots (run.base + (at + given)) (wanted - given) t.tail) in
      let e : run.base + at + given ≡ run.base + (at + given) = omega arith in (
        u,
        stays_values t t (run.base + at) some (run.base + (at + given)) (wanted - given) t.tail (omega arith) (stays_self t (run.base + at) some),
        subst (λ k. Rowed (put_values t.slots k (wanted - given) t.tail) (run.base + at) wanted vs) e (subst (λ vs. Rowed (put_values t.slots (run.base + at + given) (wanted - given) t.tail) (run.base + at) wanted vs) l_is (rowed t.slots given (run.base + at) wanted t.tail)),
        comes_on _ (going P run (pc + 1) frames w u) _ (one_step P run pc frames t w (i.spread (at + given) (wanted - given) true) _ st.0 refl) (goes_at P run frames (pc + 1) end w u (sym ee)),
      )
  fits false false wanted given at pc end some vs t w eb ee st l_is =
      let u = with_slots t (put_values t.slots (run.base + (at + given)) (wanted - given) []) in
      let e : run.base + at + given ≡ run.base + (at + given) = omega arith in (
        u,
        stays_values t t (run.base + at) some (run.base + (at + given)) (wanted - given) [] (omega arith) (stays_self t (run.base + at) some),
        subst (λ k. Rowed (put_values t.slots k (wanted - given) []) (run.base + at) wanted vs) e (subst (λ vs. Rowed (put_values t.slots (run.base + at + given) (wanted - given) []) (run.base + at) wanted vs) l_is (rowed t.slots given (run.base + at) wanted [])),
        comes_on _ (going P run (pc + 1) frames w u) _ (one_step P run pc frames t w (i.spread (at + given) (wanted - given) false) _ st.0 refl) (goes_at P run frames (pc + 1) end w u (sym ee)),
      )

  pub values_goes : (es : Exprs) (wanted pc end at : ℕ) (scope : Scope) (env : Env) (r : Registers) (w : World) → w.ticks ≤ n → slot_count scope ≤ at → end ≡ pc + length (exprs_code es file scope at ++ fitted at wanted (count es) (tailed es)) → Stands code pc (exprs_code es file scope at ++ fitted at wanted (count es) (tailed es)) → Holds r run.base run.cell_base scope env
      → Goes P w.ticks frames run.base run.cell_base r (going P run pc frames w r) (evals again here es env w) (λ vs t. Rowed t.slots (run.base + at) wanted vs × Stays r t (run.base + at) (run.cell_base + cell_count scope)) (λ vs w t. going P run end frames w t)
  values_goes es wanted pc end at scope env r w lw lh ee st hs =
      let xs = exprs_code es file scope at in
      let ys = fitted at wanted (count es) (tailed es) in
      let some = run.cell_base + cell_count scope in
      let p1 = pc + length xs in
      then_on P n w.ticks lw frames run.base run.cell_base r _ (evals again here es env w) _ _ _ _ (exprs_goes game n again invokes run frames es pc p1 at scope env r w lw lh refl (front code pc xs ys st) hs)
      (λ vs w t lw t_stays l_is.
      let x = fits (wanted == count es) (tailed es) wanted (count es) at p1 end some vs t w refl (omega (arith, ee, length-append xs ys)) (back code pc p1 xs ys refl st) l_is.0 in
      (x.0, omega arith, stays_less t x.0 (run.base + at) run.base some run.cell_base (omega arith) (omega arith) x.1, (x.2, stays_on r t x.0 (run.base + at) (run.base + at) some some (omega arith) (omega arith) l_is.1 x.1), x.3))

  -- ---- declarations

  pub one_declared : (b : Bool) (x : Bytes) (v : Value) (pc end : ℕ) (scope : Scope) (env : Env) (r : Registers) (w : World) → end ≡ pc + length (cell_code (kind_of b) scope) → Stands code pc (cell_code (kind_of b) scope) → Holds r run.base run.cell_base scope env → r.slots (run.base + slot_count scope) ≡ v
      → Goes P w.ticks frames run.base run.cell_base r (going P run pc frames w r) (make_slot b v w) (λ s t. Holds t run.base run.cell_base (named x (kind_of b) ∷ scope) ((x, s) ∷ env) × (t.slots ≡ r.slots) × Below r.cells t.cells (run.cell_base + cell_count scope)) (λ s w t. going P run end frames w t)
  one_declared false x v pc end scope env r w ee st hs v_is = (r, omega arith, stays_self r run.base run.cell_base, ((refl, v_is, hs), refl, below_self r.cells (run.cell_base + cell_count scope)), goes_at P run frames pc end w r (omega (arith, ee)))
  one_declared true x v pc end scope env r w ee st hs v_is =
      let c = length w.store.cells in
      let t = with_cells r (put r.cells (run.cell_base + cell_count scope) c) in
      let w' : World = record w { store = add_cell w.store v } in (
        t,
        omega arith,
        stays_cell r r run.base run.cell_base (run.cell_base + cell_count scope) c (omega arith) (stays_self r run.base run.cell_base),
        ((refl, put_same r.cells (run.cell_base + cell_count scope) c, holds_stays r t run.base run.cell_base scope env (run.base + slot_count scope) (run.cell_base + cell_count scope) (omega arith) (omega arith) (stays_cell r r (run.base + slot_count scope) (run.cell_base + cell_count scope) (run.cell_base + cell_count scope) c (omega arith) (stays_self r (run.base + slot_count scope) (run.cell_base + cell_count scope))) hs), refl, below_put r.cells r.cells (run.cell_base + cell_count scope) (run.cell_base + cell_count scope) c (omega arith) (below_self r.cells (run.cell_base + cell_count scope))),
        comes_on _ (going P run (pc + 1) frames w' t) _ (one_step P run pc frames r w (i.new_cell (cell_count scope) (slot_count scope)) _ st.0 (ap (λ v. on (record { active = lua (at_pc run (pc + 1)); frames = frames; registers = t; state = state_of (record w { store = add_cell w.store v }) })) v_is)) (goes_at P run frames (pc + 1) end w' t (sym ee)),
      )

  pub slots_one : (b : Bool) (x : Bytes) (scope : Scope) → slot_count (named x (kind_of b) ∷ scope) ≡ suc (slot_count scope)
  slots_one true x scope = refl
  slots_one false x scope = refl

  pub cells_one : (b : Bool) (x : Bytes) (scope : Scope) → cell_count scope ≤ cell_count (named x (kind_of b) ∷ scope)
  cells_one true x scope = omega arith
  cells_one false x scope = omega arith

  pub declare_goes : (xs captured : List Bytes) (vs : List Value) (pc end : ℕ) (scope : Scope) (env : Env) (r : Registers) (w : World) → end ≡ pc + length (declare_code xs captured scope) → Stands code pc (declare_code xs captured scope) → Holds r run.base run.cell_base scope env → Rowed r.slots (run.base + slot_count scope) (length xs) vs
      → Goes P w.ticks frames run.base run.cell_base r (going P run pc frames w r) (declare xs captured vs env w) (λ env' t. Holds t run.base run.cell_base (declared xs captured scope) env' × (t.slots ≡ r.slots) × Below r.cells t.cells (run.cell_base + cell_count scope)) (λ env' w t. going P run end frames w t)
  declare_goes [] captured vs pc end scope env r w ee st hs rs = (r, omega arith, stays_self r run.base run.cell_base, (hs, refl, below_self r.cells (run.cell_base + cell_count scope)), goes_at P run frames pc end w r (omega (arith, ee)))
  declare_goes (x ∷ xs) captured vs pc end scope env r w ee st hs rs =
      let b = is_captured xs captured x in
      let ys = cell_code (kind_of b) scope in
      let zs = declare_code xs captured (named x (kind_of b) ∷ scope) in
      let p1 = pc + length ys in
      let place_is : suc (run.base + slot_count scope) ≡ run.base + slot_count (named x (kind_of b) ∷ scope) = omega (arith, slots_one b x scope) in
      both P w.ticks w.ticks (omega arith) frames run.base run.cell_base r _ (make_slot b (first vs) w) _ _ (λ s w. declare xs captured (drop 1 vs) ((x, s) ∷ env) w) _ _ (one_declared b x (first vs) pc p1 scope env r w refl (front code pc ys zs st) hs rs.0)
      (λ s w t lw t_stays h.
      weaken game n again invokes run frames w.ticks t _ (declare xs captured (drop 1 vs) ((x, s) ∷ env) w) _ _ _ (λ env' u g. (g.0, g.1 ∙ h.1, λ k l. g.2 k (omega (arith, l, cells_one b x scope)) ∙ h.2 k l))
      (declare_goes xs captured (drop 1 vs) p1 end (named x (kind_of b) ∷ scope) ((x, s) ∷ env) t w (omega (arith, ee, length-append ys zs)) (back code pc p1 ys zs refl st) h.0 (subst (λ k. Rowed t.slots k (length xs) (drop 1 vs)) place_is (subst (λ f. Rowed f (suc (run.base + slot_count scope)) (length xs) (drop 1 vs)) (sym h.1) rs.1))))

  -- ---- blocks in a scope of their own

  closed_at : (end exit : ℕ) (before : Env) (flow : Flow) (w : World) (t : Registers) → Comes (flow_at P run end exit frames flow w t) (flow_at P run end exit frames (closed before flow) w t)
  closed_at end exit before (normal env) w t = comes_self _
  closed_at end exit before (broken env) w t = comes_self _
  closed_at end exit before (returned vs) w t = comes_self _

  pub scoped_goes : (b : Block) → Runs game n again run frames b → (pc end exit : ℕ) (outer scope : Scope) (before env : Env) (more : Scope) (r : Registers) (w : World) → w.ticks ≤ n → scope ≡ more ++ outer → end ≡ pc + length (block_code b [] exit file scope) → Stands code pc (block_code b [] exit file scope) → Holds r run.base run.cell_base scope env → Holds r run.base run.cell_base outer before
      → Goes P w.ticks frames run.base run.cell_base r (going P run pc frames w r) (block again here [] b env w >>> λ flow w. gives (closed before flow) w) (λ flow t. Closed run outer flow t × Unmoved r t run.base outer) (flow_at P run end (end + exit) frames)
  scoped_goes b runs pc end exit outer scope before env more r w lw se ee st hs ho =
      both P n w.ticks lw frames run.base run.cell_base r _ (block again here [] b env w) _ _ (λ flow w. gives (closed before flow) w) _ _ (runs [] pc end exit scope env r w lw ee st hs)
      (λ flow w t lw t_stays a.
      let em = end_more b [] scope in
      let e = em.1 ∙ ap (λ s. em.0 ++ s) se ∙ sym (append_assoc em.0 more outer) in
      let same_outer : Unmoved r t run.base outer = unmoved_outer r t run.base more outer (subst (λ s. Unmoved r t run.base s) se a.1) in
      (t, omega arith, stays_self t run.base run.cell_base, (closed_after run (em.0 ++ more) outer (scope_at_end b [] scope) r t before flow e ho (after_less run more outer scope (scope_at_end b [] scope) flow t se a.0), same_outer), closed_at end (end + exit) before flow w t))
