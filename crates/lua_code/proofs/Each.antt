-- Generic loops in the machine come to what they mean.
use Rattle.std.proofs.Common.{ℕ, zero, suc, ◌+◌, ◌-◌, ◌≡◌, ◌≤◌, refl, sym, ap, ◌∙◌, subst, List, [], ◌∷◌, ◌++◌, length, Bool, true, false, arith, length-append, append_assoc}
use Rattle.std.specs.Prelude.{if◌then◌else◌, drop, max}
use Rattle.lua_tree.specs.Tree.{Bytes, Exprs, Block, gen_for}
use Rattle.lua_meaning.specs.Value.{Value, first, is_nil}
use Rattle.lua_meaning.specs.Arguments.{argument}
use Rattle.lua_meaning.specs.World.{World, ◌>>>◌, ◌>>=◌, give}
use Rattle.lua_meaning.specs.Locals.{Env, Flow, normal, broken, returned}
use Rattle.lua_meaning.specs.Calls.{Later, Here, Task, call_at, each_turn}
use Rattle.lua_meaning.specs.Control.{Game}
use Rattle.lua_meaning.specs.Expressions.{evals}
use Rattle.lua_meaning.specs.Running.{turn, looped, each_on}
use Rattle.lua_code.specs.Instr as i
use Rattle.lua_code.specs.Instr.{Site, Instr, file_of, code_of, slot}
use Rattle.lua_code.specs.Scope.{Scope, slot_count, cell_count}
use Rattle.lua_code.specs.Code.{site, numbers_in, fitted, tailed, count, exprs_code}
use Rattle.lua_code.specs.State.{put_values, row, Registers, with_slots, put_slot, Running, Frame}
use Rattle.lua_code.specs.Frames.{ticking}
use Rattle.lua_code.specs.Natives.{Program}
use Rattle.lua_code.specs.Act.{at_pc, each}
use Rattle.lua_code.specs.Follows.{state_of, program_of}
use Rattle.lua_code.proofs.Registers.{Below, below_self, below_put, put_same, put_other, differs, differs_above, Stays, stays_self, stays_on, stays_less, stays_values, stays_tail, Holds, holds_stays}
use Rattle.lua_code.proofs.Goes.{Comes, comes_self, comes_on, Stands, front, back, stepping, going, Goes, first_comes, first_stays, both, one_step}
use Rattle.lua_code.proofs.Landing.{here_of, goes_at}
use Rattle.lua_code.proofs.Nodes.{weaken, invokes_goes}
use Rattle.lua_code.proofs.Scopes.{unmoved_below, unmoved_self, unmoved_on, after_closed, Rowed, rowed_put}
use Rattle.lua_code.proofs.Statements.{values_goes}
use Rattle.lua_code.proofs.Assigning.{rowed_stays}
use Rattle.lua_code.proofs.Claims.{flow_at, each_control, each_turn_code, each_loop, Claim, Does, Runs}
use Rattle.lua_code.proofs.Loops.{invokes, at_code, Leaves, turn_goes}

rowed_less : (s : ℕ → Value) (at n m : ℕ) (vs : List Value) → n ≤ m → Rowed s at m vs → Rowed s at n vs
rowed_less s at zero m vs l h = tt
rowed_less s at (suc n) zero vs l h = absurd (let e : ⊥ = omega (arith, l) in e)
rowed_less s at (suc n) (suc m) vs l h = (h.0, rowed_less s (suc at) n m (drop 1 vs) (omega (arith, l)) h.1)

argument_first : (vs : List Value) → argument 0 vs ≡ first vs
argument_first [] = refl
argument_first (v ∷ vs) = refl

argument_second : (vs : List Value) → argument 1 vs ≡ first (drop 1 vs)
argument_second [] = refl
argument_second (v ∷ []) = refl
argument_second (v ∷ u ∷ vs) = refl

argument_third : (vs : List Value) → argument 2 vs ≡ first (drop 1 (drop 1 vs))
argument_third [] = refl
argument_third (v ∷ []) = refl
argument_third (v ∷ u ∷ []) = refl
argument_third (v ∷ u ∷ t ∷ vs) = refl

-- at least one value is asked for
one_or_more : (n : ℕ) → (m : ℕ) × (max 1 n ≡ suc m) × (n ≤ suc m)
one_or_more zero = (zero, refl, omega arith)
one_or_more (suc n) = (n, omega arith, omega arith)

module _ (game : Game) (n : ℕ) (again : Later) (claim : (t : Task) → Claim game n again t) (run : Running) (frames : List Frame) where
  abbrev P : Program
  P = program_of game

  abbrev here : Here
  here = here_of run frames

  abbrev code : List Instr
  code = code_of run.code

  abbrev file : Bytes
  file = file_of run.code

  abbrev L : Scope → Registers → Flow → Registers → Type 0
  L = Leaves game n again claim run frames

  abbrev Three : Registers → ℕ → Value → Value → Value → Type 0
  Three r at f s v = (r.slots (run.base + at) ≡ f) × (r.slots (run.base + at + 1) ≡ s) × (r.slots (run.base + at + 2) ≡ v)

  looped_each : (flow : Flow) (line : ℕ) (xs : List Bytes) (b : Block) (f s v : Value) (scope : Scope) (pc end exit : ℕ) (r t : Registers) (w : World) → suc w.ticks ≤ n → end ≡ pc + length (each_loop line xs b file scope) → Stands code pc (each_loop line xs b file scope) → Three r (slot_count scope) f s v → L (numbers_in scope) r flow t
      → Goes P w.ticks frames run.base run.cell_base t (flow_at P run (pc + length (each_turn_code line xs b file scope)) (pc + length (each_turn_code line xs b file scope) + (length (each_control line xs scope) + 1)) frames flow w t) (looped flow (λ env. again (each_turn here env line xs b f s v)) w) (L scope r) (flow_at P run end exit frames)
  looped_each (normal env) line xs b f s v scope pc end exit r t w lw ee st three y =
      let at = slot_count scope in
      let e1 : run.base + at + 1 ≡ run.base + suc at = omega arith in
      let e2 : run.base + at + 2 ≡ run.base + suc (suc at) = omega arith in
      weaken game n again (invokes game n again claim) run frames w.ticks t _ (again (each_turn here env line xs b f s v) w) _ _ _ (λ flow u z. (z.0, unmoved_on r t u run.base scope y.1.1.1.1 z.1))
      (claim (each_turn here env line xs b f s v) run frames scope pc end exit t w refl lw ee st y.0 (y.1.1.1.0 ∙ three.0, ap t.slots e1 ∙ y.1.1.0 ∙ ap r.slots (sym e1) ∙ three.1, ap t.slots e2 ∙ y.1.0 ∙ ap r.slots (sym e2) ∙ three.2))
  looped_each (broken env) line xs b f s v scope pc end exit r t w lw ee st three y =
      let ts = each_turn_code line xs b file scope in
      let cs = each_control line xs scope in
      let ins = i.each_next (slot_count scope) (length ts + length cs) in
      (t, omega arith, stays_self t run.base run.cell_base, (y.0, y.1.1.1.1), goes_at P run frames (pc + length ts + (length cs + 1)) end w t (omega (arith, ee, length-append ts (cs ++ ins ∷ []), length-append cs (ins ∷ []))))
  looped_each (returned vs) line xs b f s v scope pc end exit r t w lw ee st three y = (t, omega arith, stays_self t run.base run.cell_base, (tt, y.1.1.1.1), comes_self _)

  -- the next turn begins, or the loop ends
  each_if : (c : Bool) (line : ℕ) (xs : List Bytes) (b : Block) → Runs game n again run frames b → (f s old : Value) (vs : List Value) (env : Env) (scope : Scope) (pc back_to at_next end exit : ℕ) (r : Registers) (w : World) → w.ticks ≤ n → back_to ≡ pc → at_next + 1 ≡ end → end ≡ pc + length (each_loop line xs b file scope) → Stands code pc (each_loop line xs b file scope) → Holds r run.base run.cell_base scope env → Three r (slot_count scope) f s old → Rowed r.slots (run.base + (slot_count scope + 3)) (length xs) vs
      → Goes P w.ticks frames run.base run.cell_base r (stepping P w (if c then at_code game n again claim run frames (at_next + 1) r (state_of w) else ticking w.ticks (state_of w) (λ st. at_code game n again claim run frames back_to (put_slot r (run.base + slot_count scope + 2) (first vs)) st))) ((if c then give (normal env) else (turn again here xs vs b env >>= λ flow. looped flow (λ env. again (each_turn here env line xs b f s (first vs))))) w) (L scope r) (flow_at P run end exit frames)
  each_if true line xs b runs f s old vs env scope pc back_to at_next end exit r w lw be ae ee st hs three rs = (r, omega arith, stays_self r run.base run.cell_base, (hs, unmoved_self r run.base scope), goes_at P run frames (at_next + 1) end w r ae)
  each_if false line xs b runs f s old vs env scope pc back_to at_next end exit r w lw be ae ee st hs three rs =
      let at = slot_count scope in
      let some = run.cell_base + cell_count scope in
      let ts = each_turn_code line xs b file scope in
      let cs = each_control line xs scope in
      let t = put_slot r (run.base + at + 2) (first vs) in
      let low : Below r.slots t.slots (run.base + at) = below_put r.slots r.slots (run.base + at) (run.base + at + 2) (first vs) (omega arith) (below_self r.slots (run.base + at)) in
      let st_t : Stays r t (run.base + at) some = record { slots = low; cells = below_self r.cells some } in
      let e3 : run.base + (at + 3) ≡ run.base + suc (suc (suc at)) = omega arith in
      let three_t : Three t at f s (first vs) = (put_other r.slots (run.base + at + 2) (first vs) (run.base + at) (differs (run.base + at) (run.base + at + 2) (omega arith)) ∙ three.0, put_other r.slots (run.base + at + 2) (first vs) (run.base + at + 1) (differs (run.base + at + 1) (run.base + at + 2) (omega arith)) ∙ three.1, put_same r.slots (run.base + at + 2) (first vs)) in
      first_stays P w.ticks frames run.base run.cell_base r t _ ((turn again here xs vs b env >>= λ flow. looped flow (λ env. again (each_turn here env line xs b f s (first vs)))) w) _ _ (stays_less r t (run.base + at) run.base some run.cell_base (omega arith) (omega arith) st_t)
      (first_comes P w.ticks frames run.base run.cell_base t _ (stepping P w (ticking w.ticks (state_of w) (λ st. at_code game n again claim run frames pc t st))) ((turn again here xs vs b env >>= λ flow. looped flow (λ env. again (each_turn here env line xs b f s (first vs)))) w) _ _
      (λ k. (k, ap (λ p. stepping P w (ticking w.ticks (state_of w) (λ st. at_code game n again claim run frames p t st)) k) be))
      (turn_goes game n again claim run frames xs vs b runs pc (pc + length ts) (length cs + 1) (numbers_in scope) env t w (λ flow. looped flow (λ env. again (each_turn here env line xs b f s (first vs)))) _ _ lw refl (front code pc ts _ st) (holds_stays r t run.base run.cell_base scope env (run.base + at) some (omega arith) (omega arith) st_t hs)
      (subst (λ k. Rowed t.slots k (length xs) vs) e3 (rowed_stays r.slots t.slots (run.base + (at + 3)) (length xs) vs (λ k a b. put_other r.slots (run.base + at + 2) (first vs) k (differs_above k (run.base + at + 2) (omega (arith, a)))) rs))
      (λ flow w u lw y.
      weaken game n again (invokes game n again claim) run frames w.ticks u _ (looped flow (λ env. again (each_turn here env line xs b f s (first vs))) w) _ _ _ (λ flow z g. (g.0, unmoved_on r t z run.base scope (unmoved_below r t run.base (run.base + at) scope (omega arith) low) g.1))
      (looped_each flow line xs b f s (first vs) scope pc end exit t u w lw ee st three_t y))))

  -- a turn's call, and what follows
  pub each_goes : (line : ℕ) (xs : List Bytes) (b : Block) → Runs game n again run frames b → (f s v : Value) (env : Env) (scope : Scope) (pc end exit : ℕ) (r : Registers) (w : World) → w.ticks ≤ n → end ≡ pc + length (each_loop line xs b file scope) → Stands code pc (each_loop line xs b file scope) → Holds r run.base run.cell_base scope env → Three r (slot_count scope) f s v
      → Goes P w.ticks frames run.base run.cell_base r (going P run (pc + length (each_turn_code line xs b file scope)) frames w r) (call_at again here line f (s ∷ v ∷ []) w >>> λ vs w. each_on again here env line xs b f s vs w) (L scope r) (flow_at P run end exit frames)
  each_goes line xs b runs f s v env scope pc end exit r w lw ee st hs three =
      let at = slot_count scope in
      let some = run.cell_base + cell_count scope in
      let ts = each_turn_code line xs b file scope in
      let cs = each_control line xs scope in
      let st_site = site line (at + 3) scope in
      let ins = i.each_next at (length ts + length cs) in
      let p = pc + length ts in
      let sc = back code pc p ts _ refl st in
      let q1 = put_slot r (run.base + (at + 3)) f in
      let q2 = put_slot q1 (run.base + (at + 4)) s in
      let q3 = put_slot q2 (run.base + (at + 5)) v in
      let e1 : run.base + (at + 1) ≡ run.base + at + 1 = omega arith in
      let e2 : run.base + (at + 2) ≡ run.base + at + 2 = omega arith in
      let e4 : run.base + suc (at + 3) ≡ run.base + (at + 4) = omega arith in
      let e5 : suc (run.base + suc (at + 3)) ≡ run.base + (at + 5) = omega arith in
      let low3 : Below r.slots q3.slots (run.base + (at + 3)) = below_put r.slots q2.slots (run.base + (at + 3)) (run.base + (at + 5)) v (omega arith) (below_put r.slots q1.slots (run.base + (at + 3)) (run.base + (at + 4)) s (omega arith) (below_put r.slots r.slots (run.base + (at + 3)) (run.base + (at + 3)) f (omega arith) (below_self r.slots (run.base + (at + 3))))) in
      let st_q : Stays r q3 (run.base + (at + 3)) some = record { slots = low3; cells = below_self r.cells some } in
      let f_is : q3.slots (run.base + (at + 3)) ≡ f = put_other q2.slots (run.base + (at + 5)) v (run.base + (at + 3)) (differs (run.base + (at + 3)) (run.base + (at + 5)) (omega arith)) ∙ put_other q1.slots (run.base + (at + 4)) s (run.base + (at + 3)) (differs (run.base + (at + 3)) (run.base + (at + 4)) (omega arith)) ∙ put_same r.slots (run.base + (at + 3)) f in
      let s_is : q3.slots (run.base + suc (at + 3)) ≡ s = ap q3.slots e4 ∙ put_other q2.slots (run.base + (at + 5)) v (run.base + (at + 4)) (differs (run.base + (at + 4)) (run.base + (at + 5)) (omega arith)) ∙ put_same q1.slots (run.base + (at + 4)) s in
      let v_is : q3.slots (suc (run.base + suc (at + 3))) ≡ v = ap q3.slots e5 ∙ put_same q2.slots (run.base + (at + 5)) v in
      let args_are : row q3.slots (run.base + suc (at + 3)) 2 ++ [] ≡ s ∷ v ∷ [] = ap (λ x. x ∷ q3.slots (suc (run.base + suc (at + 3))) ∷ []) s_is ∙ ap (λ x. s ∷ x ∷ []) v_is in
      let load1 = one_step P run p frames r w (i.load (at + 3) (slot at)) _ sc.0 (ap (λ x. at_code game n again claim run frames (p + 1) (put_slot r (run.base + (at + 3)) x) (state_of w)) three.0) in
      let s_old : q1.slots (run.base + (at + 1)) ≡ s = put_other r.slots (run.base + (at + 3)) f (run.base + (at + 1)) (differs (run.base + (at + 1)) (run.base + (at + 3)) (omega arith)) ∙ ap r.slots e1 ∙ three.1 in
      let load2 = one_step P run (p + 1) frames q1 w (i.load (at + 4) (slot (at + 1))) _ sc.1.0 (ap (λ x. at_code game n again claim run frames (p + 1 + 1) (put_slot q1 (run.base + (at + 4)) x) (state_of w)) s_old) in
      let v_old : q2.slots (run.base + (at + 2)) ≡ v = put_other q1.slots (run.base + (at + 4)) s (run.base + (at + 2)) (differs (run.base + (at + 2)) (run.base + (at + 4)) (omega arith)) ∙ put_other r.slots (run.base + (at + 3)) f (run.base + (at + 2)) (differs (run.base + (at + 2)) (run.base + (at + 3)) (omega arith)) ∙ ap r.slots e2 ∙ three.2 in
      let load3 = one_step P run (p + 1 + 1) frames q2 w (i.load (at + 5) (slot (at + 2))) _ sc.1.1.0 (ap (λ x. at_code game n again claim run frames (p + 1 + 1 + 1) (put_slot q2 (run.base + (at + 5)) x) (state_of w)) v_old) in
      let pi = p + 1 + 1 + 1 in
      let comes : Comes (going P run p frames w r) (going P run pi frames w q3) = comes_on _ (going P run (p + 1) frames w q1) _ load1 (comes_on _ (going P run (p + 1 + 1) frames w q2) _ load2 load3) in
      first_stays P w.ticks frames run.base run.cell_base r q3 _ (call_at again here line f (s ∷ v ∷ []) w >>> λ vs w. each_on again here env line xs b f s vs w) _ _ (stays_less r q3 (run.base + (at + 3)) run.base some run.cell_base (omega arith) (omega arith) st_q)
      (first_comes P w.ticks frames run.base run.cell_base q3 _ (going P run pi frames w q3) (call_at again here line f (s ∷ v ∷ []) w >>> λ vs w. each_on again here env line xs b f s vs w) _ _ comes
      (both P n w.ticks lw frames run.base run.cell_base q3 _ (call_at again here line f (s ∷ v ∷ []) w) _ _ (λ vs w. each_on again here env line xs b f s vs w) _ _ (invokes_goes game n again (invokes game n again claim) run frames i.to_tail st_site f (s ∷ v ∷ []) pi (at + 3) 2 false q3 w lw sc.1.1.1.0 f_is args_are)
      (λ vs w1 t l1 t_stays x.
      let m = one_or_more (length xs) in
      let u = with_slots t (put_values t.slots (run.base + (at + 3)) (max 1 (length xs)) vs) in
      let st_t : Stays r t (run.base + (at + 3)) some = subst (λ t. Stays r t (run.base + (at + 3)) some) (sym x.2) (stays_tail r x.0 (run.base + (at + 3)) some vs (stays_on r q3 x.0 (run.base + (at + 3)) (run.base + (at + 3) + 1) some some (omega arith) (omega arith) st_q x.1)) in
      let st_u : Stays r u (run.base + (at + 3)) some = stays_values r t (run.base + (at + 3)) some (run.base + (at + 3)) (max 1 (length xs)) vs (omega arith) st_t in
      let st_tu : Stays t u run.base run.cell_base = stays_values t t run.base run.cell_base (run.base + (at + 3)) (max 1 (length xs)) vs (omega arith) (stays_self t run.base run.cell_base) in
      let rows : Rowed u.slots (run.base + (at + 3)) (suc m.0) vs = subst (λ k. Rowed u.slots (run.base + (at + 3)) k vs) m.1 (rowed_put t.slots (run.base + (at + 3)) (max 1 (length xs)) vs) in
      let pn = p + length cs in
      let pn_is : pi + 1 + 1 ≡ pn = omega arith in
      let stn = back code p pn cs (ins ∷ []) refl sc in
      let end_is : pn + 1 ≡ end = omega (arith, ee, length-append ts (cs ++ ins ∷ []), length-append cs (ins ∷ [])) in
      let three_u : Three u at f s v = (st_u.slots (run.base + at) (omega arith) ∙ three.0, st_u.slots (run.base + at + 1) (omega arith) ∙ three.1, st_u.slots (run.base + at + 2) (omega arith) ∙ three.2) in
      first_stays P w1.ticks frames run.base run.cell_base t u _ (each_on again here env line xs b f s vs w1) _ _ st_tu
      (first_comes P w1.ticks frames run.base run.cell_base u _ (going P run pn frames w1 u) (each_on again here env line xs b f s vs w1) _ _
      (comes_on _ (going P run (pi + 1 + 1) frames w1 u) _ (one_step P run (pi + 1) frames t w1 (i.spread (at + 3) (max 1 (length xs)) true) _ sc.1.1.1.1.0 (ap (λ l. at_code game n again claim run frames (pi + 1 + 1) (with_slots t (put_values t.slots (run.base + (at + 3)) (max 1 (length xs)) l)) (state_of w1)) (ap (λ q. q.tail) x.2))) (goes_at P run frames (pi + 1 + 1) pn w1 u pn_is))
      (first_comes P w1.ticks frames run.base run.cell_base u _ (stepping P w1 (each (at_pc run pn) frames u (state_of w1) at (length ts + length cs) (first vs))) (each_on again here env line xs b f s vs w1) _ _
      (one_step P run pn frames u w1 ins _ stn.0 (ap (λ x. each (at_pc run pn) frames u (state_of w1) at (length ts + length cs) x) rows.0))
      (weaken game n again (invokes game n again claim) run frames w1.ticks u _ (each_on again here env line xs b f s vs w1) _ _ _ (λ flow z y. (y.0, unmoved_on r u z run.base scope (unmoved_below r u run.base (run.base + (at + 3)) scope (omega arith) st_u.slots) y.1))
      (each_if (is_nil (first vs)) line xs b runs f s v vs env scope pc (pn - (length ts + length cs)) pn end exit u w1 l1 (omega arith) end_is ee st (holds_stays r u run.base run.cell_base scope env (run.base + (at + 3)) some (omega arith) (omega arith) st_u hs) three_u (rowed_less u.slots (run.base + (at + 3)) (length xs) (suc m.0) vs m.2 rows))))))))

  pub each_begins : (line : ℕ) (xs : List Bytes) (es : Exprs) (b : Block) → Does game n again run frames (gen_for line xs es b)
  each_begins line xs es b later pc end exit scope env r w lw ee st hs =
      let h = slot_count scope in
      let some = run.cell_base + cell_count scope in
      let vc = exprs_code es file scope h in
      let fit = fitted h 3 (count es) (tailed es) in
      let ts = each_turn_code line xs b file scope in
      let loop = each_loop line xs b file scope in
      let p1 = pc + length (vc ++ fit) in
      let st' : Stands code pc ((vc ++ fit) ++ i.skip (length ts) ∷ loop) = subst (λ l. Stands code pc l) (sym (append_assoc vc fit (i.skip (length ts) ∷ loop))) st in
      let st1 = back code pc p1 (vc ++ fit) _ refl st' in
      let e1 : suc (run.base + h) ≡ run.base + h + 1 = omega arith in
      let e2 : suc (suc (run.base + h)) ≡ run.base + h + 2 = omega arith in
      both P w.ticks w.ticks (omega arith) frames run.base run.cell_base r _ (evals again here es env w) _ _ (λ vs w. again (each_turn here env line xs b (argument 0 vs) (argument 1 vs) (argument 2 vs)) w) _ _ (values_goes game n again (invokes game n again claim) run frames es 3 pc p1 h scope env r w (omega (arith, lw)) (omega arith) refl (front code pc (vc ++ fit) _ st') hs)
      (λ vs w1 t l1 t_stays v_is.
      weaken game n again (invokes game n again claim) run frames w1.ticks t _ (again (each_turn here env line xs b (argument 0 vs) (argument 1 vs) (argument 2 vs)) w1) _ _ _ (λ flow u y. (after_closed run scope flow u y.0, unmoved_on r t u run.base scope (unmoved_below r t run.base (run.base + h) scope (omega arith) v_is.1.slots) y.1))
      (first_comes P w1.ticks frames run.base run.cell_base t _ (going P run (p1 + 1 + length ts) frames w1 t) (again (each_turn here env line xs b (argument 0 vs) (argument 1 vs) (argument 2 vs)) w1) _ _ (one_step P run p1 frames t w1 (i.skip (length ts)) _ st1.0 refl)
      (claim (each_turn here env line xs b (argument 0 vs) (argument 1 vs) (argument 2 vs)) run frames scope (p1 + 1) end (end + exit) t w1 refl (omega (arith, lw, l1)) (omega (arith, ee, length-append vc (fit ++ i.skip (length ts) ∷ loop), length-append fit (i.skip (length ts) ∷ loop), length-append vc fit)) st1.1 (holds_stays r t run.base run.cell_base scope env (run.base + h) some (omega arith) (omega arith) v_is.1 hs)
      (v_is.0.0 ∙ sym (argument_first vs), ap t.slots (sym e1) ∙ v_is.0.1.0 ∙ sym (argument_second vs), ap t.slots (sym e2) ∙ v_is.0.1.1.0 ∙ sym (argument_third vs)))))
