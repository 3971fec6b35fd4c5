-- Loops in the machine come to what they mean.
use Rattle.std.proofs.Common.{ℕ, suc, ◌+◌, ◌-◌, ◌≡◌, ◌≤◌, refl, sym, ap, subst, List, [], ◌∷◌, ◌++◌, length, Bool, true, false, arith, length-append}
use Rattle.std.specs.Prelude.{if◌then◌else◌}
use Rattle.lua_tree.specs.Tree.{Bytes, Expr, Block}
use Rattle.lua_meaning.specs.Value.{Value, is_true}
use Rattle.lua_meaning.specs.World.{World, gives, ◌>>>◌, ◌>>=◌, Act, give, one, take_tick}
use Rattle.lua_meaning.specs.Names.{captured_in, expr_names}
use Rattle.lua_meaning.specs.Locals.{Env, Flow, normal, broken, returned, declare, closed, outer}
use Rattle.lua_meaning.specs.Calls.{Later, Here, Task, invoke, while_turn, repeat_turn}
use Rattle.lua_meaning.specs.Control.{Game}
use Rattle.lua_meaning.specs.Expressions.{eval}
use Rattle.lua_meaning.specs.Statements.{block}
use Rattle.lua_meaning.specs.Running.{turn, looped, while_true, until}
use Rattle.lua_code.specs.Instr as i
use Rattle.lua_code.specs.Instr.{Instr, file_of, code_of}
use Rattle.lua_code.specs.Scope.{Scope, slot_count, cell_count, declared, declare_code}
use Rattle.lua_code.specs.Code.{ready_slot, slot_place, block_code}
use Rattle.lua_code.specs.State.{Registers, State, Running, Frame, lua, Step, on}
use Rattle.lua_code.specs.Frames.{places, ticking}
use Rattle.lua_code.specs.Natives.{Program}
use Rattle.lua_code.specs.Act.{at_pc, returns}
use Rattle.lua_code.specs.Follows.{state_of, program_of}
use Rattle.lua_code.proofs.Registers.{Stays, stays_self, Holds, holds_stays}
use Rattle.lua_code.proofs.Goes.{Thread, comes_self, Stands, front, back, stepping, going, Goes, first_comes, both, one_step, tick_goes}
use Rattle.lua_code.proofs.Calling.{Invokes}
use Rattle.lua_code.proofs.Landing.{here_of, goes_at}
use Rattle.lua_code.proofs.Expressions.{left}
use Rattle.lua_code.proofs.Nodes.{weaken, single_on, expr_goes}
use Rattle.lua_code.proofs.Scopes.{After, Closed, Unmoved, unmoved_below, unmoved_self, unmoved_on, unmoved_outer, outer_holds, declared_more, end_more, Rowed}
use Rattle.lua_code.proofs.Statements.{declare_goes, scoped_goes}
use Rattle.lua_code.proofs.Claims.{flow_at, test_code, while_body, while_code, repeat_scope, repeat_body, repeat_code, turn_code, Claim, Runs}

module _ (game : Game) (n : ℕ) (again : Later) (claim : (t : Task) → Claim game n again t) where
  pub invokes : Invokes game n again
  invokes callee args frames base cell_base r w lt = claim (invoke callee args (places frames)) frames base cell_base r w refl lt

  module _ (run : Running) (frames : List Frame) where
    abbrev P : Program
    P = program_of game

    abbrev here : Here
    here = here_of run frames

    abbrev code : List Instr
    code = code_of run.code

    abbrev file : Bytes
    file = file_of run.code

    -- a machine at an instruction
    abbrev pub at_code : ℕ → Registers → State → Step
    at_code pc r st = on (record { active = lua (at_pc run pc); frames = frames; registers = r; state = st })

    abbrev pub Leaves : Scope → Registers → Flow → Registers → Type 0
    Leaves scope r flow t = Closed run scope flow t × Unmoved r t run.base scope

    -- a turn takes its tick, and its block runs with fresh locals; then what is behind it
    pub turn_goes : {A : Type 0} (xs : List Bytes) (vs : List Value) (b : Block) → Runs game n again run frames b → (pc end exit : ℕ) (scope : Scope) (env : Env) (r : Registers) (w : World) (g : Flow → Act A) (Q : A → Registers → Type 0) (f : A → World → Registers → Thread) → w.ticks ≤ n → end ≡ pc + length (turn_code xs b exit file scope) → Stands code pc (turn_code xs b exit file scope) → Holds r run.base run.cell_base scope env → Rowed r.slots (run.base + slot_count scope) (length xs) vs
        → ((flow : Flow) (w : World) (t : Registers) → suc w.ticks ≤ n → Leaves scope r flow t → Goes P w.ticks frames run.base run.cell_base t (flow_at P run end (end + exit) frames flow w t) (g flow w) Q f)
        → Goes P w.ticks frames run.base run.cell_base r (stepping P w (ticking w.ticks (state_of w) (λ st. at_code pc r st))) (turn again here xs vs b env w >>> λ flow w. g flow w) Q f
    turn_goes xs vs b runs pc end exit scope env r w g Q f lw ee st hs rs h_next =
        let ds = declare_code xs (captured_in b) scope in
        let inner_scope = declared xs (captured_in b) scope in
        let bs = block_code b [] exit file inner_scope in
        let more = declared_more xs (captured_in b) scope in
        let p1 = pc + length ds in
        subst (λ e. Goes P w.ticks frames run.base run.cell_base r (stepping P w (ticking w.ticks (state_of w) (λ st. at_code pc r st))) e Q f)
        (sym (single_on game n again invokes run frames (take_tick w.ticks w) (λ a w. declare xs (captured_in b) vs env w >>> λ inner w. block again here [] b inner w >>> λ flow w. gives (closed env flow) w) g))
        (tick_goes P w.ticks w.ticks frames run.base run.cell_base r w _ _ _ _ (omega arith) (λ w' lt.
        both P w'.ticks w'.ticks (omega arith) frames run.base run.cell_base r _ (declare xs (captured_in b) vs env w' >>> λ inner w. block again here [] b inner w >>> λ flow w. gives (closed env flow) w) _ _ (λ flow w. g flow w) _ _
        (both P w'.ticks w'.ticks (omega arith) frames run.base run.cell_base r _ (declare xs (captured_in b) vs env w') _ _ (λ inner w. block again here [] b inner w >>> λ flow w. gives (closed env flow) w) _ _
        (declare_goes game n again invokes run frames xs (captured_in b) vs pc p1 scope env r w' refl (front code pc ds bs st) hs rs)
        (λ inner w1 t l1 t_stays h.
        let stays_t : Stays r t (run.base + slot_count scope) (run.cell_base + cell_count scope) = record { slots = λ k l. ap (λ s. s k) h.1; cells = h.2 } in
        let outer_t : Holds t run.base run.cell_base scope env = holds_stays r t run.base run.cell_base scope env (run.base + slot_count scope) (run.cell_base + cell_count scope) (omega arith) (omega arith) stays_t hs in
        weaken game n again invokes run frames w1.ticks t _ (block again here [] b inner w1 >>> λ flow w. gives (closed env flow) w) _ _ _ (λ flow u x. (x.0, unmoved_on r t u run.base scope (unmoved_below r t run.base (run.base + slot_count scope) scope (omega arith) stays_t.slots) x.1))
        (scoped_goes game n again invokes run frames b runs p1 end exit scope inner_scope env inner more.0 t w1 (omega (arith, l1, lt, lw)) more.1 (omega (arith, ee, length-append ds bs)) (back code pc p1 ds bs refl st) h.0 outer_t)))
        (λ flow w2 u l2 u_stays x. h_next flow w2 u (omega (arith, l2, lt, lw)) x)) refl)

    -- ---- while

    back_is : (b t : List Instr) (pc : ℕ) → pc + length b + length t - (length b + length t) ≡ pc
    back_is b t pc = omega arith

    looped_while : (flow : Flow) (e : Expr) (b : Block) (scope : Scope) (pc end exit : ℕ) (r t : Registers) (w : World) → suc w.ticks ≤ n → end ≡ pc + length (while_code e b file scope) → Stands code pc (while_code e b file scope) → Leaves scope r flow t
        → Goes P w.ticks frames run.base run.cell_base t (flow_at P run (pc + length (while_body e b file scope)) (pc + length (while_body e b file scope) + (length (test_code e file scope) + 1)) frames flow w t) (looped flow (λ env. again (while_turn here env e b)) w) (Leaves scope r) (flow_at P run end exit frames)
    looped_while (normal env) e b scope pc end exit r t w lw ee st x =
        weaken game n again invokes run frames w.ticks t _ (again (while_turn here env e b) w) _ _ _ (λ flow u y. (y.0, unmoved_on r t u run.base scope x.1 y.1))
        (claim (while_turn here env e b) run frames scope pc end exit t w refl lw ee st x.0)
    looped_while (broken env) e b scope pc end exit r t w lw ee st x =
        let bs = while_body e b file scope in
        let ts = test_code e file scope in
        let ins = i.back_if (slot_place (ready_slot e scope) (slot_count scope)) (length bs + length ts) in
        (t, omega arith, stays_self t run.base run.cell_base, x, goes_at P run frames (pc + length bs + (length ts + 1)) end w t (omega (arith, ee, length-append bs (ts ++ ins ∷ []), length-append ts (ins ∷ []))))
    looped_while (returned vs) e b scope pc end exit r t w lw ee st x = (t, omega arith, stays_self t run.base run.cell_base, (tt, x.1), comes_self _)

    while_on : (c : Bool) (v : Value) (e : Expr) (b : Block) → Runs game n again run frames b → (scope : Scope) (env : Env) (pc back_to at end exit : ℕ) (r : Registers) (w : World) → w.ticks ≤ n → back_to ≡ pc → at + 1 ≡ end → end ≡ pc + length (while_code e b file scope) → Stands code pc (while_code e b file scope) → Holds r run.base run.cell_base scope env
        → Goes P w.ticks frames run.base run.cell_base r (stepping P w (returns (at_pc run at) frames r (state_of w) c back_to)) ((if c then (turn again here [] [] b env >>= λ flow. looped flow (λ env. again (while_turn here env e b))) else give (normal env)) w) (Leaves scope r) (flow_at P run end exit frames)
    while_on true v e b runs scope env pc back_to at end exit r w lw be ae ee st hs =
        let bs = while_body e b file scope in
        first_comes P w.ticks frames run.base run.cell_base r _ (stepping P w (ticking w.ticks (state_of w) (λ st. at_code pc r st))) (turn again here [] [] b env w >>> λ flow w. looped flow (λ env. again (while_turn here env e b)) w) _ _
        (λ k. (k, ap (λ p. stepping P w (ticking w.ticks (state_of w) (λ st. at_code p r st)) k) be))
        (turn_goes [] [] b runs pc (pc + length bs) (length (test_code e file scope) + 1) scope env r w (λ flow. looped flow (λ env. again (while_turn here env e b))) _ _ lw refl (front code pc bs _ st) hs tt
        (λ flow w t lw x. looped_while flow e b scope pc end exit r t w lw ee st x))
    while_on false v e b runs scope env pc back_to at end exit r w lw be ae ee st hs = (r, omega arith, stays_self r run.base run.cell_base, (hs, unmoved_self r run.base scope), goes_at P run frames (at + 1) end w r ae)

    pub while_goes : (e : Expr) (b : Block) → Runs game n again run frames b → (scope : Scope) (env : Env) (pc end exit : ℕ) (r : Registers) (w : World) → w.ticks ≤ n → end ≡ pc + length (while_code e b file scope) → Stands code pc (while_code e b file scope) → Holds r run.base run.cell_base scope env
        → Goes P w.ticks frames run.base run.cell_base r (going P run (pc + length (while_body e b file scope)) frames w r) (one (eval again here e env) w >>> λ v w. while_true again here env e b v w) (Leaves scope r) (flow_at P run end exit frames)
    while_goes e b runs scope env pc end exit r w lw ee st hs =
        let h = slot_count scope in
        let some = run.cell_base + cell_count scope in
        let bs = while_body e b file scope in
        let ts = test_code e file scope in
        let from = slot_place (ready_slot e scope) h in
        let ins = i.back_if from (length bs + length ts) in
        let p1 = pc + length bs in
        let p2 = p1 + length ts in
        let st1 = back code pc p1 bs _ refl st in
        let st2 = back code p1 p2 ts _ refl st1 in
        let end_is : p2 + 1 ≡ end = omega (arith, ee, length-append bs (ts ++ ins ∷ []), length-append ts (ins ∷ [])) in
        both P n w.ticks lw frames run.base run.cell_base r _ (one (eval again here e env) w) _ _ (λ v w. while_true again here env e b v w) _ _ (left game n again invokes run frames e (expr_goes game n again invokes run frames e) p1 p2 h scope env r w lw (omega arith) refl (front code p1 ts _ st1) hs)
        (λ v w t lw t_stays v_is.
        weaken game n again invokes run frames w.ticks t _ (while_true again here env e b v w) _ _ _ (λ flow u x. (x.0, unmoved_on r t u run.base scope (unmoved_below r t run.base (run.base + h) scope (omega arith) v_is.1.slots) x.1))
        (first_comes P w.ticks frames run.base run.cell_base t _ (stepping P w (returns (at_pc run p2) frames t (state_of w) (is_true v) (p2 - (length bs + length ts)))) (while_true again here env e b v w) _ _
        (one_step P run p2 frames t w ins _ st2.0 (ap (λ v. returns (at_pc run p2) frames t (state_of w) (is_true v) (p2 - (length bs + length ts))) v_is.0))
        (while_on (is_true v) v e b runs scope env pc (p2 - (length bs + length ts)) p2 end exit t w lw (omega arith) end_is ee st (holds_stays r t run.base run.cell_base scope env (run.base + h) some (omega arith) (omega arith) v_is.1 hs))))

    -- ---- repeat

    -- the test of a loop, which takes no ticks of its own
    pub left_here : (e : Expr) (pc end : ℕ) (scope : Scope) (env : Env) (r : Registers) (w : World) → suc w.ticks ≤ n → end ≡ pc + length (test_code e file scope) → Stands code pc (test_code e file scope) → Holds r run.base run.cell_base scope env
        → Goes P w.ticks frames run.base run.cell_base r (going P run pc frames w r) (one (eval again here e env) w) (λ v t. (t.slots (run.base + slot_place (ready_slot e scope) (slot_count scope)) ≡ v) × Stays r t (run.base + slot_count scope) (run.cell_base + cell_count scope)) (λ v w t. going P run end frames w t)
    left_here e pc end scope env r w lw ee st hs = left game n again invokes run frames e (expr_goes game n again invokes run frames e) pc end (slot_count scope) scope env r w (omega (arith, lw)) (omega arith) ee st hs

    -- at an error in the test nothing of the frame is needed; else the loop goes on, or ends without the block's locals
    repeat_on : (c : Bool) (v : Value) (e : Expr) (b : Block) → (scope : Scope) (before env : Env) (pc back_to at end exit : ℕ) (r0 r : Registers) (w : World) → suc w.ticks ≤ n → back_to ≡ pc → at + 1 ≡ end → end ≡ pc + length (repeat_code e b file scope) → Stands code pc (repeat_code e b file scope) → Holds r0 run.base run.cell_base scope before → Holds r run.base run.cell_base (repeat_scope e b scope) env
        → Goes P w.ticks frames run.base run.cell_base r (stepping P w (if c then at_code (at + 1) r (state_of w) else ticking w.ticks (state_of w) (λ st. at_code back_to r st))) ((if c then give (normal (outer before env)) else again (repeat_turn here (outer before env) b e)) w) (Leaves scope r) (flow_at P run end exit frames)
    repeat_on true v e b scope before env pc back_to at end exit r0 r w lw be ae ee st h0 hs =
        let em = end_more b (expr_names false e) scope in
        (r, omega arith, stays_self r run.base run.cell_base, (outer_holds em.0 scope r0 r run.base run.cell_base before env h0 (subst (λ s. Holds r run.base run.cell_base s env) em.1 hs), unmoved_self r run.base scope), goes_at P run frames (at + 1) end w r ae)
    repeat_on false v e b scope before env pc back_to at end exit r0 r w lw be ae ee st h0 hs =
        let em = end_more b (expr_names false e) scope in
        first_comes P w.ticks frames run.base run.cell_base r _ (stepping P w (ticking w.ticks (state_of w) (λ st. at_code pc r st))) (again (repeat_turn here (outer before env) b e) w) _ _
        (λ k. (k, ap (λ p. stepping P w (ticking w.ticks (state_of w) (λ st. at_code p r st)) k) be))
        (claim (repeat_turn here (outer before env) b e) run frames scope pc end exit r w refl lw ee st (outer_holds em.0 scope r0 r run.base run.cell_base before env h0 (subst (λ s. Holds r run.base run.cell_base s env) em.1 hs)))

    until_goes : (flow : Flow) (e : Expr) (b : Block) (scope : Scope) (before : Env) (pc end exit : ℕ) (r0 r : Registers) (w : World) → suc w.ticks ≤ n → end ≡ pc + length (repeat_code e b file scope) → Stands code pc (repeat_code e b file scope) → Holds r0 run.base run.cell_base scope before → After run scope (repeat_scope e b scope) flow r × Unmoved r0 r run.base scope
        → Goes P w.ticks frames run.base run.cell_base r (flow_at P run (pc + length (repeat_body e b file scope)) (pc + length (repeat_body e b file scope) + (length (test_code e file (repeat_scope e b scope)) + 1)) frames flow w r) (until again here before b e flow w) (Leaves scope r0) (flow_at P run end exit frames)
    until_goes (normal env) e b scope before pc end exit r0 r w lw ee st h0 x =
        let inner = repeat_scope e b scope in
        let h = slot_count inner in
        let some = run.cell_base + cell_count inner in
        let bs = repeat_body e b file scope in
        let ts = test_code e file inner in
        let from = slot_place (ready_slot e inner) h in
        let ins = i.back_unless from (length bs + length ts) in
        let p1 = pc + length bs in
        let p2 = p1 + length ts in
        let st1 = back code pc p1 bs _ refl st in
        let st2 = back code p1 p2 ts _ refl st1 in
        let end_is : p2 + 1 ≡ end = omega (arith, ee, length-append bs (ts ++ ins ∷ []), length-append ts (ins ∷ [])) in
        let em = end_more b (expr_names false e) scope in
        both P w.ticks w.ticks (omega arith) frames run.base run.cell_base r _ (one (eval again here e env) w) _ _ (λ v w. (if is_true v then give (normal (outer before env)) else again (repeat_turn here (outer before env) b e)) w) _ _ (left_here e p1 p2 inner env r w lw refl (front code p1 ts _ st1) x.0)
        (λ v w' t lw' t_stays v_is.
        weaken game n again invokes run frames w'.ticks t _ ((if is_true v then give (normal (outer before env)) else again (repeat_turn here (outer before env) b e)) w') _ _ _ (λ flow u y. (y.0, unmoved_on r0 r u run.base scope x.1 (unmoved_on r t u run.base scope (unmoved_outer r t run.base em.0 scope (subst (λ s. Unmoved r t run.base s) em.1 (unmoved_below r t run.base (run.base + h) inner (omega arith) v_is.1.slots))) y.1)))
        (first_comes P w'.ticks frames run.base run.cell_base t _ (stepping P w' (if is_true v then at_code (p2 + 1) t (state_of w') else ticking w'.ticks (state_of w') (λ st. at_code (p2 - (length bs + length ts)) t st))) ((if is_true v then give (normal (outer before env)) else again (repeat_turn here (outer before env) b e)) w') _ _
        (one_step P run p2 frames t w' ins _ st2.0 (ap (λ v. if is_true v then at_code (p2 + 1) t (state_of w') else ticking w'.ticks (state_of w') (λ st. at_code (p2 - (length bs + length ts)) t st)) v_is.0))
        (repeat_on (is_true v) v e b scope before env pc (p2 - (length bs + length ts)) p2 end exit r0 t w' (omega (arith, lw', lw)) (omega arith) end_is ee st h0 (holds_stays r t run.base run.cell_base inner env (run.base + h) some (omega arith) (omega arith) v_is.1 x.0))))
    until_goes (broken env) e b scope before pc end exit r0 r w lw ee st h0 x =
        let bs = repeat_body e b file scope in
        let ts = test_code e file (repeat_scope e b scope) in
        let ins = i.back_unless (slot_place (ready_slot e (repeat_scope e b scope)) (slot_count (repeat_scope e b scope))) (length bs + length ts) in
        (r, omega arith, stays_self r run.base run.cell_base, (outer_holds x.0.0 scope r0 r run.base run.cell_base before env h0 x.0.1, x.1), goes_at P run frames (pc + length bs + (length ts + 1)) end w r (omega (arith, ee, length-append bs (ts ++ ins ∷ []), length-append ts (ins ∷ []))))
    until_goes (returned vs) e b scope before pc end exit r0 r w lw ee st h0 x = (r, omega arith, stays_self r run.base run.cell_base, (tt, x.1), comes_self _)

    pub repeat_goes : (e : Expr) (b : Block) → Runs game n again run frames b → (scope : Scope) (env : Env) (pc end exit : ℕ) (r : Registers) (w : World) → w.ticks ≤ n → end ≡ pc + length (repeat_code e b file scope) → Stands code pc (repeat_code e b file scope) → Holds r run.base run.cell_base scope env
        → Goes P w.ticks frames run.base run.cell_base r (stepping P w (ticking w.ticks (state_of w) (λ st. at_code pc r st))) (take_tick w.ticks w >>> λ a w. block again here (expr_names false e) b env w >>> λ flow w. until again here env b e flow w) (Leaves scope r) (flow_at P run end exit frames)
    repeat_goes e b runs scope env pc end exit r w lw ee st hs =
        let bs = repeat_body e b file scope in
        let ts = test_code e file (repeat_scope e b scope) in
        tick_goes P w.ticks w.ticks frames run.base run.cell_base r w _ _ _ _ (omega arith) (λ w' lt.
        both P w'.ticks w'.ticks (omega arith) frames run.base run.cell_base r _ (block again here (expr_names false e) b env w') _ _ (λ flow w. until again here env b e flow w) _ _
        (runs (expr_names false e) pc (pc + length bs) (length ts + 1) scope env r w' (omega (arith, lt, lw)) refl (front code pc bs _ st) hs)
        (λ flow w1 t l1 t_stays a. until_goes flow e b scope env pc end exit r t w1 (omega (arith, l1, lt, lw)) ee st hs a)) refl
