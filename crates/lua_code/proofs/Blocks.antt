-- Statements and blocks in the machine come to what they mean.
use Rattle.std.proofs.Common.{ℕ, suc, ◌+◌, ◌≡◌, ◌≤◌, refl, sym, ap, ◌∙◌, subst, List, [], ◌∷◌, ◌++◌, length, Option, Some, None, Bool, true, false, arith, length-append, append_assoc, ℤ, pos}
use Rattle.std.specs.Prelude.{if◌then◌else◌, codes}
use Rattle.lua_tree.specs.Tree.{Bytes, Expr, nil, true_, false_, number, str, dots, function, name, index, call, method, table, unary, binary, paren, Exprs, no_exprs, expr_and, Block, no_stats, stat_and, Stat, assign, local, call_stat, do_block, while_loop, repeat_loop, if_stat, num_for, num_for_by, gen_for, function_stat, local_function, return_stat, break_stat, Arms, no_else, else_block, arm_and, Func}
use Rattle.lua_meaning.specs.Value.{Value, first, is_true, num}
use Rattle.lua_meaning.specs.Text.{as_number}
use Rattle.lua_meaning.specs.Names.{block_names, func_names, is_captured}
use Rattle.lua_meaning.specs.World.{World, Ends, gives, fails, out_of_steps, needs, ◌>>>◌, ◌>>=◌, give, one, take_tick, given}
use Rattle.lua_meaning.specs.Locals.{Env, find, Flow, normal, broken, returned, declare, make_slot, set_local, closed, go_on}
use Rattle.lua_meaning.specs.Calls.{Later, Here, Task, while_turn, repeat_turn, count_turn}
use Rattle.lua_meaning.specs.Control.{Game}
use Rattle.lua_meaning.specs.Expressions.{eval, evals}
use Rattle.lua_meaning.specs.Statements.{exec, block, choose, name_target, target, targets, assign_to, assign_all, wants_number, for_numbers}
use Rattle.lua_code.specs.Instr as i
use Rattle.lua_code.specs.Instr.{Instr, file_of, code_of, slot, constant}
use Rattle.lua_code.specs.Scope.{Kind, in_slot, in_cell, outside, Scope, named, kind_of, cell_code, Seat, at_slot, at_cell, seat_behind, seat_of, slot_count, cell_count, declare_code}
use Rattle.lua_code.specs.Code.{seat_slot, in_place, local_code, width, widths, target_count, store, stores, target_code, targets_code, ready_slot, slot_place, site, fitted, tailed, count, skip_over, expr_code, exprs_code, block_code, stat_code, arms_code, scope_behind, scope_at_end, numbers_in, count_code}
use Rattle.lua_code.specs.State.{Registers, put_slot, Running, Frame, lua, on}
use Rattle.lua_code.specs.Frames.{finish, ticking}
use Rattle.lua_code.specs.Natives.{Program}
use Rattle.lua_code.specs.Act.{at_pc, begins, turns}
use Rattle.lua_code.specs.Follows.{state_of, program_of}
use Rattle.lua_code.proofs.Registers.{differs, Stays, stays_self, stays_on, stays_less, stays_put, put_same, Holds, holds_stays}
use Rattle.lua_code.proofs.Goes.{Comes, comes_self, comes_on, Stands, front, back, stepping, going, Goes, first_comes, first_stays, both, then_on, one_step, tick_goes}
use Rattle.lua_code.proofs.Calling.{Invokes}
use Rattle.lua_code.proofs.Landing.{here_of, Got, got_stays, LoneIf, goes_at}
use Rattle.lua_code.proofs.Expressions.{left, evaluated}
use Rattle.lua_code.proofs.Nodes.{weaken, list_is, single_on, expr_goes, exprs_goes}
use Rattle.lua_code.proofs.Scopes.{After, Closed, Unmoved, unmoved_below, unmoved_self, unmoved_on, unmoved_outer, after_closed, after_less, behind_more}
use Rattle.lua_code.proofs.LocalFunctions.{seat_is, placed}
use Rattle.lua_code.proofs.Each.{each_begins}
use Rattle.lua_code.proofs.InPlace.{in_place_goes}
use Rattle.lua_code.proofs.Assigning.{target_goes, target_stored, targets_goes, stores_goes, fits_stays, all_stay}
use Rattle.lua_code.proofs.Statements.{values_goes, one_declared, slots_one, cells_one, declare_goes, scoped_goes}
use Rattle.lua_code.proofs.Claims.{flow_at, test_code, while_body, turn_code, Claim, Does, Runs, Chooses}
use Rattle.lua_code.proofs.Loops.{invokes}

module _ (game : Game) (n : ℕ) (again : Later) (claim : (t : Task) → Claim game n again t) (run : Running) (frames : List Frame) where
  abbrev P : Program
  P = program_of game

  abbrev here : Here
  here = here_of run frames

  abbrev code : List Instr
  code = code_of run.code

  abbrev file : Bytes
  file = file_of run.code

  abbrev inv : Invokes game n again
  inv = invokes game n again claim

  abbrev Ran : Scope → Scope → Registers → Flow → Registers → Type 0
  Ran scope inner r flow t = After run scope inner flow t × Unmoved r t run.base scope

  moves_less : (end exit end' exit' : ℕ) (flow : Flow) (w : World) (t : Registers) → end ≡ end' → exit ≡ exit' → Comes (flow_at P run end exit frames flow w t) (flow_at P run end' exit' frames flow w t)
  moves_less end exit end' exit' (normal env) w t e x = goes_at P run frames end end' w t e
  moves_less end exit end' exit' (broken env) w t e x = goes_at P run frames exit exit' w t x
  moves_less end exit end' exit' (returned vs) w t e x = comes_self _

  -- ---- one statement behind another

  go_on_goes : (flow : Flow) (s : Stat) (b : Block) (after : List Bytes) → Runs game n again run frames b → (p end exit : ℕ) (scope inner : Scope) (more : Scope) (r t : Registers) (w : World) → w.ticks ≤ n → inner ≡ more ++ scope → end ≡ p + length (block_code b after exit file inner) → Stands code p (block_code b after exit file inner) → Ran scope inner r flow t
      → Goes P w.ticks frames run.base run.cell_base t (flow_at P run p (p + (length (block_code b after exit file inner) + exit)) frames flow w t) (go_on flow (λ env. block again here after b env) w) (Ran scope (scope_at_end b after inner) r) (flow_at P run end (end + exit) frames)
  go_on_goes (normal env) s b after runs p end exit scope inner more r t w lw ie ee st x =
      weaken game n again inv run frames w.ticks t _ (block again here after b env w) _ _ _ (λ flow u y. (after_less run more scope inner (scope_at_end b after inner) flow u ie y.0, unmoved_on r t u run.base scope x.1 (unmoved_outer t u run.base more scope (subst (λ s. Unmoved t u run.base s) ie y.1))))
      (runs after p end exit inner env t w lw ee st x.0)
  go_on_goes (broken env) s b after runs p end exit scope inner more r t w lw ie ee st x = (t, omega arith, stays_self t run.base run.cell_base, x, goes_at P run frames (p + (length (block_code b after exit file inner) + exit)) (end + exit) w t (omega (arith, ee)))
  go_on_goes (returned vs) s b after runs p end exit scope inner more r t w lw ie ee st x = (t, omega arith, stays_self t run.base run.cell_base, x, comes_self _)

  -- ---- simple statements

  local_goes : (line : ℕ) (xs : List Bytes) (es : Exprs) → Does game n again run frames (local line xs es)
  local_goes line xs es later pc end exit scope env r w lw ee st hs =
      let at = slot_count scope in
      let some = run.cell_base + cell_count scope in
      let vs_code = exprs_code es file scope at in
      let fit = fitted at (length xs) (count es) (tailed es) in
      let ds = declare_code xs later scope in
      let st' : Stands code pc ((vs_code ++ fit) ++ ds) = subst (λ l. Stands code pc l) (sym (append_assoc vs_code fit ds)) st in
      let p1 = pc + length (vs_code ++ fit) in
      both P n w.ticks (omega (arith, lw)) frames run.base run.cell_base r _ (evals again here es env w) _ _ (λ vs w. declare xs later vs env w >>> λ env w. gives (normal env) w) _ _ (values_goes game n again inv run frames es (length xs) pc p1 at scope env r w (omega (arith, lw)) (omega arith) refl (front code pc (vs_code ++ fit) ds st') hs)
      (λ vs w t l1 t_stays v_is.
      both P w.ticks w.ticks (omega arith) frames run.base run.cell_base t _ (declare xs later vs env w) _ _ (λ env w. gives (normal env) w) _ _ (declare_goes game n again inv run frames xs later vs p1 end scope env t w (omega (arith, ee, length-append vs_code (fit ++ ds), length-append fit ds, length-append vs_code fit)) (back code pc p1 (vs_code ++ fit) ds refl st') (holds_stays r t run.base run.cell_base scope env (run.base + at) some (omega arith) (omega arith) v_is.1 hs) v_is.0)
      (λ env' w u l2 u_stays h. (u, omega arith, stays_self u run.base run.cell_base, (h.0, unmoved_below r u run.base (run.base + at) scope (omega arith) (λ k l. ap (λ s. s k) h.1 ∙ v_is.1.slots k l)), comes_self _)))

  call_goes : (line : ℕ) (e : Expr) → Does game n again run frames (call_stat line e)
  call_goes line e later pc end exit scope env r w lw ee st hs =
      let h = slot_count scope in
      let some = run.cell_base + cell_count scope in
      both P n w.ticks (omega (arith, lw)) frames run.base run.cell_base r _ (eval again here e env w) _ _ (λ vs w. gives (normal env) w) _ _ (expr_goes game n again inv run frames e pc end h h scope env r w (omega (arith, lw)) (omega arith) ee st hs)
      (λ vs w t l1 t_stays g.
      let st_t = got_stays r t run.base some h (first vs) g.0 in
      (t, omega arith, stays_self t run.base run.cell_base, (holds_stays r t run.base run.cell_base scope env (run.base + h) some (omega arith) (omega arith) st_t hs, unmoved_below r t run.base (run.base + h) scope (omega arith) st_t.slots), comes_self _))

  return_goes : (line : ℕ) (es : Exprs) → Does game n again run frames (return_stat line es)
  return_goes line es later pc end exit scope env r w lw ee st hs =
      let h = slot_count scope in
      let xs = exprs_code es file scope h in
      let ins = i.leave h (count es) (tailed es) in
      let p1 = pc + length xs in
      both P n w.ticks (omega (arith, lw)) frames run.base run.cell_base r _ (evals again here es env w) _ _ (λ vs w. gives (returned vs) w) _ _ (exprs_goes game n again inv run frames es pc p1 h scope env r w (omega (arith, lw)) (omega arith) refl (front code pc xs (ins ∷ []) st) hs)
      (λ vs w t l1 t_stays v_is. (
        t,
        omega arith,
        stays_self t run.base run.cell_base,
        (tt, unmoved_below r t run.base (run.base + h) scope (omega arith) v_is.1.slots),
        one_step P run p1 frames t w ins _ (back code pc p1 xs (ins ∷ []) refl st).0 (ap (λ vs. finish (given vs) frames t (state_of w)) (list_is (at_pc run p1) frames t (state_of w) h (count es) (tailed es) ∙ v_is.0)),
      ))

  break_goes : (line : ℕ) → Does game n again run frames (break_stat line)
  break_goes line later pc end exit scope env r w lw ee st hs =
      (r, omega arith, stays_self r run.base run.cell_base, (([], hs), unmoved_self r run.base scope), comes_on _ (going P run (pc + 1 + exit) frames w r) _ (one_step P run pc frames r w (i.skip exit) _ st.0 refl) (goes_at P run frames (pc + 1 + exit) (end + exit) w r (omega (arith, ee))))

  do_goes : (line : ℕ) (b : Block) → Runs game n again run frames b → Does game n again run frames (do_block line b)
  do_goes line b runs later pc end exit scope env r w lw ee st hs =
      weaken game n again inv run frames w.ticks r _ (block again here [] b env w >>> λ flow w. gives (closed env flow) w) _ _ _ (λ flow t x. (after_closed run scope flow t x.0, x.1))
      (scoped_goes game n again inv run frames b runs pc end exit scope scope env env [] r w (omega (arith, lw)) refl ee st hs hs)

  while_stat : (line : ℕ) (e : Expr) (b : Block) → Does game n again run frames (while_loop line e b)
  while_stat line e b later pc end exit scope env r w lw ee st hs =
      let bs = while_body e b file scope in
      let step : pc + 1 + length bs ≡ pc + 1 + length bs = refl in
      weaken game n again inv run frames w.ticks r _ (again (while_turn here env e b) w) _ _ _ (λ flow t x. (after_closed run scope flow t x.0, x.1))
      (first_comes P w.ticks frames run.base run.cell_base r _ (going P run (pc + 1 + length bs) frames w r) (again (while_turn here env e b) w) _ _ (one_step P run pc frames r w (i.skip (length bs)) _ st.0 refl)
      (claim (while_turn here env e b) run frames scope (pc + 1) end (end + exit) r w refl lw (omega (arith, ee)) st.1 hs))

  repeat_stat : (line : ℕ) (b : Block) (e : Expr) → Does game n again run frames (repeat_loop line b e)
  repeat_stat line b e later pc end exit scope env r w lw ee st hs =
      weaken game n again inv run frames w.ticks r _ (again (repeat_turn here env b e) w) _ _ _ (λ flow t x. (after_closed run scope flow t x.0, x.1))
      (first_comes P w.ticks frames run.base run.cell_base r _ (stepping P w (ticking w.ticks (state_of w) (λ st. on (record { active = lua (at_pc run (pc + 1)); frames = frames; registers = r; state = st })))) (again (repeat_turn here env b e) w) _ _ (one_step P run pc frames r w i.tick _ st.0 refl)
      (claim (repeat_turn here env b e) run frames scope (pc + 1) end (end + exit) r w refl lw (omega (arith, ee)) st.1 hs))

  -- ---- if

  over_goes : (rest : List Instr) (pc end : ℕ) (w : World) (t : Registers) → end ≡ pc + length (skip_over rest) + length rest → Stands code pc (skip_over rest ++ rest) → Comes (going P run pc frames w t) (going P run end frames w t)
  over_goes [] pc end w t e st = goes_at P run frames pc end w t (omega (arith, e))
  over_goes (y ∷ rest) pc end w t e st = comes_on _ (going P run (pc + 1 + suc (length rest)) frames w t) _ (one_step P run pc frames t w (i.skip (suc (length rest))) _ st.0 refl) (goes_at P run frames (pc + 1 + suc (length rest)) end w t (omega (arith, e)))

  arm_ends : (flow : Flow) (rest : List Instr) (pb end exit : ℕ) (w : World) (t : Registers) → end ≡ pb + length (skip_over rest) + length rest → Stands code pb (skip_over rest ++ rest) → Comes (flow_at P run pb (pb + (length (skip_over rest) + (length rest + exit))) frames flow w t) (flow_at P run end (end + exit) frames flow w t)
  arm_ends (normal env) rest pb end exit w t e st = over_goes rest pb end w t e st
  arm_ends (broken env) rest pb end exit w t e st = goes_at P run frames (pb + (length (skip_over rest) + (length rest + exit))) (end + exit) w t (omega (arith, e))
  arm_ends (returned vs) rest pb end exit w t e st = comes_self _

  arm_if : (c : Bool) (b : Block) (arms : Arms) → Runs game n again run frames b → Chooses game n again run frames arms → (p end exit : ℕ) (scope : Scope) (env : Env) (t : Registers) (w : World) → w.ticks ≤ n
      → end ≡ p + length (block_code b [] (length (skip_over (arms_code arms exit file scope)) + (length (arms_code arms exit file scope) + exit)) file scope ++ (skip_over (arms_code arms exit file scope) ++ arms_code arms exit file scope))
      → Stands code p (block_code b [] (length (skip_over (arms_code arms exit file scope)) + (length (arms_code arms exit file scope) + exit)) file scope ++ (skip_over (arms_code arms exit file scope) ++ arms_code arms exit file scope)) → Holds t run.base run.cell_base scope env
      → Goes P w.ticks frames run.base run.cell_base t (stepping P w (if c then on (record { active = lua (at_pc run p); frames = frames; registers = t; state = state_of w }) else on (record { active = lua (at_pc run (p + (length (block_code b [] (length (skip_over (arms_code arms exit file scope)) + (length (arms_code arms exit file scope) + exit)) file scope) + length (skip_over (arms_code arms exit file scope))))); frames = frames; registers = t; state = state_of w })))
      ((if c then (block again here [] b env >>= λ flow. give (closed env flow)) else choose again here arms env) w) (λ flow u. Closed run scope flow u × Unmoved t u run.base scope) (flow_at P run end (end + exit) frames)
  arm_if true b arms runs chooses p end exit scope env t w lw ee st hs =
      let rest = arms_code arms exit file scope in
      let over = skip_over rest in
      let bs = block_code b [] (length over + (length rest + exit)) file scope in
      let pb = p + length bs in
      then_on P w.ticks w.ticks (omega arith) frames run.base run.cell_base t _ (block again here [] b env w >>> λ flow w. gives (closed env flow) w) _ _ _ _ (scoped_goes game n again inv run frames b runs p pb (length over + (length rest + exit)) scope scope env env [] t w lw refl refl (front code p bs _ st) hs hs)
      (λ flow w u l1 u_stays x. (u, omega arith, stays_self u run.base run.cell_base, x, arm_ends flow rest pb end exit w u (omega (arith, ee, length-append bs (over ++ rest), length-append over rest)) (back code p pb bs _ refl st)))
  arm_if false b arms runs chooses p end exit scope env t w lw ee st hs =
      let rest = arms_code arms exit file scope in
      let over = skip_over rest in
      let bs = block_code b [] (length over + (length rest + exit)) file scope in
      let pb = p + length bs in
      let pr = p + (length bs + length over) in
      let pr_is : pr ≡ pb + length over = omega arith in
      chooses pr end exit scope env t w lw (omega (arith, ee, length-append bs (over ++ rest), length-append over rest)) (back code pb pr over rest pr_is (back code p pb bs _ refl st)) hs

  arm_goes : (e : Expr) (b : Block) (arms : Arms) → Runs game n again run frames b → Chooses game n again run frames arms → Chooses game n again run frames (arm_and e b arms)
  arm_goes e b arms runs chooses pc end exit scope env r w lw ee st hs =
      let h = slot_count scope in
      let some = run.cell_base + cell_count scope in
      let rest = arms_code arms exit file scope in
      let over = skip_over rest in
      let bs = block_code b [] (length over + (length rest + exit)) file scope in
      let ts = test_code e file scope in
      let ins = i.skip_unless (slot_place (ready_slot e scope) h) (length bs + length over) in
      let p1 = pc + length ts in
      let st1 = back code pc p1 ts _ refl st in
      both P n w.ticks lw frames run.base run.cell_base r _ (one (eval again here e env) w) _ _ (λ v w. (if is_true v then (block again here [] b env >>= λ flow. give (closed env flow)) else choose again here arms env) w) _ _ (left game n again inv run frames e (expr_goes game n again inv run frames e) pc p1 h scope env r w lw (omega arith) refl (front code pc ts _ st) hs)
      (λ v w t l1 t_stays v_is.
      weaken game n again inv run frames w.ticks t _ ((if is_true v then (block again here [] b env >>= λ flow. give (closed env flow)) else choose again here arms env) w) _ _ _ (λ flow u x. (x.0, unmoved_on r t u run.base scope (unmoved_below r t run.base (run.base + h) scope (omega arith) v_is.1.slots) x.1))
      (first_comes P w.ticks frames run.base run.cell_base t _ (stepping P w (if is_true v then on (record { active = lua (at_pc run (p1 + 1)); frames = frames; registers = t; state = state_of w }) else on (record { active = lua (at_pc run (p1 + 1 + (length bs + length over))); frames = frames; registers = t; state = state_of w }))) ((if is_true v then (block again here [] b env >>= λ flow. give (closed env flow)) else choose again here arms env) w) _ _
      (one_step P run p1 frames t w ins _ st1.0 (ap (λ v. if is_true v then on (record { active = lua (at_pc run (p1 + 1)); frames = frames; registers = t; state = state_of w }) else on (record { active = lua (at_pc run (p1 + 1 + (length bs + length over))); frames = frames; registers = t; state = state_of w })) v_is.0))
      (arm_if (is_true v) b arms runs chooses (p1 + 1) end exit scope env t w l1 (omega (arith, ee, length-append ts (ins ∷ (bs ++ (over ++ rest))))) st1.1 (holds_stays r t run.base run.cell_base scope env (run.base + h) some (omega arith) (omega arith) v_is.1 hs))))

  -- ---- numeric loops

  numbers_goes : (line : ℕ) (x : Bytes) (b : Block) (scope : Scope) (env : Env) (a c d : Value) (p end exit : ℕ) (r : Registers) (w : World) → suc w.ticks ≤ n → end ≡ p + length (count_code (site line (slot_count scope + 3) scope) (slot_count scope) (turn_code (x ∷ []) b 1 file (numbers_in scope))) → Stands code p (count_code (site line (slot_count scope + 3) scope) (slot_count scope) (turn_code (x ∷ []) b 1 file (numbers_in scope))) → Holds r run.base run.cell_base scope env → r.slots (run.base + slot_count scope) ≡ a → r.slots (run.base + (slot_count scope + 1)) ≡ c → r.slots (run.base + (slot_count scope + 2)) ≡ d
      → Goes P w.ticks frames run.base run.cell_base r (going P run p frames w r) (for_numbers again here line env x b a c d w) (λ flow t. Closed run scope flow t × Unmoved r t run.base scope) (flow_at P run end exit frames)
  numbers_goes line x b scope env a c d p end exit r w lw ee st hs a_is c_is d_is =
      let at = slot_count scope in
      let ts = turn_code (x ∷ []) b 1 file (numbers_in scope) in
      let s = site line (at + 3) scope in
      let ins = i.for_begin s at (length ts + 1) in
      first_comes P w.ticks frames run.base run.cell_base r _ (stepping P w (begins (at_pc run p) frames r (state_of w) s at (length ts + 1) (as_number a) (as_number c) (as_number d))) (for_numbers again here line env x b a c d w) _ _
      (one_step P run p frames r w ins _ st.0
      (ap (λ v. begins (at_pc run p) frames r (state_of w) s at (length ts + 1) (as_number v) (as_number (r.slots (run.base + (at + 1)))) (as_number (r.slots (run.base + (at + 2))))) a_is
      ∙ ap (λ v. begins (at_pc run p) frames r (state_of w) s at (length ts + 1) (as_number a) (as_number v) (as_number (r.slots (run.base + (at + 2))))) c_is
      ∙ ap (λ v. begins (at_pc run p) frames r (state_of w) s at (length ts + 1) (as_number a) (as_number c) (as_number v)) d_is))
      (begins_goes (as_number a) (as_number c) (as_number d))
    where
      begins_goes : (on om ok : Option ℤ) → Goes P w.ticks frames run.base run.cell_base r (stepping P w (begins (at_pc run p) frames r (state_of w) (site line (slot_count scope + 3) scope) (slot_count scope) (length (turn_code (x ∷ []) b 1 file (numbers_in scope)) + 1) on om ok)) (wants_number here line (codes "'for' initial value must be a number") on w >>> λ v w. wants_number here line (codes "'for' limit must be a number") om w >>> λ m w. wants_number here line (codes "'for' step must be a number") ok w >>> λ k w. again (count_turn here env x b v m k) w) (λ flow t. Closed run scope flow t × Unmoved r t run.base scope) (flow_at P run end exit frames)
      begins_goes None om ok = (r, omega arith, stays_self r run.base run.cell_base, comes_self _)
      begins_goes (Some v) None ok = (r, omega arith, stays_self r run.base run.cell_base, comes_self _)
      begins_goes (Some v) (Some m) None = (r, omega arith, stays_self r run.base run.cell_base, comes_self _)
      begins_goes (Some v) (Some m) (Some k) =
          let ts = turn_code (x ∷ []) b 1 file (numbers_in scope) in
          let end_is : p + 1 + (length ts + 1) ≡ end = omega (arith, ee, length-append ts (i.for_next (slot_count scope) (length ts) ∷ [])) in
          first_comes P w.ticks frames run.base run.cell_base r _ (stepping P w (turns (at_pc run p) frames r (state_of w) (slot_count scope) (p + 1) end v m k)) (again (count_turn here env x b v m k) w) _ _
          (λ j. (j, ap (λ q. stepping P w (turns (at_pc run p) frames r (state_of w) (slot_count scope) (p + 1) q v m k) j) end_is))
          (claim (count_turn here env x b v m k) run frames scope p (p + 1) end exit r w refl lw (omega (arith, ee)) st.1 hs)

  num_for_goes : (line : ℕ) (x : Bytes) (a c : Expr) (b : Block) → Does game n again run frames (num_for line x a c b)
  num_for_goes line x a c b later pc end exit scope env r w lw ee st hs =
      let h = slot_count scope in
      let some = run.cell_base + cell_count scope in
      let xs = expr_code a file scope h h in
      let ys = expr_code c file scope (h + 1) (h + 1) in
      let step = i.load (h + 2) (constant (num (pos 1))) in
      let loop = count_code (site line (h + 3) scope) h (turn_code (x ∷ []) b 1 file (numbers_in scope)) in
      let p1 = pc + length xs in
      let p2 = p1 + length ys in
      let st1 = back code pc p1 xs _ refl st in
      let st2 = back code p1 p2 ys _ refl st1 in
      both P w.ticks w.ticks (omega arith) frames run.base run.cell_base r _ (one (eval again here a env) w) _ _ (λ va w. one (eval again here c env) w >>> λ vc w. for_numbers again here line env x b va vc (num (pos 1)) w) _ _ (evaluated game n again inv run frames a (expr_goes game n again inv run frames a) pc p1 h scope env r w (omega (arith, lw)) (omega arith) refl (front code pc xs _ st) hs)
      (λ va w1 t l1 t_stays a_is.
      both P w1.ticks w1.ticks (omega arith) frames run.base run.cell_base t _ (one (eval again here c env) w1) _ _ (λ vc w. for_numbers again here line env x b va vc (num (pos 1)) w) _ _ (evaluated game n again inv run frames c (expr_goes game n again inv run frames c) p1 p2 (h + 1) scope env t w1 (omega (arith, lw, l1)) (omega arith) refl (front code p1 ys _ st1) (holds_stays r t run.base run.cell_base scope env (run.base + h) some (omega arith) (omega arith) a_is.1 hs))
      (λ vc w2 u l2 u_stays c_is.
      let q = put_slot u (run.base + (h + 2)) (num (pos 1)) in
      let st_q : Stays u q (run.base + (h + 2)) some = stays_put u u (run.base + (h + 2)) some (run.base + (h + 2)) (num (pos 1)) (omega arith) (stays_self u (run.base + (h + 2)) some) in
      let st_u : Stays r u (run.base + h) some = stays_on r t u (run.base + h) (run.base + (h + 1)) some some (omega arith) (omega arith) a_is.1 c_is.1 in
      let st_rq : Stays r q (run.base + h) some = stays_on r u q (run.base + h) (run.base + (h + 2)) some some (omega arith) (omega arith) st_u st_q in
      first_stays P w2.ticks frames run.base run.cell_base u q _ (for_numbers again here line env x b va vc (num (pos 1)) w2) _ _ (stays_less u q (run.base + (h + 2)) run.base some run.cell_base (omega arith) (omega arith) st_q)
      (first_comes P w2.ticks frames run.base run.cell_base q _ (going P run (p2 + 1) frames w2 q) (for_numbers again here line env x b va vc (num (pos 1)) w2) _ _ (one_step P run p2 frames u w2 step _ st2.0 refl)
      (weaken game n again inv run frames w2.ticks q _ (for_numbers again here line env x b va vc (num (pos 1)) w2) _ _ _ (λ flow z y. (after_closed run scope flow z y.0, unmoved_on r q z run.base scope (unmoved_below r q run.base (run.base + h) scope (omega arith) st_rq.slots) y.1))
      (numbers_goes line x b scope env va vc (num (pos 1)) (p2 + 1) end (end + exit) q w2 (omega (arith, lw, l1, l2)) (omega (arith, ee, length-append xs (ys ++ step ∷ loop), length-append ys (step ∷ loop))) st2.1 (holds_stays r q run.base run.cell_base scope env (run.base + h) some (omega arith) (omega arith) st_rq hs)
      (st_q.slots (run.base + h) (omega arith) ∙ c_is.1.slots (run.base + h) (omega arith) ∙ a_is.0) (st_q.slots (run.base + (h + 1)) (omega arith) ∙ c_is.0) (put_same u.slots (run.base + (h + 2)) (num (pos 1))))))))

  num_for_by_goes : (line : ℕ) (x : Bytes) (a c d : Expr) (b : Block) → Does game n again run frames (num_for_by line x a c d b)
  num_for_by_goes line x a c d b later pc end exit scope env r w lw ee st hs =
      let h = slot_count scope in
      let some = run.cell_base + cell_count scope in
      let xs = expr_code a file scope h h in
      let ys = expr_code c file scope (h + 1) (h + 1) in
      let zs = expr_code d file scope (h + 2) (h + 2) in
      let loop = count_code (site line (h + 3) scope) h (turn_code (x ∷ []) b 1 file (numbers_in scope)) in
      let p1 = pc + length xs in
      let p2 = p1 + length ys in
      let p3 = p2 + length zs in
      let st1 = back code pc p1 xs _ refl st in
      let st2 = back code p1 p2 ys _ refl st1 in
      let st3 = back code p2 p3 zs _ refl st2 in
      both P w.ticks w.ticks (omega arith) frames run.base run.cell_base r _ (one (eval again here a env) w) _ _ (λ va w. one (eval again here c env) w >>> λ vc w. one (eval again here d env) w >>> λ vd w. for_numbers again here line env x b va vc vd w) _ _ (evaluated game n again inv run frames a (expr_goes game n again inv run frames a) pc p1 h scope env r w (omega (arith, lw)) (omega arith) refl (front code pc xs _ st) hs)
      (λ va w1 t l1 t_stays a_is.
      both P w1.ticks w1.ticks (omega arith) frames run.base run.cell_base t _ (one (eval again here c env) w1) _ _ (λ vc w. one (eval again here d env) w >>> λ vd w. for_numbers again here line env x b va vc vd w) _ _ (evaluated game n again inv run frames c (expr_goes game n again inv run frames c) p1 p2 (h + 1) scope env t w1 (omega (arith, lw, l1)) (omega arith) refl (front code p1 ys _ st1) (holds_stays r t run.base run.cell_base scope env (run.base + h) some (omega arith) (omega arith) a_is.1 hs))
      (λ vc w2 u l2 u_stays c_is.
      let st_u : Stays r u (run.base + h) some = stays_on r t u (run.base + h) (run.base + (h + 1)) some some (omega arith) (omega arith) a_is.1 c_is.1 in
      both P w2.ticks w2.ticks (omega arith) frames run.base run.cell_base u _ (one (eval again here d env) w2) _ _ (λ vd w. for_numbers again here line env x b va vc vd w) _ _ (evaluated game n again inv run frames d (expr_goes game n again inv run frames d) p2 p3 (h + 2) scope env u w2 (omega (arith, lw, l1, l2)) (omega arith) refl (front code p2 zs _ st2) (holds_stays r u run.base run.cell_base scope env (run.base + h) some (omega arith) (omega arith) st_u hs))
      (λ vd w3 q l3 q_stays d_is.
      let st_rq : Stays r q (run.base + h) some = stays_on r u q (run.base + h) (run.base + (h + 2)) some some (omega arith) (omega arith) st_u d_is.1 in
      weaken game n again inv run frames w3.ticks q _ (for_numbers again here line env x b va vc vd w3) _ _ _ (λ flow z y. (after_closed run scope flow z y.0, unmoved_on r q z run.base scope (unmoved_below r q run.base (run.base + h) scope (omega arith) st_rq.slots) y.1))
      (numbers_goes line x b scope env va vc vd p3 end (end + exit) q w3 (omega (arith, lw, l1, l2, l3)) (omega (arith, ee, length-append xs (ys ++ (zs ++ loop)), length-append ys (zs ++ loop), length-append zs loop)) st3 (holds_stays r q run.base run.cell_base scope env (run.base + h) some (omega arith) (omega arith) st_rq hs)
      (d_is.1.slots (run.base + h) (omega arith) ∙ c_is.1.slots (run.base + h) (omega arith) ∙ a_is.0) (d_is.1.slots (run.base + (h + 1)) (omega arith) ∙ c_is.0) d_is.0))))

  -- ---- assignments

  single_assigned : (e : Ends (List Value)) (f : List Value → World → Ends Env)
      → ((e >>> f) >>> λ env w. gives (normal env) w) ≡ (e >>> (λ vs w. gives vs w) >>> λ vs w. f vs w >>> λ env w. gives (normal env) w)
  single_assigned (gives vs w) f = refl
  single_assigned (fails v w) f = refl
  single_assigned (out_of_steps w) f = refl
  single_assigned (needs ask w) f = refl

  abbrev Assigns : (line : ℕ) → (ts es : Exprs) → Scope → List Instr → Type 0
  Assigns line ts es scope xs =
      (later : List Bytes) (pc end exit : ℕ) (env : Env) (r : Registers) (w : World) → suc w.ticks ≤ n → end ≡ pc + length xs → Stands code pc xs → Holds r run.base run.cell_base scope env
      → Goes P w.ticks frames run.base run.cell_base r (going P run pc frames w r) (exec again here later (assign line ts es) env w) (Ran scope scope r) (flow_at P run end (end + exit) frames)

  -- all targets, then all values, and then what they are assigned
  abbrev apart_code : (ts es : Exprs) → Scope → List Instr
  apart_code ts es scope =
      let at = slot_count scope in
      let from = at + widths ts in
      targets_code ts file scope at ++ (exprs_code es file scope from ++ (fitted from (target_count ts) (count es) (tailed es) ++ stores ts (from + target_count ts) scope at from))

  assign_apart : (line : ℕ) (ts es : Exprs) (scope : Scope) → Assigns line ts es scope (apart_code ts es scope)
  assign_apart line ts es scope later pc end exit env r w lw ee st hs =
      let at = slot_count scope in
      let from = at + widths ts in
      let some = run.cell_base + cell_count scope in
      let above = from + target_count ts in
      let xs = targets_code ts file scope at in
      let vc = exprs_code es file scope from in
      let fit = fitted from (target_count ts) (count es) (tailed es) in
      let ys = stores ts above scope at from in
      let p1 = pc + length xs in
      let p2 = p1 + length (vc ++ fit) in
      let st1 : Stands code p1 ((vc ++ fit) ++ ys) = subst (λ l. Stands code p1 l) (sym (append_assoc vc fit ys)) (back code pc p1 xs _ refl st) in
      both P n w.ticks (omega (arith, lw)) frames run.base run.cell_base r _ (targets again here ts env w) _ _ (λ parts w. evals again here es env w >>> λ vs w. assign_all again here parts vs env w >>> λ env w. gives (normal env) w) _ _ (targets_goes game n again inv run frames ts pc p1 at scope env r w (omega (arith, lw)) (omega arith) refl (front code pc xs _ st) hs)
      (λ parts w t l1 t_stays f.
      let hs_t = holds_stays r t run.base run.cell_base scope env (run.base + at) some (omega arith) (omega arith) f.1 hs in
      both P n w.ticks l1 frames run.base run.cell_base t _ (evals again here es env w) _ _ (λ vs w. assign_all again here parts vs env w >>> λ env w. gives (normal env) w) _ _ (values_goes game n again inv run frames es (target_count ts) p1 p2 from scope env t w l1 (omega arith) refl (front code p1 (vc ++ fit) ys st1) hs_t)
      (λ vs w u l2 u_stays v_is.
      both P n w.ticks l2 frames run.base run.cell_base u _ (assign_all again here parts vs env w) _ _ (λ env w. gives (normal env) w) _ _
      (stores_goes game n again inv run frames ts parts vs at from above scope env p2 end u w l2 (omega arith) (omega arith) (omega arith) (omega arith) (omega (arith, ee, length-append xs (vc ++ (fit ++ ys)), length-append vc (fit ++ ys), length-append fit ys, length-append vc fit)) (back code p1 p2 (vc ++ fit) ys refl st1) (holds_stays t u run.base run.cell_base scope env (run.base + from) some (omega arith) (omega arith) v_is.1 hs_t)
      (all_stay game n again inv run frames ts parts scope at t u (λ k a b. v_is.1.slots (run.base + k) (omega (arith, b))) f.0) v_is.0)
      (λ env' w z l3 z_stays kept.
      let st_u : Unmoved r u run.base scope = unmoved_below r u run.base (run.base + at) scope (omega arith) (λ k l. v_is.1.slots k (omega (arith, l)) ∙ f.1.slots k l) in
      (z, omega arith, stays_self z run.base run.cell_base, (kept.holds, unmoved_on r u z run.base scope st_u kept.unmoved), comes_self _))))

  -- one local that stands in a slot
  assign_name : (o : Option Seat) (line m : ℕ) (x : Bytes) (e : Expr) (scope : Scope) → seat_of scope x ≡ o → Assigns line (expr_and (name m x) no_exprs) (expr_and e no_exprs) scope (in_place (seat_slot o) (expr_code e file scope (slot_count scope)) (apart_code (expr_and (name m x) no_exprs) (expr_and e no_exprs) scope))
  assign_name None line m x e scope se later pc end exit env r w lw ee st hs = assign_apart line (expr_and (name m x) no_exprs) (expr_and e no_exprs) scope later pc end exit env r w lw ee st hs
  assign_name (Some (at_cell k)) line m x e scope se later pc end exit env r w lw ee st hs = assign_apart line (expr_and (name m x) no_exprs) (expr_and e no_exprs) scope later pc end exit env r w lw ee st hs
  assign_name (Some (at_slot k)) line m x e scope se later pc end exit env r w lw ee st hs =
      subst (λ y. Goes P w.ticks frames run.base run.cell_base r (going P run pc frames w r) y (Ran scope scope r) (flow_at P run end (end + exit) frames)) (single_assigned (eval again here e env w) (λ vs w. assign_all again here (name_target m x (find x env) ∷ []) vs env w))
      (both P n w.ticks (omega (arith, lw)) frames run.base run.cell_base r _ (eval again here e env w >>> λ vs w. assign_all again here (name_target m x (find x env) ∷ []) vs env w) _ _ (λ env w. gives (normal env) w) _ _ (in_place_goes game n again inv run frames m x k e pc end scope env r w (omega (arith, lw)) se ee st hs)
      (λ env' w t l1 t_stays h. (t, omega arith, stays_self t run.base run.cell_base, h, comes_self _)))

  assign_one : (line : ℕ) (t e : Expr) (scope : Scope) → Assigns line (expr_and t no_exprs) (expr_and e no_exprs) scope (in_place (ready_slot t scope) (expr_code e file scope (slot_count scope)) (apart_code (expr_and t no_exprs) (expr_and e no_exprs) scope))
  assign_one line (name m x) e scope = assign_name (seat_of scope x) line m x e scope refl
  assign_one line (nil m) e scope = assign_apart line (expr_and (nil m) no_exprs) (expr_and e no_exprs) scope
  assign_one line (true_ m) e scope = assign_apart line (expr_and (true_ m) no_exprs) (expr_and e no_exprs) scope
  assign_one line (false_ m) e scope = assign_apart line (expr_and (false_ m) no_exprs) (expr_and e no_exprs) scope
  assign_one line (number m z) e scope = assign_apart line (expr_and (number m z) no_exprs) (expr_and e no_exprs) scope
  assign_one line (str m y) e scope = assign_apart line (expr_and (str m y) no_exprs) (expr_and e no_exprs) scope
  assign_one line (dots m) e scope = assign_apart line (expr_and (dots m) no_exprs) (expr_and e no_exprs) scope
  assign_one line (function m f) e scope = assign_apart line (expr_and (function m f) no_exprs) (expr_and e no_exprs) scope
  assign_one line (index m a b) e scope = assign_apart line (expr_and (index m a b) no_exprs) (expr_and e no_exprs) scope
  assign_one line (call m f es) e scope = assign_apart line (expr_and (call m f es) no_exprs) (expr_and e no_exprs) scope
  assign_one line (method m o y es) e scope = assign_apart line (expr_and (method m o y es) no_exprs) (expr_and e no_exprs) scope
  assign_one line (table m fs) e scope = assign_apart line (expr_and (table m fs) no_exprs) (expr_and e no_exprs) scope
  assign_one line (unary m op a) e scope = assign_apart line (expr_and (unary m op a) no_exprs) (expr_and e no_exprs) scope
  assign_one line (binary m op a b) e scope = assign_apart line (expr_and (binary m op a b) no_exprs) (expr_and e no_exprs) scope
  assign_one line (paren m a) e scope = assign_apart line (expr_and (paren m a) no_exprs) (expr_and e no_exprs) scope

  assign_goes : (line : ℕ) (ts es : Exprs) → Does game n again run frames (assign line ts es)
  assign_goes line (expr_and t no_exprs) (expr_and e no_exprs) later pc end exit scope = assign_one line t e scope later pc end exit
  assign_goes line no_exprs es later pc end exit scope = assign_apart line no_exprs es scope later pc end exit
  assign_goes line (expr_and t (expr_and u ts)) es later pc end exit scope = assign_apart line (expr_and t (expr_and u ts)) es scope later pc end exit
  assign_goes line (expr_and t no_exprs) no_exprs later pc end exit scope = assign_apart line (expr_and t no_exprs) no_exprs scope later pc end exit
  assign_goes line (expr_and t no_exprs) (expr_and e (expr_and f es)) later pc end exit scope = assign_apart line (expr_and t no_exprs) (expr_and e (expr_and f es)) scope later pc end exit

  function_goes : (line : ℕ) (e : Expr) (f : Func) → Does game n again run frames (function_stat line e f)
  function_goes line e f later pc end exit scope env r w lw ee st hs =
      let at = slot_count scope in
      let from = at + width e in
      let some = run.cell_base + cell_count scope in
      let xs = target_code e file scope at in
      let cs = expr_code (function line f) file scope from from in
      let ys = store e (from + 1) scope (slot at) (slot (at + 1)) (slot from) in
      let p1 = pc + length xs in
      let st1 = back code pc p1 xs _ refl st in
      both P n w.ticks (omega (arith, lw)) frames run.base run.cell_base r _ (target again here e env w) _ _ (λ part w. one (eval again here (function line f) env) w >>> λ v w. assign_to again here part v env w >>> λ env w. gives (normal env) w) _ _ (target_goes game n again inv run frames e pc p1 at scope env r w (omega (arith, lw)) (omega arith) refl (front code pc xs _ st) hs)
      (λ part w t l1 t_stays fit.
      let hs_t = holds_stays r t run.base run.cell_base scope env (run.base + at) some (omega arith) (omega arith) fit.1 hs in
      both P n w.ticks l1 frames run.base run.cell_base t _ (one (eval again here (function line f) env) w) (λ v q. (q.slots (run.base + from) ≡ v) × Stays t q (run.base + from) some) (λ v w q. going P run (p1 + 1) frames w q) (λ v w. assign_to again here part v env w >>> λ env w. gives (normal env) w) _ _ (evaluated game n again inv run frames (function line f) (expr_goes game n again inv run frames (function line f)) p1 (p1 + 1) from scope env t w l1 (omega arith) refl (front code p1 cs ys st1) hs_t)
      (λ v w u l2 u_stays v_is.
      both P n w.ticks l2 frames run.base run.cell_base u _ (assign_to again here part v env w) _ _ (λ env w. gives (normal env) w) _ _
      (target_stored game n again inv run frames e part v at from (from + 1) scope env (p1 + 1) end u w l2 (omega arith) (omega (arith, ee, length-append xs (cs ++ ys), length-append cs ys)) (back code p1 (p1 + 1) cs ys refl st1) (holds_stays t u run.base run.cell_base scope env (run.base + from) some (omega arith) (omega arith) v_is.1 hs_t)
      (fits_stays game n again inv run frames e part scope at t u (λ k a b. v_is.1.slots (run.base + k) (omega (arith, b))) fit.0) v_is.0)
      (λ env' w z l3 z_stays kept.
      let st_u : Unmoved r u run.base scope = unmoved_below r u run.base (run.base + at) scope (omega arith) (λ k l. v_is.1.slots k (omega (arith, l)) ∙ fit.1.slots k l) in
      (z, omega arith, stays_self z run.base run.cell_base, (kept.holds, unmoved_on r u z run.base scope st_u kept.unmoved), comes_self _))))

  -- ---- local functions

  kind_not : (b : Bool) → kind_of b ≡ outside → ⊥
  kind_not true e = subst NotOutside (sym e) tt
    where
      NotOutside : Kind → Type 0
      NotOutside in_slot = ⊥
      NotOutside in_cell = ⊥
      NotOutside outside = Unit {0}
  kind_not false e = subst NotOutside (sym e) tt
    where
      NotOutside : Kind → Type 0
      NotOutside in_slot = ⊥
      NotOutside in_cell = ⊥
      NotOutside outside = Unit {0}

  local_function_goes : (line : ℕ) (x : Bytes) (f : Func) → Does game n again run frames (local_function line x f)
  local_function_goes line x f later pc end exit scope env r w lw ee st hs =
      let at = slot_count scope in
      let captured = func_names f ++ later in
      let b = is_captured [] captured x in
      let k = kind_of b in
      let inner = named x k ∷ scope in
      let some = run.cell_base + cell_count inner in
      let ds = declare_code (x ∷ []) captured scope in
      let cs = expr_code (function line f) file inner (suc at) at in
      let ls = local_code (seat_of inner x) at in
      let r0 = put_slot r (run.base + at) Value.nil in
      let st0 : Stays r r0 (run.base + at) (run.cell_base + cell_count scope) = stays_put r r (run.base + at) (run.cell_base + cell_count scope) (run.base + at) Value.nil (omega arith) (stays_self r (run.base + at) (run.cell_base + cell_count scope)) in
      let hs0 = holds_stays r r0 run.base run.cell_base scope env (run.base + at) (run.cell_base + cell_count scope) (omega arith) (omega arith) st0 hs in
      let p1 = pc + 1 + length ds in
      let st1 = back code (pc + 1) p1 ds _ refl st.1 in
      let ls_is : length ls ≡ length (local_code (Some (seat_behind k scope)) at) = ap (λ o. length (local_code o at)) (seat_is x k scope) in
      first_stays P w.ticks frames run.base run.cell_base r r0 _ (exec again here later (local_function line x f) env w) _ _ (stays_put r r run.base run.cell_base (run.base + at) Value.nil (omega arith) (stays_self r run.base run.cell_base))
      (first_comes P w.ticks frames run.base run.cell_base r0 _ (going P run (pc + 1) frames w r0) (exec again here later (local_function line x f) env w) _ _ (one_step P run pc frames r w (i.load at (constant Value.nil)) _ st.0 refl)
      (subst (λ e. Goes P w.ticks frames run.base run.cell_base r0 (going P run (pc + 1) frames w r0) e (Ran scope inner r) (flow_at P run end (end + exit) frames)) (sym (single_on game n again inv run frames (make_slot b Value.nil w) (λ s w. gives ((x, s) ∷ env) w) (λ env1 w. one (eval again here (function line f) env1) w >>> λ v w. set_local x v env1 w >>> λ env2 w. gives (normal env2) w)))
      (both P n w.ticks (omega (arith, lw)) frames run.base run.cell_base r0 _ (make_slot b Value.nil w) _ _ (λ s w. one (eval again here (function line f) ((x, s) ∷ env)) w >>> λ v w. set_local x v ((x, s) ∷ env) w >>> λ env2 w. gives (normal env2) w) _ _
      (one_declared game n again inv run frames b x Value.nil (pc + 1) p1 scope env r0 w (omega (arith, length-append (cell_code k scope) [])) (front code (pc + 1) (cell_code k scope) [] (front code (pc + 1) ds _ st.1)) hs0 (put_same r.slots (run.base + at) Value.nil))
      (λ s w t l1 t_stays h.
      let env1 = (x, s) ∷ env in
      let st_t : Stays r0 t (run.base + at) (run.cell_base + cell_count scope) = record { slots = λ j l. ap (λ q. q j) h.1; cells = h.2 } in
      let hs_t = holds_stays r0 t run.base run.cell_base scope env (run.base + at) (run.cell_base + cell_count scope) (omega arith) (omega arith) st_t hs0 in
      both P n w.ticks l1 frames run.base run.cell_base t _ (one (eval again here (function line f) env1) w) (λ v u. Got t u run.base some (suc at) at v) (λ v w u. going P run (p1 + 1) frames w u) (λ v w. set_local x v env1 w >>> λ env2 w. gives (normal env2) w) _ _
      (both P n w.ticks l1 frames run.base run.cell_base t _ (eval again here (function line f) env1 w) (λ vs u. Got t u run.base some (suc at) at (first vs) × LoneIf false vs) (λ vs w u. going P run (p1 + 1) frames w u) (λ vs w. gives (first vs) w) (λ v u. Got t u run.base some (suc at) at v) (λ v w u. going P run (p1 + 1) frames w u) (expr_goes game n again inv run frames (function line f) p1 (p1 + 1) (suc at) at inner env1 t w l1 (omega (arith, slots_one game n again inv run frames b x scope)) refl (front code p1 cs ls st1) h.0)
      (λ vs w u l2 u_stays g. (u, omega arith, stays_self u run.base run.cell_base, g.0, comes_self _)))
      (λ v w u l2 u_stays g.
      let st_u : Stays t u (run.base + at) (run.cell_base + cell_count scope) = record { slots = λ j l. g.others j (omega (arith, l)) (differs j (run.base + at) l); cells = λ j l. g.cells j (omega (arith, l, cells_one game n again inv run frames b x scope)) } in
      both P n w.ticks l2 frames run.base run.cell_base u _ (set_local x v env1 w) _ _ (λ env2 w. gives (normal env2) w) _ _
      (placed game n again inv run frames k s x v scope env (p1 + 1) end t u w (omega (arith, ee, length-append ds (cs ++ ls), length-append cs ls, ls_is)) (subst (λ o. Stands code (p1 + 1) (local_code o at)) (seat_is x k scope) (back code p1 (p1 + 1) cs ls refl st1)) h.0.1 hs_t g (kind_not b))
      (λ env2 w z l3 z_stays y.
      (z, omega arith, stays_self z run.base run.cell_base, (y.0, unmoved_below r z run.base (run.base + at) scope (omega arith) (λ j l. ap (λ q. q j) y.1 ∙ st_u.slots j l ∙ st_t.slots j l ∙ st0.slots j l)), comes_self _)))))))

  -- a generic loop
  each_stat : (line : ℕ) (xs : List Bytes) (es : Exprs) (b : Block) → Does game n again run frames (gen_for line xs es b)
  each_stat line xs es b = each_begins game n again claim run frames line xs es b

  -- ---- all statements

  mutual
    pub stat_goes : (s : Stat) → Does game n again run frames s
    stat_goes (assign line ts es) = assign_goes line ts es
    stat_goes (local line xs es) = local_goes line xs es
    stat_goes (call_stat line e) = call_goes line e
    stat_goes (do_block line b) = do_goes line b (block_goes b)
    stat_goes (while_loop line e b) = while_stat line e b
    stat_goes (repeat_loop line b e) = repeat_stat line b e
    stat_goes (if_stat line arms) = λ later pc end exit scope env r w lw ee st hs. weaken game n again inv run frames w.ticks r _ (choose again here arms env w) _ _ _ (λ flow t x. (after_closed run scope flow t x.0, x.1)) (arms_goes arms pc end exit scope env r w (omega (arith, lw)) ee st hs)
    stat_goes (num_for line x a c b) = num_for_goes line x a c b
    stat_goes (num_for_by line x a c d b) = num_for_by_goes line x a c d b
    stat_goes (gen_for line xs es b) = each_stat line xs es b
    stat_goes (function_stat line e f) = function_goes line e f
    stat_goes (local_function line x f) = local_function_goes line x f
    stat_goes (return_stat line es) = return_goes line es
    stat_goes (break_stat line) = break_goes line

    pub block_goes : (b : Block) → Runs game n again run frames b
    block_goes no_stats = λ after pc end exit scope env r w lw ee st hs. (r, omega arith, stays_self r run.base run.cell_base, (hs, unmoved_self r run.base scope), goes_at P run frames pc end w r (omega (arith, ee)))
    block_goes (stat_and s b) = λ after pc end exit scope env r w lw ee st hs.
        let later = block_names false b after in
        let inner = scope_behind s later scope in
        let rest = block_code b after exit file inner in
        let ss = stat_code s later (length rest + exit) file scope in
        let p1 = pc + 1 + length ss in
        let more = behind_more s later scope in
        first_comes P w.ticks frames run.base run.cell_base r _ (stepping P w (ticking w.ticks (state_of w) (λ st. on (record { active = lua (at_pc run (pc + 1)); frames = frames; registers = r; state = st })))) (take_tick w.ticks w >>> λ a w. exec again here later s env w >>> λ flow w. go_on flow (λ env. block again here after b env) w) _ _ (one_step P run pc frames r w i.tick _ st.0 refl)
        (tick_goes P w.ticks w.ticks frames run.base run.cell_base r w _ _ _ _ (omega arith) (λ w' lt.
        both P w'.ticks w'.ticks (omega arith) frames run.base run.cell_base r _ (exec again here later s env w') _ _ (λ flow w. go_on flow (λ env. block again here after b env) w) _ _ (stat_goes s later (pc + 1) p1 (length rest + exit) scope env r w' (omega (arith, lt, lw)) refl (front code (pc + 1) ss rest st.1) hs)
        (λ flow w1 t l1 t_stays x.
        go_on_goes flow s b after (block_goes b) p1 end exit scope inner more.0 r t w1 (omega (arith, l1, lt, lw)) more.1 (omega (arith, ee, length-append ss rest)) (back code (pc + 1) p1 ss rest refl st.1) x)) refl)

    pub arms_goes : (arms : Arms) → Chooses game n again run frames arms
    arms_goes no_else = λ pc end exit scope env r w lw ee st hs. (r, omega arith, stays_self r run.base run.cell_base, (hs, unmoved_self r run.base scope), goes_at P run frames pc end w r (omega (arith, ee)))
    arms_goes (else_block b) = λ pc end exit scope env r w lw ee st hs. scoped_goes game n again inv run frames b (block_goes b) pc end exit scope scope env env [] r w lw refl ee st hs hs
    arms_goes (arm_and e b arms) = arm_goes e b arms (block_goes b) (arms_goes arms)
