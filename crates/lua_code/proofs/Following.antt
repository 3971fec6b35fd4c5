-- The machine follows the meaning.
use Rattle.std.proofs.Common.{ℕ, zero, suc, ◌+◌, ◌≡◌, ◌≤◌, ◌<◌, refl, sym, ap, ◌∙◌, subst, List, [], ◌∷◌, ◌++◌, length, Some, Bool, true, false, arith, slice_get, length-append}
use Rattle.lua_tree.specs.Tree.{Bytes, Func, func, Block}
use Rattle.lua_meaning.specs.Value.{Value}
use Rattle.lua_meaning.specs.Store.{Store, Closure}
use Rattle.lua_meaning.specs.Names.{captured_in}
use Rattle.lua_meaning.specs.Packing.{unpack_all}
use Rattle.lua_meaning.specs.World.{World, Ends, gives, fails, out_of_steps, needs, ◌>>>◌}
use Rattle.lua_meaning.specs.Locals.{Env, Flow, normal, broken, returned, values_of, declare, outside}
use Rattle.lua_meaning.specs.Calls as calls
use Rattle.lua_meaning.specs.Calls.{Calls, Here, Later, Task, invoke, while_turn, repeat_turn, count_turn, each_turn, clear_turn}
use Rattle.lua_meaning.specs.Control.{Game}
use Rattle.lua_meaning.specs.Statements.{block}
use Rattle.lua_meaning.specs.Running as running
use Rattle.lua_meaning.specs.Running.{run_function, run_callee, run_library, task, within}
use Rattle.lua_meaning.specs.Run.{first_store, first_world, meant}
use Rattle.lua_code.specs.Instr.{Instr, instrs_of, list_of, code_of, file_of}
use Rattle.lua_code.specs.Scope.{Scope, slot_count, cell_count, declared, declare_code, around}
use Rattle.lua_code.specs.Code.{last, block_code, func_code, chunk_code}
use Rattle.lua_code.specs.State.{put, put_all, Registers, Running, Frame, lua, on}
use Rattle.lua_code.specs.Frames as frames
use Rattle.lua_code.specs.Frames.{places, begun, entry, finish}
use Rattle.lua_code.specs.Natives.{Program, serve}
use Rattle.lua_code.specs.Act.{at_pc, turns}
use Rattle.lua_code.specs.Follows.{cells_of, names_of, state_of, program_of, callee_of, end_of, no_registers, Follows}
use Rattle.lua_code.proofs.Registers.{below_self, below_all, below_values, put_same, Stays, stays_self, Holds}
use Rattle.lua_code.proofs.Goes.{Thread, comes_self, Stands, front, back, whole, stepping, going, left_at, Goes, first_comes, first_stays, both, then_on, one_step}
use Rattle.lua_code.proofs.Landing.{here_of}
use Rattle.lua_code.proofs.Scopes.{Closed, Unmoved, Rowed, rowed_put}
use Rattle.lua_code.proofs.Statements.{declare_goes}
use Rattle.lua_code.proofs.Claims.{flow_at, while_body, each_turn_code, Claim}
use Rattle.lua_code.proofs.Loops.{invokes, while_goes, repeat_goes}
use Rattle.lua_code.proofs.Counting.{count_goes}
use Rattle.lua_code.proofs.Each.{each_goes}
use Rattle.lua_code.proofs.Blocks.{block_goes}
use Rattle.lua_code.proofs.Serving.{serve_goes, clearing}

-- ---- a function's code, cells and locals

list_same : (xs : List Instr) → list_of (instrs_of xs) ≡ xs
list_same [] = refl
list_same (x ∷ xs) = ap (λ l. x ∷ l) (list_same xs)

extra_is : (varargs : Bool) (params : List Bytes) (args : List Value) → frames.extra_of varargs (length params) args ≡ running.extra_of varargs params args
extra_is true params args = refl
extra_is false params args = refl

-- the last of some cells stands behind the others
put_last : (s : ℕ → ℕ) (at : ℕ) (cs : List ℕ) (c : ℕ) → put_all s at (cs ++ c ∷ []) (at + length cs) ≡ c
put_last s at [] c = let e : at ≡ at + 0 = omega arith in subst (λ k. put s at c k ≡ c) e (put_same s at c)
put_last s at (d ∷ cs) c = let e : suc at + length cs ≡ at + suc (length cs) = omega arith in subst (λ k. put_all (put s at d) (suc at) (cs ++ c ∷ []) k ≡ c) e (put_last (put s at d) (suc at) cs c)

put_front : (s : ℕ → ℕ) (at : ℕ) (cs : List ℕ) (c k : ℕ) → k < at + length cs → put_all s at (cs ++ c ∷ []) k ≡ put_all s at cs k
put_front s at [] c k l = below_all s s at at (c ∷ []) (omega arith) (below_self s at) k (omega (arith, l))
put_front s at (d ∷ cs) c k l = put_front (put s at d) (suc at) cs c k (omega (arith, l))

no_slots : (entries : List (Bytes × ℕ)) → slot_count (around (names_of entries)) ≡ 0
no_slots [] = refl
no_slots (e ∷ entries) = no_slots entries

all_cells : (entries : List (Bytes × ℕ)) → cell_count (around (names_of entries)) ≡ length (cells_of entries)
all_cells [] = refl
all_cells (e ∷ entries) = ap suc (all_cells entries) ∙ (let q : suc (length (cells_of entries)) ≡ length (cells_of entries ++ e.1 ∷ []) = omega (arith, length-append (cells_of entries) (e.1 ∷ [])) in q)

-- cells that are the same stand for the same locals
same_cells : (r t : Registers) (base cell_base : ℕ) (entries : List (Bytes × ℕ)) → ((k : ℕ) → k < cell_base + cell_count (around (names_of entries)) → t.cells k ≡ r.cells k) → Holds r base cell_base (around (names_of entries)) (outside entries) → Holds t base cell_base (around (names_of entries)) (outside entries)
same_cells r t base cell_base [] h g = g
same_cells r t base cell_base (e ∷ entries) h g = (refl, h (cell_base + cell_count (around (names_of entries))) (omega arith) ∙ g.1, same_cells r t base cell_base entries (λ k l. h k (omega (arith, l))) g.2)

with_cells_of : Registers → (ℕ → ℕ) → Registers
with_cells_of r cells = record { slots = r.slots; cells = cells; tail = r.tail }

around_holds : (slots : ℕ → Value) (tail : List Value) (cells : ℕ → ℕ) (base cell_base : ℕ) (entries : List (Bytes × ℕ)) → Holds (record { slots = slots; cells = put_all cells cell_base (cells_of entries); tail = tail }) base cell_base (around (names_of entries)) (outside entries)
around_holds slots tail cells base cell_base [] = tt
around_holds slots tail cells base cell_base (e ∷ entries) = (
  refl,
  ap (λ k. put_all cells cell_base (cells_of entries ++ e.1 ∷ []) (cell_base + k)) (all_cells entries) ∙ put_last cells cell_base (cells_of entries) e.1,
  same_cells (record { slots = slots; cells = put_all cells cell_base (cells_of entries); tail = tail }) (record { slots = slots; cells = put_all cells cell_base (cells_of entries ++ e.1 ∷ []); tail = tail }) base cell_base entries (λ k l. put_front cells cell_base (cells_of entries) e.1 k (omega (arith, l, all_cells entries))) (around_holds slots tail cells base cell_base entries),
)

-- ---- the end of a body

body_ends : (program : Program) (run : Running) (fs : List Frame) (m end : ℕ) (flow : Flow) (w : World) (t : Registers) → w.ticks ≤ m → slice_get (code_of run.code) end ≡ Some last
    → Goes program m fs run.base run.cell_base t (flow_at program run end end fs flow w t) (gives flow w) (λ flow t. Unit {0}) (λ flow w t. left_at program fs (values_of flow) w t)
body_ends program run fs m end (normal env) w t l st = (t, l, stays_self t run.base run.cell_base, tt, one_step program run end fs t w last _ st refl)
body_ends program run fs m end (broken env) w t l st = (t, l, stays_self t run.base run.cell_base, tt, one_step program run end fs t w last _ st refl)
body_ends program run fs m end (returned vs) w t l st = (t, l, stays_self t run.base run.cell_base, tt, comes_self _)

module _ (game : Game) (n : ℕ) (again : Later) (claim : (t : Task) → Claim game n again t) where
  abbrev P : Program
  P = program_of game

  -- a body that runs from its beginning
  body_goes : (run : Running) (fs : List Frame) (b : Block) (scope : Scope) (env : Env) (pc : ℕ) (r : Registers) (w : World) → w.ticks ≤ n → Stands (code_of run.code) pc (block_code b [] 0 (file_of run.code) scope ++ last ∷ []) → Holds r run.base run.cell_base scope env
      → Goes P w.ticks fs run.base run.cell_base r (going P run pc fs w r) (block again (here_of run fs) [] b env w) (λ flow t. Unit {0}) (λ flow w t. left_at P fs (values_of flow) w t)
  body_goes run fs b scope env pc r w lw st hs =
      let bs = block_code b [] 0 (file_of run.code) scope in
      let end = pc + length bs in
      let e0 : end + 0 ≡ end = omega arith in
      then_on P w.ticks w.ticks (omega arith) fs run.base run.cell_base r _ (block again (here_of run fs) [] b env w) _ _ _ _ (block_goes game n again claim run fs b [] pc end 0 scope env r w lw refl (front (code_of run.code) pc bs _ st) hs)
      (λ flow w1 t l1 t_stays a.
      subst (λ x. Goes P w1.ticks fs run.base run.cell_base t (flow_at P run end x fs flow w1 t) (gives flow w1) (λ flow t. Unit {0}) (λ flow w t. left_at P fs (values_of flow) w t)) (sym e0)
      (body_ends P run fs w1.ticks end flow w1 t (omega arith) (back (code_of run.code) pc end bs _ refl st).0))

  function_runs : (closure : Closure) (f : Func) (args : List Value) (fs : List Frame) (base cell_base : ℕ) (r : Registers) (w : World) → w.ticks ≤ n
      → Goes P w.ticks fs base cell_base r (stepping P w (on (begun (frames.runs (func_code f closure.file (names_of closure.cells)) (cells_of closure.cells)) args fs base cell_base r (state_of w)))) (run_function again closure f args (places fs) w) (λ flow t. Unit {0}) (λ flow w t. left_at P fs (values_of flow) w t)
  function_runs closure (func line params varargs body) args fs base cell_base r w lw =
      let cap = captured_in body in
      let sc = around (names_of closure.cells) in
      let inner = declared params cap sc in
      let ds = declare_code params cap sc in
      let bs = block_code body [] 0 closure.file inner ++ last ∷ [] in
      let code = func_code (func line params varargs body) closure.file (names_of closure.cells) in
      let run : Running = record { code = code; pc = 0; base = base; cell_base = cell_base; extra = frames.extra_of varargs (length params) args } in
      let t = entry code (cells_of closure.cells) args base cell_base r in
      let st : Stands (code_of code) 0 (ds ++ bs) = subst (λ c. Stands c 0 (ds ++ bs)) (sym (list_same (ds ++ bs))) (whole (ds ++ bs)) in
      let st_t : Stays r t base cell_base = record { slots = below_values r.slots r.slots base base (length params) args (omega arith) (below_self r.slots base); cells = below_all r.cells r.cells cell_base cell_base (cells_of closure.cells) (omega arith) (below_self r.cells cell_base) } in
      let at_base : base ≡ base + slot_count sc = omega (arith, no_slots closure.cells) in
      let p1 = 0 + length ds in
      first_stays P w.ticks fs base cell_base r t _ (run_function again closure (func line params varargs body) args (places fs) w) _ _ st_t
      (both P n w.ticks lw fs base cell_base t _ (declare params cap args (outside closure.cells) w) _ _ (λ env w. block again (record { file = closure.file; extra = running.extra_of varargs params args; calls = places fs }) [] body env w) _ _
      (declare_goes game n again (invokes game n again claim) run fs params cap args 0 p1 sc (outside closure.cells) t w refl (front (code_of code) 0 ds bs st) (around_holds t.slots t.tail r.cells base cell_base closure.cells) (subst (λ k. Rowed t.slots k (length params) args) at_base (rowed_put r.slots base (length params) args)))
      (λ env w1 u l1 u_stays h.
      subst (λ x. Goes P w1.ticks fs base cell_base u (going P run p1 fs w1 u) (block again (record { file = closure.file; extra = x; calls = places fs }) [] body env w1) (λ flow t. Unit {0}) (λ flow w t. left_at P fs (values_of flow) w t)) (extra_is varargs params args)
      (body_goes run fs body inner env p1 u w1 l1 (back (code_of code) 0 p1 ds bs refl st) h.0)))

  callee_runs : (callee : calls.Callee) (args : List Value) (fs : List Frame) (base cell_base : ℕ) (r : Registers) (w : World) → w.ticks ≤ n
      → Goes P w.ticks fs base cell_base r (stepping P w (on (begun (callee_of callee) args fs base cell_base r (state_of w)))) (run_callee game again callee args (places fs) w) (λ flow t. Unit {0}) (λ flow w t. left_at P fs (values_of flow) w t)
  callee_runs (calls.made closure) args fs base cell_base r w lw = function_runs closure closure.node args fs base cell_base r w lw
  callee_runs (calls.library f) args fs base cell_base r w lw =
      first_comes P w.ticks fs base cell_base r _ (stepping P w (serve P f args base cell_base fs r (state_of w))) (run_library game again f args (places fs) w >>> λ vs w. gives (returned vs) w) _ _ (λ k. (suc k, refl))
      (both P w.ticks w.ticks (omega arith) fs base cell_base r _ (run_library game again f args (places fs) w) _ _ (λ vs w. gives (returned vs) w) _ _
      (serve_goes game n again (invokes game n again claim) base cell_base fs (λ fs base cell_base r w l. claim clear_turn fs base cell_base r w l) f args r w lw)
      (λ vs w1 t l1 t_stays u. (t, omega arith, stays_self t base cell_base, tt, comes_self _)))
  callee_runs (calls.chunk file b) args fs base cell_base r w lw =
      let code = chunk_code file b in
      let bs = block_code b [] 0 file [] ++ last ∷ [] in
      let run : Running = record { code = code; pc = 0; base = base; cell_base = cell_base; extra = args } in
      let st : Stands (code_of code) 0 bs = subst (λ c. Stands c 0 bs) (sym (list_same bs)) (whole bs) in
      body_goes run fs b [] [] 0 r w lw st tt

-- ---- each task

claims : (game : Game) (n : ℕ) (t : Task) → Claim game n (within game n) t
claims game zero (invoke callee args calls) = λ fs base cell_base r w pe lw. absurd (let e : ⊥ = omega (arith, lw) in e)
claims game zero (while_turn here env e b) = λ run fs scope pc end exit r w he lw ee st hs. absurd (let e : ⊥ = omega (arith, lw) in e)
claims game zero (repeat_turn here env b e) = λ run fs scope pc end exit r w he lw ee st hs. absurd (let e : ⊥ = omega (arith, lw) in e)
claims game zero (count_turn here env x b v m k) = λ run fs scope any pc end exit r w he lw ee st hs. absurd (let e : ⊥ = omega (arith, lw) in e)
claims game zero (each_turn here env line xs b f s v) = λ run fs scope pc end exit r w he lw ee st hs three. absurd (let e : ⊥ = omega (arith, lw) in e)
claims game zero clear_turn = λ fs base cell_base r w lw. absurd (let e : ⊥ = omega (arith, lw) in e)
claims game (suc n) (invoke callee args calls) = λ fs base cell_base r w pe lw.
    subst (λ calls. Goes (program_of game) w.ticks fs base cell_base r (stepping (program_of game) w (on (begun (callee_of callee) args fs base cell_base r (state_of w)))) (run_callee game (within game n) callee args calls w) (λ flow t. Unit {0}) (λ flow w t. left_at (program_of game) fs (values_of flow) w t)) pe
    (callee_runs game n (within game n) (claims game n) callee args fs base cell_base r w (omega (arith, lw)))
claims game (suc n) (while_turn here env e b) = λ run fs scope pc end exit r w he lw ee st hs.
    subst (λ h. Goes (program_of game) w.ticks fs run.base run.cell_base r (going (program_of game) run (pc + length (while_body e b (file_of run.code) scope)) fs w r) (task game (within game n) (while_turn h env e b) w) (λ flow t. Closed run scope flow t × Unmoved r t run.base scope) (flow_at (program_of game) run end exit fs)) (sym he)
    (while_goes game n (within game n) (claims game n) run fs e b (block_goes game n (within game n) (claims game n) run fs b) scope env pc end exit r w (omega (arith, lw)) ee st hs)
claims game (suc n) (repeat_turn here env b e) = λ run fs scope pc end exit r w he lw ee st hs.
    subst (λ h. Goes (program_of game) w.ticks fs run.base run.cell_base r (stepping (program_of game) w (frames.ticking w.ticks (state_of w) (λ st. on (record { active = lua (at_pc run pc); frames = fs; registers = r; state = st })))) (task game (within game n) (repeat_turn h env b e) w) (λ flow t. Closed run scope flow t × Unmoved r t run.base scope) (flow_at (program_of game) run end exit fs)) (sym he)
    (repeat_goes game n (within game n) (claims game n) run fs e b (block_goes game n (within game n) (claims game n) run fs b) scope env pc end exit r w (omega (arith, lw)) ee st hs)
claims game (suc n) (count_turn here env x b v m k) = λ run fs scope any pc end exit r w he lw ee st hs.
    subst (λ h. Goes (program_of game) w.ticks fs run.base run.cell_base r (stepping (program_of game) w (turns (at_pc run any) fs r (state_of w) (slot_count scope) pc end v m k)) (task game (within game n) (count_turn h env x b v m k) w) (λ flow t. Closed run scope flow t × Unmoved r t run.base scope) (flow_at (program_of game) run end exit fs)) (sym he)
    (count_goes game n (within game n) (claims game n) run fs x b (block_goes game n (within game n) (claims game n) run fs b) env scope any pc end exit v m k r w (omega (arith, lw)) ee st hs)
claims game (suc n) (each_turn here env line xs b f s v) = λ run fs scope pc end exit r w he lw ee st hs three.
    subst (λ h. Goes (program_of game) w.ticks fs run.base run.cell_base r (going (program_of game) run (pc + length (each_turn_code line xs b (file_of run.code) scope)) fs w r) (task game (within game n) (each_turn h env line xs b f s v) w) (λ flow t. Closed run scope flow t × Unmoved r t run.base scope) (flow_at (program_of game) run end exit fs)) (sym he)
    (each_goes game n (within game n) (claims game n) run fs line xs b (block_goes game n (within game n) (claims game n) run fs b) f s v env scope pc end exit r w (omega (arith, lw)) ee st hs three)
claims game (suc n) clear_turn = λ fs base cell_base r w lw.
    clearing game n (within game n) (invokes game n (within game n) (claims game n)) base cell_base fs (λ fs base cell_base r w l. claims game n clear_turn fs base cell_base r w l) r w.replies w (omega (arith, lw))

-- ---- runs

ends : (program : Program) (m : ℕ) (r : Registers) (e : Ends Flow) (K : Thread) → Goes program m [] 0 0 r K e (λ flow t. Unit {0}) (λ flow w t. left_at program [] (values_of flow) w t) → (j : ℕ) × (K j ≡ Some (end_of e))
ends program m r (gives flow w) K g = g.4 0
ends program m r (fails v w) K g = g.3 0
ends program m r (out_of_steps w) K g = g
ends program m r (needs ask w) K g = g

pub follows : Follows
follows start b =
    let args : List Value × Store = unpack_all start.args (first_store start.game.state) in
    let w = first_world start args.1 in
    ends (program_of start.game) w.ticks no_registers (meant start b) _ (claims start.game (suc start.ticks) (invoke (calls.chunk start.file b) args.0 []) [] 0 0 no_registers w refl (omega arith))
