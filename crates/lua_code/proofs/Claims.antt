-- What is claimed of each task behind a tick, and of statements and blocks.
use Rattle.std.proofs.Common.{ℕ, suc, ◌+◌, ◌≡◌, ◌≤◌, List, [], ◌∷◌, ◌++◌, length, false}
use Rattle.lua_tree.specs.Tree.{Bytes, Expr, Block, Stat, Arms}
use Rattle.lua_meaning.specs.Message.{Ask}
use Rattle.lua_meaning.specs.Names.{expr_names, captured_in}
use Rattle.lua_meaning.specs.World.{World}
use Rattle.lua_meaning.specs.Locals.{Env, Flow, normal, broken, returned, values_of}
use Rattle.lua_meaning.specs.Calls.{Later, Task, invoke, while_turn, repeat_turn, count_turn, each_turn, clear_turn}
use Rattle.lua_meaning.specs.Control.{Game}
use Rattle.lua_meaning.specs.Statements.{exec, block, choose}
use Rattle.lua_code.specs.Instr as i
use Rattle.lua_code.specs.Instr.{Instr, file_of, code_of}
use Rattle.lua_code.specs.Scope.{Scope, slot_count, declared, declare_code}
use Rattle.lua_code.specs.Code.{ready_slot, unless_ready, slot_place, site, expr_code, block_code, stat_code, arms_code, scope_behind, scope_at_end, numbers_in, each_code}
use Rattle.lua_code.specs.State.{Registers, Running, Frame, lua, on}
use Rattle.lua_code.specs.Frames.{places, begun, ticking}
use Rattle.lua_code.specs.Natives.{Program, asks_for}
use Rattle.lua_code.specs.State.{clears}
use Rattle.lua_code.specs.Act.{at_pc, turns}
use Rattle.lua_code.specs.Follows.{state_of, program_of, callee_of}
use Rattle.lua_code.proofs.Registers.{Holds}
use Rattle.lua_code.proofs.Goes.{Thread, Stands, stepping, going, left_at, Goes}
use Rattle.lua_code.proofs.Landing.{here_of}
use Rattle.lua_code.proofs.Scopes.{After, Closed, Unmoved}

-- where a flow comes to
abbrev pub flow_at : Program → Running → (end exit : ℕ) → List Frame → Flow → World → Registers → Thread
flow_at program run end exit frames (normal env) w t = going program run end frames w t
flow_at program run end exit frames (broken env) w t = going program run exit frames w t
flow_at program run end exit frames (returned vs) w t = left_at program frames vs w t

-- the parts of loops
abbrev pub test_code : Expr → (file : Bytes) → Scope → List Instr
test_code e file scope = unless_ready (ready_slot e scope) (expr_code e file scope (slot_count scope) (slot_count scope))

abbrev pub while_body : Expr → Block → (file : Bytes) → Scope → List Instr
while_body e b file scope = block_code b [] (length (test_code e file scope) + 1) file scope

abbrev pub while_code : Expr → Block → (file : Bytes) → Scope → List Instr
while_code e b file scope =
    while_body e b file scope ++ (test_code e file scope ++ i.back_if (slot_place (ready_slot e scope) (slot_count scope)) (length (while_body e b file scope) + length (test_code e file scope)) ∷ [])

abbrev pub repeat_scope : Expr → Block → Scope → Scope
repeat_scope e b scope = scope_at_end b (expr_names false e) scope

abbrev pub repeat_body : Expr → Block → (file : Bytes) → Scope → List Instr
repeat_body e b file scope = block_code b (expr_names false e) (length (test_code e file (repeat_scope e b scope)) + 1) file scope

abbrev pub repeat_code : Expr → Block → (file : Bytes) → Scope → List Instr
repeat_code e b file scope =
    let inner = repeat_scope e b scope in
    repeat_body e b file scope ++ (test_code e file inner ++ i.back_unless (slot_place (ready_slot e inner) (slot_count inner)) (length (repeat_body e b file scope) + length (test_code e file inner)) ∷ [])

-- a turn of a loop with fresh locals
abbrev pub turn_code : List Bytes → Block → (exit : ℕ) → (file : Bytes) → Scope → List Instr
turn_code xs b exit file outer = declare_code xs (captured_in b) outer ++ block_code b [] exit file (declared xs (captured_in b) outer)

abbrev pub count_loop : Bytes → Block → (file : Bytes) → Scope → List Instr
count_loop x b file scope =
    let turn = turn_code (x ∷ []) b 1 file (numbers_in scope) in
    turn ++ i.for_next (slot_count scope) (length turn) ∷ []

abbrev pub each_control : (line : ℕ) → List Bytes → Scope → List Instr
each_control line xs scope = each_code (site line (slot_count scope + 3) scope) (slot_count scope) (length xs)

abbrev pub each_turn_code : (line : ℕ) → List Bytes → Block → (file : Bytes) → Scope → List Instr
each_turn_code line xs b file scope = turn_code xs b (length (each_control line xs scope) + 1) file (numbers_in scope)

abbrev pub each_loop : (line : ℕ) → List Bytes → Block → (file : Bytes) → Scope → List Instr
each_loop line xs b file scope =
    let turn = each_turn_code line xs b file scope in
    let control = each_control line xs scope in
    turn ++ (control ++ i.each_next (slot_count scope) (length turn + length control) ∷ [])

module _ (game : Game) (n : ℕ) (again : Later) where
  abbrev P : Program
  P = program_of game

  -- a task with a tick less, where its code stands
  abbrev pub Claim : Task → Type 0
  Claim (invoke callee args calls) =
      (frames : List Frame) (base cell_base : ℕ) (r : Registers) (w : World) → places frames ≡ calls → suc w.ticks ≤ n
      → Goes P w.ticks frames base cell_base r (stepping P w (on (begun (callee_of callee) args frames base cell_base r (state_of w)))) (again (invoke callee args calls) w) (λ flow t. Unit {0}) (λ flow w t. left_at P frames (values_of flow) w t)
  Claim (while_turn here env e b) =
      (run : Running) (frames : List Frame) (scope : Scope) (pc end exit : ℕ) (r : Registers) (w : World) → here ≡ here_of run frames → suc w.ticks ≤ n → end ≡ pc + length (while_code e b (file_of run.code) scope) → Stands (code_of run.code) pc (while_code e b (file_of run.code) scope) → Holds r run.base run.cell_base scope env
      → Goes P w.ticks frames run.base run.cell_base r (going P run (pc + length (while_body e b (file_of run.code) scope)) frames w r) (again (while_turn here env e b) w) (λ flow t. Closed run scope flow t × Unmoved r t run.base scope) (flow_at P run end exit frames)
  Claim (repeat_turn here env b e) =
      (run : Running) (frames : List Frame) (scope : Scope) (pc end exit : ℕ) (r : Registers) (w : World) → here ≡ here_of run frames → suc w.ticks ≤ n → end ≡ pc + length (repeat_code e b (file_of run.code) scope) → Stands (code_of run.code) pc (repeat_code e b (file_of run.code) scope) → Holds r run.base run.cell_base scope env
      → Goes P w.ticks frames run.base run.cell_base r (stepping P w (ticking w.ticks (state_of w) (λ st. on (record { active = lua (at_pc run pc); frames = frames; registers = r; state = st })))) (again (repeat_turn here env b e) w) (λ flow t. Closed run scope flow t × Unmoved r t run.base scope) (flow_at P run end exit frames)
  Claim (count_turn here env x b v m k) =
      (run : Running) (frames : List Frame) (scope : Scope) (any pc end exit : ℕ) (r : Registers) (w : World) → here ≡ here_of run frames → suc w.ticks ≤ n → end ≡ pc + length (count_loop x b (file_of run.code) scope) → Stands (code_of run.code) pc (count_loop x b (file_of run.code) scope) → Holds r run.base run.cell_base scope env
      → Goes P w.ticks frames run.base run.cell_base r (stepping P w (turns (at_pc run any) frames r (state_of w) (slot_count scope) pc end v m k)) (again (count_turn here env x b v m k) w) (λ flow t. Closed run scope flow t × Unmoved r t run.base scope) (flow_at P run end exit frames)
  Claim (each_turn here env line xs b f s v) =
      (run : Running) (frames : List Frame) (scope : Scope) (pc end exit : ℕ) (r : Registers) (w : World) → here ≡ here_of run frames → suc w.ticks ≤ n → end ≡ pc + length (each_loop line xs b (file_of run.code) scope) → Stands (code_of run.code) pc (each_loop line xs b (file_of run.code) scope) → Holds r run.base run.cell_base scope env
      → (r.slots (run.base + slot_count scope) ≡ f) × (r.slots (run.base + slot_count scope + 1) ≡ s) × (r.slots (run.base + slot_count scope + 2) ≡ v)
      → Goes P w.ticks frames run.base run.cell_base r (going P run (pc + length (each_turn_code line xs b (file_of run.code) scope)) frames w r) (again (each_turn here env line xs b f s v) w) (λ flow t. Closed run scope flow t × Unmoved r t run.base scope) (flow_at P run end exit frames)
  Claim clear_turn =
      (frames : List Frame) (base cell_base : ℕ) (r : Registers) (w : World) → suc w.ticks ≤ n
      → Goes P w.ticks frames base cell_base r (stepping P w (asks_for P base cell_base frames r clears Ask.event_poll (state_of w))) (again clear_turn w) (λ flow t. Unit {0}) (λ flow w t. left_at P frames (values_of flow) w t)

  -- statements and blocks of a running function
  module _ (run : Running) (frames : List Frame) where
    abbrev pub Does : Stat → Type 0
    Does s =
        (later : List Bytes) (pc end exit : ℕ) (scope : Scope) (env : Env) (r : Registers) (w : World) → suc w.ticks ≤ n → end ≡ pc + length (stat_code s later exit (file_of run.code) scope) → Stands (code_of run.code) pc (stat_code s later exit (file_of run.code) scope) → Holds r run.base run.cell_base scope env
        → Goes P w.ticks frames run.base run.cell_base r (going P run pc frames w r) (exec again (here_of run frames) later s env w) (λ flow t. After run scope (scope_behind s later scope) flow t × Unmoved r t run.base scope) (flow_at P run end (end + exit) frames)

    abbrev pub Runs : Block → Type 0
    Runs b =
        (after : List Bytes) (pc end exit : ℕ) (scope : Scope) (env : Env) (r : Registers) (w : World) → w.ticks ≤ n → end ≡ pc + length (block_code b after exit (file_of run.code) scope) → Stands (code_of run.code) pc (block_code b after exit (file_of run.code) scope) → Holds r run.base run.cell_base scope env
        → Goes P w.ticks frames run.base run.cell_base r (going P run pc frames w r) (block again (here_of run frames) after b env w) (λ flow t. After run scope (scope_at_end b after scope) flow t × Unmoved r t run.base scope) (flow_at P run end (end + exit) frames)

    abbrev pub Chooses : Arms → Type 0
    Chooses arms =
        (pc end exit : ℕ) (scope : Scope) (env : Env) (r : Registers) (w : World) → w.ticks ≤ n → end ≡ pc + length (arms_code arms exit (file_of run.code) scope) → Stands (code_of run.code) pc (arms_code arms exit (file_of run.code) scope) → Holds r run.base run.cell_base scope env
        → Goes P w.ticks frames run.base run.cell_base r (going P run pc frames w r) (choose again (here_of run frames) arms env w) (λ flow t. Closed run scope flow t × Unmoved r t run.base scope) (flow_at P run end (end + exit) frames)
