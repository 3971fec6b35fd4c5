-- What an instruction does, and runs.
use Rattle.std.specs.Prelude.{ℕ, zero, suc, ◌+◌, ◌-◌, ℤ, Bool, true, false, List, [], ◌∷◌, ◌++◌, length, map, Option, Some, None, Result, Ok, Err, slice_get, if◌then◌else◌, codes}
use Rattle.lua_value.specs.Arithmetic as arithmetic
use Rattle.lua_value.specs.declared.arithmetic.NumFault.{NumFault}
use Rattle.lua_tree.specs.Tree.{Bytes}
use Rattle.lua_meaning.specs.Value.{Value, nil, num, str, table, func, is_true, is_nil, first}
use Rattle.lua_meaning.specs.Text.{as_number}
use Rattle.lua_meaning.specs.Store.{Store, cell_value, add_cell, set_cell, add_table, raw_set}
use Rattle.lua_meaning.specs.Message.{Reply}
use Rattle.lua_meaning.specs.World.{given}
use Rattle.lua_meaning.specs.Fault.{Place, placed, index_text}
use Rattle.lua_meaning.specs.Handlers as handlers
use Rattle.lua_meaning.specs.Handlers.{Setting, setting}
use Rattle.lua_meaning.specs.Tables.{set_items}
use Rattle.lua_meaning.specs.Running.{is_counting}
use Rattle.lua_code.specs.Instr as i
use Rattle.lua_code.specs.Instr.{Site, Operand, slot, constant, Wants, Instr, Proto, file_of, code_of}
use Rattle.lua_code.specs.State.{put, put_values, row, Registers, with_slots, with_cells, with_tail, put_slot, State, with_store, Running, Frame, waits, Active, lua, library, Config, End, needed, stuck, Step, on, stop, asks}
use Rattle.lua_code.specs.Frames.{ticking, finish, raised, calling}
use Rattle.lua_code.specs.Doing as doing
use Rattle.lua_code.specs.Doing.{Use, plain, truth, untruth, Doing, unary_doing, binary_doing, field_doing}
use Rattle.lua_code.specs.Natives.{Program, serve, resume}

-- a function of Lua at another instruction
abbrev pub at_pc : Running → ℕ → Running
at_pc run pc = record run { pc = pc }

abbrev pub next : Running → Running
next run = at_pc run (run.pc + 1)

abbrev pub at_line : Running → Site → Option Place
at_line run s = Some (record { file = file_of run.code; line = s.line })

abbrev pub wanted : Use → ℕ → Wants
wanted plain to = i.to_slot to
wanted truth to = i.truth_to to
wanted untruth to = i.untruth_to to

-- where a slot isn't a table nothing is changed
abbrev pub in_table : (ℕ → Store → Store) → Value → Store → Store
in_table change (table t) s = change t s
in_table change v s = s

-- the function of Lua `run`, with the frames that wait, registers and state
module _ (run : Running) (frames : List Frame) (r : Registers) (st : State) where
  abbrev pub slot_at : ℕ → Value
  slot_at n = r.slots (run.base + n)

  abbrev pub cell_at : ℕ → ℕ
  cell_at n = r.cells (run.cell_base + n)

  abbrev pub operand : Operand → Value
  operand (slot n) = slot_at n
  operand (constant v) = v

  -- goes on at an instruction
  abbrev pub going : ℕ → Registers → State → Step
  going pc r st = on (record {
    active = lua (at_pc run pc);
    frames = frames;
    registers = r;
    state = st;
  })

  abbrev pub onward : Registers → State → Step
  onward r st = going (run.pc + 1) r st

  abbrev pub puts : ℕ → Value → Step
  puts to v = onward (put_slot r (run.base + to) v) st

  abbrev pub stores : Store → Step
  stores s = onward r (with_store st s)

  -- an error of the language at a line
  abbrev pub fault : Site → Bytes → Step
  fault s text = raised frames r (str (placed (at_line run s) text)) st

  abbrev pub jumps : Bool → ℕ → Step
  jumps true pc = going pc r st
  jumps false pc = onward r st

  abbrev pub returns : Bool → ℕ → Step
  returns true pc = ticking st.ticks st (λ st. going pc r st)
  returns false pc = onward r st

  -- calls a handler
  abbrev pub handling : Site → Wants → (handler : Value) → List Value → Step
  handling s wants h args =
      calling h args (waits (next run) wants (at_line run s) ∷ frames) (run.base + s.above)
      (run.cell_base + s.cells) r st

  abbrev pub does : Site → (to : ℕ) → Doing → Step
  does s to (doing.gives v) = puts to v
  does s to (doing.faults text) = fault s text
  does s to (doing.asks h args use_) = handling s (wanted use_ to) h args

  -- a table gets a raw value
  abbrev pub sets_raw : Site → ℕ → (key value : Value) → Step
  sets_raw s t nil v = fault s (codes "table index is nil")
  sets_raw s t key v = stores (raw_set st.store t key v)

  abbrev pub sets_new : Site → (table key value : Value) → Step
  sets_new s (table t) key v = sets_raw s t key v
  sets_new s other key v = onward r st

  abbrev pub sets : Site → (key value : Value) → Setting → Step
  sets s key v (handlers.in_table t) = sets_raw s t key v
  sets s key v (handlers.asks_set h base) = handling s i.nothing h (base ∷ key ∷ v ∷ [])
  sets s key v (handlers.unindexed_set base) = fault s (index_text base)
  sets s key v handlers.endless_set = fault s (codes "index loop")

  -- ---- lists

  abbrev pub rest : Bool → List Value
  rest true = r.tail
  rest false = []

  abbrev pub list : (from count : ℕ) → (tailed : Bool) → List Value
  list from count tailed = row r.slots (run.base + from) count ++ rest tailed

  -- ---- loops

  -- a numeric loop's numbers, and the turn's own value where a turn begins
  abbrev pub numbers : (at : ℕ) → (n m k : ℤ) → Registers
  numbers at n m k =
      with_slots r (put (put (put r.slots (run.base + at) (num n)) (run.base + at + 1) (num m))
      (run.base + at + 2) (num k))

  abbrev pub turns : (at body exit : ℕ) → (n m k : ℤ) → Step
  turns at body exit n m k =
      if is_counting n m k
      then ticking st.ticks st (λ st. going body
      (put_slot (numbers at n m k) (run.base + at + 3) (num n)) st)
      else going exit (numbers at n m k) st

  abbrev pub begins : Site → (at count : ℕ) → Option ℤ → Option ℤ → Option ℤ → Step
  begins s at count None m k = fault s (codes "'for' initial value must be a number")
  begins s at count (Some n) None k = fault s (codes "'for' limit must be a number")
  begins s at count (Some n) (Some m) None = fault s (codes "'for' step must be a number")
  begins s at count (Some n) (Some m) (Some k) =
      turns at (run.pc + 1) (run.pc + 1 + count) n m k

  abbrev pub counts : (at count : ℕ) → (m k : ℤ) → Result ℤ NumFault → Step
  counts at count m k (Ok n) = turns at (run.pc - count) (run.pc + 1) n m k
  counts at count m k (Err e) = onward r st

  abbrev pub counts_on : (at count : ℕ) → Value → Value → Value → Step
  counts_on at count (num n) (num m) (num k) = counts at count m k (arithmetic.add n k)
  counts_on at count n m k = onward r st

  abbrev pub each : (at count : ℕ) → Value → Step
  each at count v =
      if is_nil v
      then onward r st
      else ticking st.ticks st (λ st. going (run.pc - count)
      (put_slot r (run.base + at + 2) v) st)

  -- ---- instructions

  abbrev pub act_on : Instr → Step
  act_on (i.load to o) = puts to (operand o)
  act_on (i.get_cell to c) = puts to (cell_value st.store (cell_at c))
  act_on (i.set_cell c o) = stores (set_cell st.store (cell_at c) (operand o))
  act_on (i.new_cell c from) =
      onward (with_cells r (put r.cells (run.cell_base + c) (length st.store.cells)))
      (with_store st (add_cell st.store (slot_at from)))
  act_on (i.close to code cells) =
      onward (put_slot r (run.base + to) (func (length st.functions)))
      (record st {
        functions =
            st.functions ++ record { code = code; cells = map cell_at cells } ∷ [];
      })
  act_on (i.new_table to) =
      onward (put_slot r (run.base + to) (table (length st.store.tables)))
      (with_store st (add_table st.store))
  act_on (i.set_item t n o) =
      stores (in_table (λ t s. set_items t n (operand o ∷ []) s) (slot_at t) st.store)
  act_on (i.set_rest t n) =
      stores (in_table (λ t s. set_items t n r.tail s) (slot_at t) st.store)
  act_on (i.set_new s t key v) = sets_new s (slot_at t) (operand key) (operand v)
  act_on (i.first_extra to) = puts to (first run.extra)
  act_on i.all_extra = onward (with_tail r run.extra) st
  act_on (i.unary s op to o) = does s to (unary_doing op st.store (operand o))
  act_on (i.binary s op to a b) = does s to (binary_doing op st.store (operand a) (operand b))
  act_on (i.get_field s to base key) = does s to (field_doing st.store (operand base) (operand key))
  act_on (i.set_field s base key v) =
      sets s (operand key) (operand v) (setting st.store (operand base) (operand key))
  act_on (i.invoke s wants at count tailed) =
      calling (slot_at at) (list (at + 1) count tailed)
      (waits (next run) wants (at_line run s) ∷ frames) (run.base + at + 1)
      (run.cell_base + s.cells) r st
  act_on (i.spread from count tailed) =
      onward (with_slots r (put_values r.slots (run.base + from) count (rest tailed))) st
  act_on i.tick = ticking st.ticks st (λ st. onward r st)
  act_on (i.skip count) = going (run.pc + 1 + count) r st
  act_on (i.skip_if from count) = jumps (is_true (slot_at from)) (run.pc + 1 + count)
  act_on (i.skip_unless from count) =
      if is_true (slot_at from) then onward r st else going (run.pc + 1 + count) r st
  act_on (i.back_if from count) = returns (is_true (slot_at from)) (run.pc - count)
  act_on (i.back_unless from count) =
      if is_true (slot_at from)
      then onward r st
      else ticking st.ticks st (λ st. going (run.pc - count) r st)
  act_on (i.for_begin s at count) =
      begins s at count (as_number (slot_at at)) (as_number (slot_at (at + 1)))
      (as_number (slot_at (at + 2)))
  act_on (i.for_next at count) =
      counts_on at count (slot_at at) (slot_at (at + 1)) (slot_at (at + 2))
  act_on (i.each_next at count) = each at count (slot_at (at + 3))
  act_on (i.leave from count tailed) = finish (given (list from count tailed)) frames r st

  abbrev pub act_at : Option Instr → Step
  act_at None = stop stuck
  act_at (Some x) = act_on x

-- one step: an instruction, or a function of the library
abbrev pub act_active : Program → Active → List Frame → Registers → State → Step
act_active program (lua run) frames r st =
    act_at run frames r st (slice_get (code_of run.code) run.pc)
act_active program (library f args base cell_base) frames r st =
    serve program f args base cell_base frames r st

abbrev pub act : Program → Config → Step
act program c = act_active program c.active c.frames c.registers c.state

-- ---- runs

-- The replies are for those who run the machine: a step doesn't see them. One leads on to what it is for, and the ask
-- counts as answered.
abbrev pub after : Program → (Config → List Reply → Option End) → Step → List Reply → Option End
after program go (on c) replies = go c replies
after program go (stop end) replies = Some end
after program go (asks question p) [] = Some (needed question p.state)
after program go (asks question p) (reply ∷ replies) =
    after program go (resume program question reply p) replies

-- at most n steps, with replies; None where that isn't enough
abbrev pub exec : Program → ℕ → Config → List Reply → Option End
exec program zero c replies = None
exec program (suc n) c replies = after program (exec program n) (act program c) replies
