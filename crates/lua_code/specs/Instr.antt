-- Code, as definitions speak of it: instructions on the slots of a frame, and the functions that they make.
--
-- A place is a slot counted from the frame's base, or a cell counted from the running function's first one. How the
-- types of the crate are seen: an instruction with its constants and its site, a `Code` as the function of its chunk.
use Rattle.std.specs.Prelude.{ℕ, Bool, List, [], ◌∷◌}
use Rattle.lua_tree.specs.Tree.{Bytes, UnOp, BinOp}
use Rattle.lua_meaning.specs.Value.{Value}

-- what stands where an instruction can call or fail: the line, the slot from which on nothing is needed, and how many
-- cells of the running function are
pub record Site : Type 0 where
  pub line : ℕ
  pub above : ℕ
  pub cells : ℕ

-- where an operand is: in a slot, or in the instruction itself
pub data Operand : Type 0 where
  slot : ℕ → Operand
  constant : Value → Operand

-- what a frame wants of the results of the call that it waits for
pub data Wants : Type 0 where
  -- the first one, in a slot
  to_slot : ℕ → Wants
  -- whether the first one is true, or that it isn't, in a slot
  truth_to : ℕ → Wants
  untruth_to : ℕ → Wants
  -- all of them
  to_tail : Wants
  nothing : Wants

mutual
  pub data Instr : Type 0 where
    -- a slot gets a value
    load : (to : ℕ) → Operand → Instr
    -- cells of captured locals
    get_cell : (to cell : ℕ) → Instr
    set_cell : (cell : ℕ) → Operand → Instr
    new_cell : (cell from : ℕ) → Instr
    -- a function with cells of the running one
    close : (to : ℕ) → Proto → (cells : List ℕ) → Instr
    -- tables: a new one, its items, and a field of it
    new_table : (to : ℕ) → Instr
    set_item : (table number : ℕ) → Operand → Instr
    set_rest : (table number : ℕ) → Instr
    set_new : Site → (table : ℕ) → (key value : Operand) → Instr
    -- the extra arguments: the first one, or all of them
    first_extra : (to : ℕ) → Instr
    all_extra : Instr
    -- operators and fields
    unary : Site → UnOp → (to : ℕ) → Operand → Instr
    binary : Site → BinOp → (to : ℕ) → (left right : Operand) → Instr
    get_field : Site → (to : ℕ) → (base key : Operand) → Instr
    set_field : Site → (base key value : Operand) → Instr
    -- a call of what stands in a slot, with so many arguments behind it, and the tail behind them where it is wanted
    invoke : Site → Wants → (at count : ℕ) → (tailed : Bool) → Instr
    -- slots get so many values of the tail, or none of it, and nil where there are no more
    spread : (from count : ℕ) → (tailed : Bool) → Instr
    -- a tick
    tick : Instr
    -- jumps on: always, or by the truth of a slot
    skip : (count : ℕ) → Instr
    skip_if : (from count : ℕ) → Instr
    skip_unless : (from count : ℕ) → Instr
    -- jumps back, each with a tick
    back_if : (from count : ℕ) → Instr
    back_unless : (from count : ℕ) → Instr
    -- a numeric loop: its numbers are tested, and a turn begins or is skipped; the next turn begins
    for_begin : Site → (at count : ℕ) → Instr
    for_next : (at count : ℕ) → Instr
    -- a generic loop: the next turn begins unless its first value is nil
    each_next : (at count : ℕ) → Instr
    -- the end of a function, with its results
    leave : (from count : ℕ) → (tailed : Bool) → Instr

  pub data Instrs : Type 0 where
    no_instrs : Instrs
    instr_and : Instr → Instrs → Instrs

  -- a function's code: its file, how many parameters it has, whether extra arguments are kept, and its instructions
  pub data Proto : Type 0 where
    proto_of : (file : Bytes) → (params : ℕ) → (varargs : Bool) → Instrs → Proto

abbrev pub instrs_of : List Instr → Instrs
instrs_of [] = no_instrs
instrs_of (x ∷ xs) = instr_and x (instrs_of xs)

abbrev pub list_of : Instrs → List Instr
list_of no_instrs = []
list_of (instr_and x xs) = x ∷ list_of xs

abbrev pub proto : (file : Bytes) → (params : ℕ) → (varargs : Bool) → List Instr → Proto
proto file params varargs code = proto_of file params varargs (instrs_of code)

abbrev pub file_of : Proto → Bytes
file_of (proto_of file params varargs code) = file

abbrev pub params_of : Proto → ℕ
params_of (proto_of file params varargs code) = params

abbrev pub is_vararg : Proto → Bool
is_vararg (proto_of file params varargs code) = varargs

abbrev pub code_of : Proto → List Instr
code_of (proto_of file params varargs code) = list_of code
