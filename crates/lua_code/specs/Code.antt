-- The code of a tree, with one case for each kind of node: the code of its parts in the tree's order, and the node's own
-- instructions between them.
use Rattle.std.specs.Prelude.{ℕ, suc, pos, ◌+◌, ◌-◌, max, Bool, true, false, List, [], ◌∷◌, ◌++◌, length, Option, Some, None, if◌then◌else◌, ◌==◌}
use Rattle.lua_tree.specs.Tree.{Bytes, BinOp, Expr, nil, true_, false_, number, str, dots, function, name, index, call, method, table, unary, binary, paren, Exprs, no_exprs, expr_and, Fields, no_fields, item_and, keyed_and, Func, func, Block, no_stats, stat_and, Stat, assign, local, call_stat, do_block, while_loop, repeat_loop, if_stat, num_for, num_for_by, gen_for, function_stat, local_function, return_stat, break_stat, Arms, no_else, else_block, arm_and}
use Rattle.lua_meaning.specs.Value.{Value}
use Rattle.lua_meaning.specs.Names.{expr_names, func_names, block_names, captured_in}
use Rattle.lua_meaning.specs.Expressions.{globals}
use Rattle.lua_code.specs.Instr as i
use Rattle.lua_code.specs.Instr.{Site, Operand, slot, constant, Instr, Proto, proto}
use Rattle.lua_code.specs.Scope.{Scope, hidden, slot_count, cell_count, Seat, at_slot, at_cell, seat_of, declared, declare_code, cell_names, cell_places, around}

-- ---- operands

-- what stands somewhere already: an uncaptured local in its slot, and what is the same each time
abbrev pub ready_seat : Option Seat → Option Operand
ready_seat None = None
ready_seat (Some (at_slot n)) = Some (slot n)
ready_seat (Some (at_cell n)) = None

abbrev pub ready : Expr → Scope → Option Operand
ready (nil line) scope = Some (constant Value.nil)
ready (true_ line) scope = Some (constant (Value.flag true))
ready (false_ line) scope = Some (constant (Value.flag false))
ready (number line n) scope = Some (constant (Value.num n))
ready (str line s) scope = Some (constant (Value.str s))
ready (name line x) scope = ready_seat (seat_of scope x)
ready e scope = None

-- a left operand is in a slot
abbrev pub seat_slot : Option Seat → Option ℕ
seat_slot None = None
seat_slot (Some (at_slot n)) = Some n
seat_slot (Some (at_cell n)) = None

abbrev pub ready_slot : Expr → Scope → Option ℕ
ready_slot (name line x) scope = seat_slot (seat_of scope x)
ready_slot e scope = None

-- what isn't ready is evaluated
abbrev pub unless_ready : {A : Type 0} → Option A → List Instr → List Instr
unless_ready None code = code
unless_ready (Some a) code = []

abbrev pub place : Option Operand → ℕ → Operand
place None h = slot h
place (Some operand) h = operand

abbrev pub slot_place : Option ℕ → ℕ → ℕ
slot_place None h = h
slot_place (Some n) h = n

-- ---- what instructions stand for

abbrev pub site : (line above : ℕ) → Scope → Site
site line above scope = record { line = line; above = above; cells = cell_count scope }

-- what stands in a slot is brought to another one
abbrev pub settle : (to from : ℕ) → List Instr
settle to from = if to == from then [] else i.load to (slot from) ∷ []

abbrev pub name_code : Site → Bytes → (to : ℕ) → Option Seat → List Instr
name_code s x to None = i.get_field s to (constant globals) (constant (Value.str x)) ∷ []
name_code s x to (Some (at_slot n)) = i.load to (slot n) ∷ []
name_code s x to (Some (at_cell n)) = i.get_cell to n ∷ []

-- ---- lists

-- a call and `...` give any number of values
abbrev pub is_many : Expr → Bool
is_many (dots line) = true
is_many (call line f es) = true
is_many (method line o x es) = true
is_many e = false

-- whether the values of a list's last expression go to the tail, and how many slots the others have
abbrev pub tailed : Exprs → Bool
tailed no_exprs = false
tailed (expr_and e no_exprs) = is_many e
tailed (expr_and e (expr_and f es)) = tailed (expr_and f es)

abbrev pub count : Exprs → ℕ
count no_exprs = 0
count (expr_and e no_exprs) = if is_many e then 0 else 1
count (expr_and e (expr_and f es)) = suc (count (expr_and f es))

-- an expression of a list, or an item, with others behind it
abbrev pub in_list : (others : Exprs) → Expr → (one all : List Instr) → List Instr
in_list no_exprs e one all = if is_many e then all else one
in_list (expr_and f es) e one all = one

abbrev pub in_fields : (others : Fields) → Expr → (one all : List Instr) → List Instr
in_fields no_fields e one all = if is_many e then all else one
in_fields (item_and f fs) e one all = one
in_fields (keyed_and k f fs) e one all = one

-- slots get so many values where a list gives others
abbrev pub fitted : (at wanted given : ℕ) → Bool → List Instr
fitted at wanted given tailed =
    if wanted == given then [] else i.spread (at + given) (wanted - given) tailed ∷ []

-- ---- statements

-- jumps over what is behind, where there is anything
abbrev pub skip_over : List Instr → List Instr
skip_over [] = []
skip_over (x ∷ code) = i.skip (length (x ∷ code)) ∷ []

-- what a target is made of, in slots from the height on
abbrev pub width : Expr → ℕ
width (index line e k) = 2
width e = 0

abbrev pub widths : Exprs → ℕ
widths no_exprs = 0
widths (expr_and e es) = width e + widths es

abbrev pub target_count : Exprs → ℕ
target_count no_exprs = 0
target_count (expr_and e es) = suc (target_count es)

-- a target whose parts are known gets a value
abbrev pub store_name : Site → Bytes → Operand → Option Seat → List Instr
store_name s x value None =
    i.set_field s (constant globals) (constant (Value.str x)) value ∷ []
store_name s x value (Some (at_slot n)) = i.load n value ∷ []
store_name s x value (Some (at_cell n)) = i.set_cell n value ∷ []

abbrev pub store : Expr → (above : ℕ) → Scope → (base key value : Operand) → List Instr
store (name line x) above scope base key value =
    store_name (site line above scope) x value (seat_of scope x)
store (index line e k) above scope base key value =
    i.set_field (site line above scope) base key value ∷ []
store e above scope base key value = []

-- the last target is the first to get its value: each has its parts from `at` on, and its value at `from`
abbrev pub stores : Exprs → (above : ℕ) → Scope → (at from : ℕ) → List Instr
stores no_exprs above scope at from = []
stores (expr_and e es) above scope at from =
    stores es above scope (at + width e) (suc from)
    ++ store e above scope (slot at) (slot (at + 1)) (slot from)

-- Where one expression is assigned to one local that stands in a slot, that slot: the expression's value goes right there,
-- since no instruction of an expression but its last one writes where the value goes.
abbrev pub own_slot : (targets values : Exprs) → Scope → Option ℕ
own_slot (expr_and t no_exprs) (expr_and e no_exprs) scope = ready_slot t scope
own_slot ts es scope = None

abbrev pub in_place : Option ℕ → (there : ℕ → List Instr) → (apart : List Instr) → List Instr
in_place None there apart = apart
in_place (Some n) there apart = there n

-- a function that stands in its local's slot gets into the local's cell too
abbrev pub local_code : Option Seat → (from : ℕ) → List Instr
local_code None from = []
local_code (Some (at_slot n)) from = []
local_code (Some (at_cell n)) from = i.set_cell n (slot from) ∷ []

-- a loop's test and its block, which runs while the test is true
abbrev pub loop_code : (body test : List Instr) → (from : ℕ) → List Instr
loop_code body test from =
    i.skip (length body) ∷ (body ++ (test ++ i.back_if from (length body + length test) ∷ []))

-- the control of a generic loop: a call with the state and the variable, whose values the turn's locals get
abbrev pub each_code : Site → (at names : ℕ) → List Instr
each_code s at names =
    i.load (at + 3) (slot at) ∷ i.load (at + 4) (slot (at + 1)) ∷ i.load (at + 5) (slot (at + 2))
    ∷ i.invoke s i.to_tail (at + 3) 2 false ∷ i.spread (at + 3) (max 1 names) true ∷ []

-- a loop's three hidden slots
abbrev pub numbers_in : Scope → Scope
numbers_in scope = hidden ∷ hidden ∷ hidden ∷ scope

-- a numeric loop whose three numbers stand from a slot on
abbrev pub count_code : Site → (at : ℕ) → (turn : List Instr) → List Instr
count_code s at turn = i.for_begin s at (length turn + 1) ∷ (turn ++ i.for_next at (length turn) ∷ [])

-- a function's body ends without results
abbrev pub last : Instr
last = i.leave 0 0 false

-- the scope behind a statement of a block; `later` has the names that functions use in what follows
abbrev pub scope_behind : Stat → (later : List Bytes) → Scope → Scope
scope_behind (local line xs es) later scope = declared xs later scope
scope_behind (local_function line x f) later scope =
    declared (x ∷ []) (func_names f ++ later) scope
scope_behind s later scope = scope

-- the scope at a block's end; `after` has the names that functions use in what follows it in its scope
abbrev pub scope_at_end : Block → (after : List Bytes) → Scope → Scope
scope_at_end no_stats after scope = scope
scope_at_end (stat_and s b) after scope =
    scope_at_end b after (scope_behind s (block_names false b after) scope)

-- ---- code

-- `file` is the name of the source. In an expression the first value goes to the slot `to`, and slots from `h` on are
-- free. `exit` is how many instructions a statement or block has behind it up to the end of the loop around it.
abbrev mutual
  pub expr_code : Expr → (file : Bytes) → Scope → (h to : ℕ) → List Instr
  expr_code (nil line) file scope h to = i.load to (constant Value.nil) ∷ []
  expr_code (true_ line) file scope h to = i.load to (constant (Value.flag true)) ∷ []
  expr_code (false_ line) file scope h to = i.load to (constant (Value.flag false)) ∷ []
  expr_code (number line n) file scope h to = i.load to (constant (Value.num n)) ∷ []
  expr_code (str line s) file scope h to = i.load to (constant (Value.str s)) ∷ []
  expr_code (dots line) file scope h to = i.first_extra to ∷ []
  expr_code (function line f) file scope h to =
      i.close to (func_code f file (cell_names scope (func_names f)))
      (cell_places scope (func_names f)) ∷ []
  expr_code (name line x) file scope h to =
      name_code (site line h scope) x to (seat_of scope x)
  expr_code (index line e k) file scope h to =
      unless_ready (ready_slot e scope) (expr_code e file scope h h)
      ++ (unless_ready (ready k scope) (expr_code k file scope (suc h) (suc h))
      ++ i.get_field (site line (h + 2) scope) to (slot (slot_place (ready_slot e scope) h))
      (place (ready k scope) (suc h)) ∷ [])
  expr_code (call line f es) file scope h to =
      expr_code f file scope h h ++ (exprs_code es file scope (suc h)
      ++ (i.invoke (site line h scope) (i.to_slot h) h (count es) (tailed es) ∷ settle to h))
  expr_code (method line e x es) file scope h to =
      expr_code e file scope (suc h) (suc h)
      ++ i.get_field (site line (h + 2) scope) h (slot (suc h)) (constant (Value.str x))
      ∷ (exprs_code es file scope (h + 2)
      ++ (i.invoke (site line h scope) (i.to_slot h) h (suc (count es)) (tailed es)
      ∷ settle to h))
  expr_code (table line fs) file scope h to =
      i.new_table h ∷ (fields_code fs line 1 file scope h ++ settle to h)
  expr_code (unary line op e) file scope h to =
      unless_ready (ready_slot e scope) (expr_code e file scope h h)
      ++ i.unary (site line (suc h) scope) op to (slot (slot_place (ready_slot e scope) h)) ∷ []
  expr_code (binary line BinOp.and_ a b) file scope h to =
      let right : List Instr = expr_code b file scope h h in
      expr_code a file scope h h ++ i.skip_unless h (length right) ∷ (right ++ settle to h)
  expr_code (binary line BinOp.or_ a b) file scope h to =
      let right : List Instr = expr_code b file scope h h in
      expr_code a file scope h h ++ i.skip_if h (length right) ∷ (right ++ settle to h)
  expr_code (binary line op a b) file scope h to =
      unless_ready (ready_slot a scope) (expr_code a file scope h h)
      ++ (unless_ready (ready b scope) (expr_code b file scope (suc h) (suc h))
      ++ i.binary (site line (h + 2) scope) op to (slot (slot_place (ready_slot a scope) h))
      (place (ready b scope) (suc h)) ∷ [])
  expr_code (paren line e) file scope h to = expr_code e file scope h to

  -- all values of a call or of `...`, in the tail
  pub tail_code : Expr → (file : Bytes) → Scope → (h : ℕ) → List Instr
  tail_code (dots line) file scope h = i.all_extra ∷ []
  tail_code (call line f es) file scope h =
      expr_code f file scope h h ++ (exprs_code es file scope (suc h)
      ++ i.invoke (site line h scope) i.to_tail h (count es) (tailed es) ∷ [])
  tail_code (method line e x es) file scope h =
      expr_code e file scope (suc h) (suc h)
      ++ i.get_field (site line (h + 2) scope) h (slot (suc h)) (constant (Value.str x))
      ∷ (exprs_code es file scope (h + 2)
      ++ i.invoke (site line h scope) i.to_tail h (suc (count es)) (tailed es) ∷ [])
  tail_code e file scope h = []

  -- a list's values from a slot on, those of its last expression in the tail where it has any number
  pub exprs_code : Exprs → (file : Bytes) → Scope → (h : ℕ) → List Instr
  exprs_code no_exprs file scope h = []
  exprs_code (expr_and e es) file scope h =
      in_list es e (expr_code e file scope h h) (tail_code e file scope h)
      ++ exprs_code es file scope (suc h)

  -- the first value of a list's first expression goes to the slot `to`
  pub first_code : Exprs → (file : Bytes) → Scope → (h to : ℕ) → List Instr
  first_code no_exprs file scope h to = []
  first_code (expr_and e es) file scope h to = expr_code e file scope h to

  -- the fields of a table that stands in a slot; n is the position of the next item
  pub fields_code : Fields → (line n : ℕ) → (file : Bytes) → Scope → (at : ℕ) → List Instr
  fields_code no_fields line n file scope at = []
  fields_code (item_and e fs) line n file scope at =
      in_fields fs e (unless_ready (ready e scope) (expr_code e file scope (suc at) (suc at))
      ++ i.set_item at n (place (ready e scope) (suc at)) ∷ [])
      (tail_code e file scope (suc at) ++ i.set_rest at n ∷ [])
      ++ fields_code fs line (n + 1) file scope at
  fields_code (keyed_and k e fs) line n file scope at =
      unless_ready (ready k scope) (expr_code k file scope (suc at) (suc at))
      ++ (unless_ready (ready e scope) (expr_code e file scope (at + 2) (at + 2))
      ++ i.set_new (site line (at + 3) scope) at (place (ready k scope) (suc at))
      (place (ready e scope) (at + 2))
      ∷ fields_code fs line n file scope at)

  -- a function that finds cells of some names around it: its captured parameters get cells first
  pub func_code : Func → (file : Bytes) → (outer : List Bytes) → Proto
  func_code (func line params varargs body) file outer =
      proto file (length params) varargs
      (declare_code params (captured_in body) (around outer)
      ++ (block_code body [] 0 file (declared params (captured_in body) (around outer))
      ++ last ∷ []))

  -- statements, each behind its tick
  pub block_code : Block → (after : List Bytes) → (exit : ℕ) → (file : Bytes) → Scope → List Instr
  block_code no_stats after exit file scope = []
  block_code (stat_and s b) after exit file scope =
      let later : List Bytes = block_names false b after in
      let rest : List Instr = block_code b after exit file (scope_behind s later scope) in
      i.tick ∷ (stat_code s later (length rest + exit) file scope ++ rest)

  pub stat_code : Stat → (later : List Bytes) → (exit : ℕ) → (file : Bytes) → Scope → List Instr
  stat_code (assign line ts es) later exit file scope =
      let at : ℕ = slot_count scope in
      let from : ℕ = at + widths ts in
      in_place (own_slot ts es scope) (first_code es file scope at)
      (targets_code ts file scope at
      ++ (exprs_code es file scope from
      ++ (fitted from (target_count ts) (count es) (tailed es)
      ++ stores ts (from + target_count ts) scope at from)))
  stat_code (local line xs es) later exit file scope =
      let at : ℕ = slot_count scope in
      exprs_code es file scope at
      ++ (fitted at (length xs) (count es) (tailed es) ++ declare_code xs later scope)
  stat_code (call_stat line e) later exit file scope =
      expr_code e file scope (slot_count scope) (slot_count scope)
  stat_code (do_block line b) later exit file scope = block_code b [] exit file scope
  stat_code (while_loop line e b) later exit file scope =
      let h : ℕ = slot_count scope in
      let test : List Instr =
      unless_ready (ready_slot e scope) (expr_code e file scope h h) in
      loop_code (block_code b [] (length test + 1) file scope) test
      (slot_place (ready_slot e scope) h)
  stat_code (repeat_loop line b e) later exit file scope =
      let inner : Scope = scope_at_end b (expr_names false e) scope in
      let h : ℕ = slot_count inner in
      let test : List Instr =
      unless_ready (ready_slot e inner) (expr_code e file inner h h) in
      let body : List Instr = block_code b (expr_names false e) (length test + 1) file scope in
      i.tick ∷ (body ++ (test
      ++ i.back_unless (slot_place (ready_slot e inner) h) (length body + length test) ∷ []))
  stat_code (if_stat line arms) later exit file scope = arms_code arms exit file scope
  stat_code (num_for line x a b body) later exit file scope =
      let h : ℕ = slot_count scope in
      expr_code a file scope h h ++ (expr_code b file scope (h + 1) (h + 1)
      ++ i.load (h + 2) (constant (Value.num (pos 1)))
      ∷ count_code (site line (h + 3) scope) h
      (declare_code (x ∷ []) (captured_in body) (numbers_in scope)
      ++ block_code body [] 1 file (declared (x ∷ []) (captured_in body) (numbers_in scope))))
  stat_code (num_for_by line x a b c body) later exit file scope =
      let h : ℕ = slot_count scope in
      expr_code a file scope h h ++ (expr_code b file scope (h + 1) (h + 1)
      ++ (expr_code c file scope (h + 2) (h + 2)
      ++ count_code (site line (h + 3) scope) h
      (declare_code (x ∷ []) (captured_in body) (numbers_in scope)
      ++ block_code body [] 1 file (declared (x ∷ []) (captured_in body) (numbers_in scope)))))
  stat_code (gen_for line xs es body) later exit file scope =
      let h : ℕ = slot_count scope in
      let outer : Scope = numbers_in scope in
      let control : List Instr = each_code (site line (h + 3) scope) h (length xs) in
      let turn : List Instr = declare_code xs (captured_in body) outer ++ block_code body []
      (length control + 1) file (declared xs (captured_in body) outer) in
      exprs_code es file scope h ++ (fitted h 3 (count es) (tailed es)
      ++ i.skip (length turn) ∷ (turn ++ (control
      ++ i.each_next h (length turn + length control) ∷ [])))
  stat_code (function_stat line e f) later exit file scope =
      let at : ℕ = slot_count scope in
      let from : ℕ = at + width e in
      target_code e file scope at
      ++ i.close from (func_code f file (cell_names scope (func_names f)))
      (cell_places scope (func_names f))
      ∷ store e (from + 1) scope (slot at) (slot (at + 1)) (slot from)
  stat_code (local_function line x f) later exit file scope =
      let at : ℕ = slot_count scope in
      let inner : Scope = declared (x ∷ []) (func_names f ++ later) scope in
      i.load at (constant Value.nil) ∷ (declare_code (x ∷ []) (func_names f ++ later) scope
      ++ i.close at (func_code f file (cell_names inner (func_names f)))
      (cell_places inner (func_names f))
      ∷ local_code (seat_of inner x) at)
  stat_code (return_stat line es) later exit file scope =
      let h : ℕ = slot_count scope in
      exprs_code es file scope h ++ i.leave h (count es) (tailed es) ∷ []
  stat_code (break_stat line) later exit file scope = i.skip exit ∷ []

  -- the arms of an `if`
  pub arms_code : Arms → (exit : ℕ) → (file : Bytes) → Scope → List Instr
  arms_code no_else exit file scope = []
  arms_code (else_block b) exit file scope = block_code b [] exit file scope
  arms_code (arm_and e b arms) exit file scope =
      let h : ℕ = slot_count scope in
      let rest : List Instr = arms_code arms exit file scope in
      let over : List Instr = skip_over rest in
      let body : List Instr =
      block_code b [] (length over + (length rest + exit)) file scope in
      unless_ready (ready_slot e scope) (expr_code e file scope h h)
      ++ i.skip_unless (slot_place (ready_slot e scope) h) (length body + length over)
      ∷ (body ++ (over ++ rest))

  -- the parts of targets, in slots from the height on
  pub target_code : Expr → (file : Bytes) → Scope → (h : ℕ) → List Instr
  target_code (index line e k) file scope h =
      expr_code e file scope h h ++ expr_code k file scope (h + 1) (h + 1)
  target_code e file scope h = []

  pub targets_code : Exprs → (file : Bytes) → Scope → (h : ℕ) → List Instr
  targets_code no_exprs file scope h = []
  targets_code (expr_and e es) file scope h =
      target_code e file scope h ++ targets_code es file scope (h + width e)

-- the main function of a file: no parameters, and all arguments are extra
abbrev pub chunk_code : (file : Bytes) → Block → Proto
chunk_code file b = proto file 0 true (block_code b [] 0 file [] ++ last ∷ [])
