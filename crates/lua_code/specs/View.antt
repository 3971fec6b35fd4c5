-- What a prototype's lists stand for: the code of the definitions, as a tree.
use Rattle.std.specs.Prelude.{ℕ, Bool, false, List, [], ◌∷◌, ◌++◌, slice_get, unwrap_or, ◌<◌, ⊤}
use Rattle.lua_tree.specs.Tree.{Bytes}
use Rattle.lua_tree.specs.View.{unary_view, binary_view}
use Rattle.lua_meaning.specs.Value as meant
use Rattle.lua_meaning.specs.Expressions.{globals}
use Rattle.lua_code.specs.Instr as i
use Rattle.lua_code.specs.Instr.{Operand, slot, constant, proto}
use Rattle.lua_code.specs.declared.constant.Constant.{Constant}
use Rattle.lua_code.specs.declared.constant.Constant.TheVariants.{Nil, Bool as Flag, Num, Str}
use Rattle.lua_code.specs.declared.instr.Instr.{Instr}
use Rattle.lua_code.specs.declared.instr.Instr.TheVariants.{Move, Const, GetCell, SetCell, SetCellConst, NewCell, Close, NewTable, SetItem, SetItemConst, SetRest, SetNew, SetNewConst, SetNewNamed, SetNewNamedConst, FirstExtra, AllExtra, Unary, Binary, BinaryConst, GetField, GetNamed, GetGlobal, SetField, SetFieldConst, SetNamed, SetNamedConst, SetGlobal, SetGlobalConst, Invoke, InvokeAll, Spread, Tick, Skip, SkipIf, SkipUnless, BackIf, BackUnless, ForBegin, ForNext, EachNext, Leave}
use Rattle.lua_code.specs.declared.instr.Site.{Site}

-- a function's lists: its file, how many parameters it has, whether extra arguments are kept, which cells of the function
-- around it it holds, how many slots its frame has, its instructions, each with its site, and its constants
pub record ProtoView : Type 0 where
  pub file : Bytes
  pub params : ℕ
  pub varargs : Bool
  pub captures : List ℕ
  pub size : ℕ
  pub instrs : List Instr
  pub sites : List Site
  pub constants : List Constant

-- ---- constants and sites

abbrev pub constant_view : Constant → meant.Value
constant_view Nil = meant.nil
constant_view (Flag b) = meant.flag b
constant_view (Num n) = meant.num n
constant_view (Str text) = meant.str text

abbrev pub constant_at : List Constant → ℕ → meant.Value
constant_at constants n = constant_view (unwrap_or (slice_get constants n) Nil)

abbrev pub site_view : Site → i.Site
site_view s = record { line = s.line; above = s.above; cells = s.cells }

-- ---- instructions

-- the code that closures are made of, with the places of the cells that they hold
pub record Inner : Type 0 where
  pub code : i.Proto
  pub captures : List ℕ

abbrev pub no_inner : Inner
no_inner = record { code = proto [] 0 false []; captures = [] }

abbrev pub inner_at : List Inner → ℕ → Inner
inner_at made n = unwrap_or (slice_get made n) no_inner

-- an instruction among the constants of its function, with the functions that closures are made of and its site
module _ (constants : List Constant) (made : List Inner) (s : i.Site) where
  abbrev pub known : ℕ → Operand
  known n = constant (constant_at constants n)

  abbrev pub instr_view : Instr → i.Instr
  instr_view (Move to from) = i.load to (slot from)
  instr_view (Const to n) = i.load to (known n)
  instr_view (GetCell to cell) = i.get_cell to cell
  instr_view (SetCell cell from) = i.set_cell cell (slot from)
  instr_view (SetCellConst cell n) = i.set_cell cell (known n)
  instr_view (NewCell cell from) = i.new_cell cell from
  instr_view (Close to n) = i.close to (inner_at made n).code (inner_at made n).captures
  instr_view (NewTable to) = i.new_table to
  instr_view (SetItem table number from) = i.set_item table number (slot from)
  instr_view (SetItemConst table number n) = i.set_item table number (known n)
  instr_view (SetRest table number) = i.set_rest table number
  instr_view (SetNew table key from) = i.set_new s table (slot key) (slot from)
  instr_view (SetNewConst table key n) = i.set_new s table (slot key) (known n)
  instr_view (SetNewNamed table name from) = i.set_new s table (known name) (slot from)
  instr_view (SetNewNamedConst table name n) = i.set_new s table (known name) (known n)
  instr_view (FirstExtra to) = i.first_extra to
  instr_view AllExtra = i.all_extra
  instr_view (Unary op to from) = i.unary s (unary_view op) to (slot from)
  instr_view (Binary op to left right) = i.binary s (binary_view op) to (slot left) (slot right)
  instr_view (BinaryConst op to left n) = i.binary s (binary_view op) to (slot left) (known n)
  instr_view (GetField to base key) = i.get_field s to (slot base) (slot key)
  instr_view (GetNamed to base name) = i.get_field s to (slot base) (known name)
  instr_view (GetGlobal to name) = i.get_field s to (constant globals) (known name)
  instr_view (SetField base key from) = i.set_field s (slot base) (slot key) (slot from)
  instr_view (SetFieldConst base key n) = i.set_field s (slot base) (slot key) (known n)
  instr_view (SetNamed base name from) = i.set_field s (slot base) (known name) (slot from)
  instr_view (SetNamedConst base name n) = i.set_field s (slot base) (known name) (known n)
  instr_view (SetGlobal name from) = i.set_field s (constant globals) (known name) (slot from)
  instr_view (SetGlobalConst name n) = i.set_field s (constant globals) (known name) (known n)
  instr_view (Invoke to at count tailed) = i.invoke s (i.to_slot to) at count tailed
  instr_view (InvokeAll at count tailed) = i.invoke s i.to_tail at count tailed
  instr_view (Spread from count tailed) = i.spread from count tailed
  instr_view Tick = i.tick
  instr_view (Skip count) = i.skip count
  instr_view (SkipIf from count) = i.skip_if from count
  instr_view (SkipUnless from count) = i.skip_unless from count
  instr_view (BackIf from count) = i.back_if from count
  instr_view (BackUnless from count) = i.back_unless from count
  instr_view (ForBegin at count) = i.for_begin s at count
  instr_view (ForNext at count) = i.for_next at count
  instr_view (EachNext at count) = i.each_next at count
  instr_view (Leave from count tailed) = i.leave from count tailed

-- a function that an instruction makes is among so many
abbrev pub MakesBefore : ℕ → Instr → Type 0
MakesBefore count (Close to n) = n < count
MakesBefore count x = ⊤

-- ---- functions

-- instructions with their sites
abbrev pub instrs_view : List Constant → List Inner → List Instr → List Site → List i.Instr
instrs_view constants made [] sites = []
instrs_view constants made (x ∷ xs) [] = []
instrs_view constants made (x ∷ xs) (s ∷ sites) =
    instr_view constants made (site_view s) x ∷ instrs_view constants made xs sites

-- a function's instructions
abbrev pub body_view : List Inner → ProtoView → List i.Instr
body_view made p = instrs_view p.constants made p.instrs p.sites

abbrev pub proto_view : List Inner → ProtoView → i.Proto
proto_view made p = proto p.file p.params p.varargs (body_view made p)

abbrev pub inner_view : List Inner → ProtoView → Inner
inner_view made p = record { code = proto_view made p; captures = p.captures }

-- all functions of a list, each among those before it, behind those that are made already
abbrev pub inners_behind : List Inner → List ProtoView → List Inner
inners_behind made [] = made
inners_behind made (p ∷ ps) = inners_behind (made ++ inner_view made p ∷ []) ps

abbrev pub inners : List ProtoView → List Inner
inners ps = inners_behind [] ps

-- the function of a number
abbrev pub code_at : List ProtoView → ℕ → i.Proto
code_at ps n = (inner_at (inners ps) n).code
