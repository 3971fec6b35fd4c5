-- Which slots and constants an instruction names.
use Rattle.std.specs.Prelude.{◌≡◌, ℕ, suc, ◌+◌, ◌<◌, ◌≤◌, max, length, ⊤}
use Rattle.std.specs.List.{AllByRecursion}
use Rattle.lua_code.specs.declared.instr.Instr.{Instr}
use Rattle.lua_code.specs.declared.instr.Instr.TheVariants.{Move, Const, GetCell, SetCell, SetCellConst, NewCell, Close, NewTable, SetItem, SetItemConst, SetRest, SetNew, SetNewConst, SetNewNamed, SetNewNamedConst, FirstExtra, AllExtra, Unary, Binary, BinaryConst, GetField, GetNamed, GetGlobal, SetField, SetFieldConst, SetNamed, SetNamedConst, SetGlobal, SetGlobalConst, Invoke, InvokeAll, Spread, Tick, Skip, SkipIf, SkipUnless, BackIf, BackUnless, ForBegin, ForNext, EachNext, Leave}
use Rattle.lua_code.specs.View.{ProtoView}

-- how many slots a frame has at least whose function has this instruction
abbrev pub slots_of : Instr → ℕ
slots_of (Move to from) = max (suc to) (suc from)
slots_of (Const to n) = suc to
slots_of (GetCell to cell) = suc to
slots_of (SetCell cell from) = suc from
slots_of (SetCellConst cell n) = 0
slots_of (NewCell cell from) = suc from
slots_of (Close to n) = suc to
slots_of (NewTable to) = suc to
slots_of (SetItem table number from) = max (suc table) (suc from)
slots_of (SetItemConst table number n) = suc table
slots_of (SetRest table number) = suc table
slots_of (SetNew table key from) = max (suc table) (max (suc key) (suc from))
slots_of (SetNewConst table key n) = max (suc table) (suc key)
slots_of (SetNewNamed table name from) = max (suc table) (suc from)
slots_of (SetNewNamedConst table name n) = suc table
slots_of (FirstExtra to) = suc to
slots_of AllExtra = 0
slots_of (Unary op to from) = max (suc to) (suc from)
slots_of (Binary op to left right) = max (suc to) (max (suc left) (suc right))
slots_of (BinaryConst op to left n) = max (suc to) (suc left)
slots_of (GetField to base key) = max (suc to) (max (suc base) (suc key))
slots_of (GetNamed to base name) = max (suc to) (suc base)
slots_of (GetGlobal to name) = suc to
slots_of (SetField base key from) = max (suc base) (max (suc key) (suc from))
slots_of (SetFieldConst base key n) = max (suc base) (suc key)
slots_of (SetNamed base name from) = max (suc base) (suc from)
slots_of (SetNamedConst base name n) = suc base
slots_of (SetGlobal name from) = suc from
slots_of (SetGlobalConst name n) = 0
slots_of (Invoke to at count tailed) = max (suc to) (at + 1 + count)
slots_of (InvokeAll at count tailed) = at + 1 + count
slots_of (Spread from count tailed) = from + count
slots_of Tick = 0
slots_of (Skip count) = 0
slots_of (SkipIf from count) = suc from
slots_of (SkipUnless from count) = suc from
slots_of (BackIf from count) = suc from
slots_of (BackUnless from count) = suc from
slots_of (ForBegin at count) = at + 4
slots_of (ForNext at count) = at + 4
slots_of (EachNext at count) = at + 4
slots_of (Leave from count tailed) = from + count

-- its constants are among so many
abbrev pub AreKnown : ℕ → Instr → Type 0
AreKnown count (Const to n) = n < count
AreKnown count (SetCellConst cell n) = n < count
AreKnown count (SetItemConst table number n) = n < count
AreKnown count (SetNewConst table key n) = n < count
AreKnown count (SetNewNamed table name from) = name < count
AreKnown count (SetNewNamedConst table name n) = (name < count) × (n < count)
AreKnown count (BinaryConst op to left n) = n < count
AreKnown count (GetNamed to base name) = name < count
AreKnown count (GetGlobal to name) = name < count
AreKnown count (SetFieldConst base key n) = n < count
AreKnown count (SetNamed base name from) = name < count
AreKnown count (SetNamedConst base name n) = (name < count) × (n < count)
AreKnown count (SetGlobal name from) = name < count
AreKnown count (SetGlobalConst name n) = (name < count) × (n < count)
AreKnown count x = ⊤

pub record IsWithin (size count : ℕ) (x : Instr) : Type 0 where
  pub slots : slots_of x ≤ size
  pub constants : AreKnown count x

-- what holds of every prototype: its slots and its constants are there, and each instruction has a site
pub record IsProto (p : ProtoView) : Type 0 where
  pub params : p.params ≤ p.size
  pub sites : length p.sites ≡ length p.instrs
  pub within : AllByRecursion (IsWithin p.size (length p.constants)) p.instrs
