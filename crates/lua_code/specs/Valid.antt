-- Code that is in order: which jumps, cells and functions a list of prototypes may have.
use Rattle.std.specs.Prelude.{◌≡◌, ℕ, suc, ◌+◌, ◌-◌, ◌^◌, ◌<◌, ◌≤◌, max, List, [], length, Option, Some, None, slice_get, unwrap_or, EachIndex, ⊤}
use Rattle.std.specs.List.{AllByRecursion}
use Rattle.lua_code.specs.declared.instr.Instr.{Instr}
use Rattle.lua_code.specs.declared.instr.Instr.TheVariants.{GetCell, SetCell, SetCellConst, NewCell, Close, SetItem, SetItemConst, SetRest, Tick, Skip, SkipIf, SkipUnless, BackIf, BackUnless, ForBegin, ForNext, EachNext, Leave}
use Rattle.lua_code.specs.declared.instr.Site.{Site}
use Rattle.lua_code.specs.View.{ProtoView}
use Rattle.lua_code.specs.Within.{IsProto}

-- ---- what stands at a place

abbrev pub instr_at : ProtoView → ℕ → Instr
instr_at p pc = unwrap_or (slice_get p.instrs pc) Tick

abbrev pub cells_of : Option Site → ℕ
cells_of None = 0
cells_of (Some s) = s.cells

-- how many cells there are before an instruction
abbrev pub cells_at : ProtoView → ℕ → ℕ
cells_at p pc = cells_of (slice_get p.sites pc)

abbrev pub captures_of : Option ProtoView → List ℕ
captures_of None = []
captures_of (Some p) = p.captures

-- which cells of the function around it a function of a list holds
abbrev pub captures_at : List ProtoView → ℕ → List ℕ
captures_at ps n = captures_of (slice_get ps n)

-- ---- jumps

-- what an instruction leads to is inside, and has no more cells than there are then
pub record Leads (p : ProtoView) (cells pc : ℕ) : Type 0 where
  pub inside : pc < length p.instrs
  pub height : cells_at p pc ≤ cells

-- the instructions that one leads to, by its place; a jump back is no further than to the first one
abbrev pub Reaches : ProtoView → (cells pc : ℕ) → Instr → Type 0
Reaches p cells pc (Skip n) = Leads p cells (pc + 1 + n)
Reaches p cells pc (SkipIf from n) = Leads p cells (pc + 1) × Leads p cells (pc + 1 + n)
Reaches p cells pc (SkipUnless from n) = Leads p cells (pc + 1) × Leads p cells (pc + 1 + n)
Reaches p cells pc (ForBegin at n) = Leads p cells (pc + 1) × Leads p cells (pc + 1 + n)
Reaches p cells pc (BackIf from n) =
    Leads p cells (pc + 1) × (n ≤ pc) × Leads p cells (pc - n)
Reaches p cells pc (BackUnless from n) =
    Leads p cells (pc + 1) × (n ≤ pc) × Leads p cells (pc - n)
Reaches p cells pc (ForNext at n) =
    Leads p cells (pc + 1) × (n ≤ pc) × Leads p cells (pc - n)
Reaches p cells pc (EachNext at n) =
    Leads p cells (pc + 1) × (n ≤ pc) × Leads p cells (pc - n)
Reaches p cells pc (Leave from count tailed) = ⊤
Reaches p cells pc x = Leads p cells (pc + 1)

-- ---- cells and functions

-- the cells that an instruction uses are there; a new one is among them or the next one. A function that it makes stands
-- in the list before its own, and so do the cells that it holds. Items of a table are numbered from 1
abbrev pub Uses : List ProtoView → (own cells : ℕ) → Instr → Type 0
Uses ps own cells (GetCell to cell) = cell < cells
Uses ps own cells (SetCell cell from) = cell < cells
Uses ps own cells (SetCellConst cell n) = cell < cells
Uses ps own cells (NewCell cell from) = cell ≤ cells
Uses ps own cells (Close to n) = (n < own) × AllByRecursion (λ c. c < cells) (captures_at ps n)
Uses ps own cells (SetItem table number from) = 0 < number
Uses ps own cells (SetItemConst table number n) = 0 < number
Uses ps own cells (SetRest table number) = 0 < number
Uses ps own cells x = ⊤

-- how many cells there are behind an instruction
abbrev pub cells_behind : ℕ → Instr → ℕ
cells_behind cells (NewCell cell from) = max cells (suc cell)
cells_behind cells x = cells

-- ---- lists

pub record IsFine (ps : List ProtoView) (own : ℕ) (p : ProtoView) (pc : ℕ) : Type 0 where
  pub uses : Uses ps own (cells_at p pc) (instr_at p pc)
  pub reaches : Reaches p (cells_behind (cells_at p pc) (instr_at p pc)) pc (instr_at p pc)

-- the prototype of a number: it begins with the cells that it holds
pub record IsSound (ps : List ProtoView) (own : ℕ) (p : ProtoView) : Type 0 where
  pub held : IsProto p
  pub short : length p.instrs < 2 ^ 32
  pub begins : Leads p (length p.captures) 0
  pub each : EachIndex p.instrs (IsFine ps own p)

abbrev pub IsSoundOf : List ProtoView → ℕ → Option ProtoView → Type 0
IsSoundOf ps own None = ⊤
IsSoundOf ps own (Some p) = IsSound ps own p

-- each is in order, and the last one, which is the chunk's, holds no cells
pub record AreValid (ps : List ProtoView) : Type 0 where
  pub main : 0 < length ps
  pub holds_none : captures_at ps (length ps - 1) ≡ []
  pub each : EachIndex ps (λ n. IsSoundOf ps n (slice_get ps n))
