-- How locals come into scope and go out of it.
use Rattle.std.specs.Prelude.{◌≡◌, ℕ, List, [], ◌∷◌, ◌++◌, length, map}
use Rattle.lua_tree.specs.Tree.{Bytes, Stat, Block}
use Rattle.lua_code.specs.Instr as i
use Rattle.lua_code.specs.Scope as scopes
use Rattle.lua_code.specs.Scope.{Scope, named, hidden, cell_code, declared, declare_code}
use Rattle.lua_code.specs.Code.{stat_code, block_code, scope_behind, scope_at_end}
use Rattle.lua_assembler.specs.declared.scope.Entry.{Entry}
use Rattle.lua_assembler.specs.Seats.{entry_view}
use Rattle.lua_assembler.specs.Writing.{Written, Adds}

-- entries in front of a scope, the last one first
abbrev pub on_top : List Entry → Scope → Scope
on_top entries scope = map entry_view entries ++ scope

-- entries come to those that stand behind them in the source
abbrev pub Precedes : (Scope → Scope) → (old new : List Entry) → Type 0
Precedes first old new = (scope : Scope) → on_top new scope ≡ on_top old (first scope)

-- what gives an entry its cell, where it stands in front of some
abbrev pub entry_code : scopes.Entry → Scope → List i.Instr
entry_code (named x kind) scope = cell_code kind scope
entry_code hidden scope = []

-- the last local in scope goes out of it, and the code that gives it its cell is put down
abbrev pub TakesEntry : (inner outer : Scope) → (old new : Written) → Type 0
TakesEntry inner outer old new =
    (e : scopes.Entry) (before : Scope) → inner ≡ e ∷ before →
    (outer ≡ before) × Adds (entry_code e before) old new

-- the last locals in scope go out of it, and the code that gives them their cells is put down
abbrev pub TakesLocals : (count : ℕ) → (inner outer : Scope) → (old new : Written) → Type 0
TakesLocals count inner outer old new =
    (names captured : List Bytes) (before : Scope) →
    length names ≡ count → inner ≡ declared names captured before →
    (outer ≡ before) × Adds (declare_code names captured before) old new

-- a statement's locals go out of scope, and its code is put down
abbrev pub TakesStat : Stat → (exit : ℕ) → (file : Bytes) → (inner outer : Scope) → (old new : Written) → Type 0
TakesStat s exit file inner outer old new =
    (later : List Bytes) (before : Scope) → inner ≡ scope_behind s later before →
    (outer ≡ before) × Adds (stat_code s later exit file before) old new

-- the same for a block's statements
abbrev pub TakesBlock : Block → (exit : ℕ) → (file : Bytes) → (inner outer : Scope) → (old new : Written) → Type 0
TakesBlock b exit file inner outer old new =
    (after : List Bytes) (before : Scope) → inner ≡ scope_at_end b after before →
    (outer ≡ before) × Adds (block_code b after exit file before) old new
