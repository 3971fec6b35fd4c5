-- How scopes of the compiler are seen.
use Rattle.std.specs.Prelude.{ℕ, Bool, false, Option, Some, None, bytes_eq}
use Rattle.lua_tree.specs.Tree.{Bytes}
use Rattle.lua_code.specs.Scope as scopes
use Rattle.lua_code.specs.Scope.{in_slot, in_cell, outside, named, hidden, at_slot, at_cell}
use Rattle.lua_assembler.specs.declared.scope.Entry.{Entry}
use Rattle.lua_assembler.specs.declared.scope.Entry.TheVariants.{Slot, Cell, Outside, Hidden}
use Rattle.lua_assembler.specs.declared.scope.Seat.{Seat}
use Rattle.lua_assembler.specs.declared.scope.Seat.TheVariants as seats

abbrev pub entry_view : Entry → scopes.Entry
entry_view (Slot x) = named x.now in_slot
entry_view (Cell x) = named x.now in_cell
entry_view (Outside x) = named x.now outside
entry_view Hidden = hidden

abbrev pub seat_place : Seat → scopes.Seat
seat_place (seats.Slot n) = at_slot n
seat_place (seats.Cell n) = at_cell n

abbrev pub seat_view : Option Seat → Option scopes.Seat
seat_view None = None
seat_view (Some s) = Some (seat_place s)

-- whether a name is that of a local
abbrev pub has_name : scopes.Entry → Bytes → Bool
has_name (named y kind) x = bytes_eq y x
has_name hidden x = false

-- where it is, with so many slots and cells before it
abbrev pub place_behind : scopes.Entry → (slots cells : ℕ) → scopes.Seat
place_behind (named y in_slot) slots cells = at_slot slots
place_behind (named y in_cell) slots cells = at_cell cells
place_behind (named y outside) slots cells = at_cell cells
place_behind hidden slots cells = at_slot slots
