-- Where the locals in scope stand while a function runs.
use Rattle.std.specs.Prelude.{ℕ, zero, suc, Bool, true, false, List, [], ◌∷◌, ◌++◌, Option, Some, None, if◌then◌else◌, bytes_eq}
use Rattle.lua_tree.specs.Tree.{Bytes}
use Rattle.lua_meaning.specs.Names.{is_captured}
use Rattle.lua_code.specs.Instr.{Instr, new_cell}

-- A local of the running function has a slot, and a cell beside it where it is captured. One of the functions around has
-- a cell alone.
pub data Kind : Type 0 where
  in_slot : Kind
  in_cell : Kind
  outside : Kind

-- a local, or a slot of a loop that has no name
pub data Entry : Type 0 where
  named : Bytes → Kind → Entry
  hidden : Entry

-- the last one first
abbrev pub Scope : Type 0
Scope = List Entry

-- how many slots and how many cells the locals in scope have
abbrev pub slot_count : Scope → ℕ
slot_count [] = zero
slot_count (named x in_slot ∷ scope) = suc (slot_count scope)
slot_count (named x in_cell ∷ scope) = suc (slot_count scope)
slot_count (named x outside ∷ scope) = slot_count scope
slot_count (hidden ∷ scope) = suc (slot_count scope)

abbrev pub cell_count : Scope → ℕ
cell_count [] = zero
cell_count (named x in_slot ∷ scope) = cell_count scope
cell_count (named x in_cell ∷ scope) = suc (cell_count scope)
cell_count (named x outside ∷ scope) = suc (cell_count scope)
cell_count (hidden ∷ scope) = cell_count scope

-- where a local is
pub data Seat : Type 0 where
  at_slot : ℕ → Seat
  at_cell : ℕ → Seat

abbrev pub seat_behind : Kind → Scope → Seat
seat_behind in_slot scope = at_slot (slot_count scope)
seat_behind in_cell scope = at_cell (cell_count scope)
seat_behind outside scope = at_cell (cell_count scope)

-- a name that isn't a local is a field of the globals
abbrev pub seat_of : Scope → Bytes → Option Seat
seat_of [] x = None
seat_of (hidden ∷ scope) x = seat_of scope x
seat_of (named y kind ∷ scope) x =
    if bytes_eq y x then Some (seat_behind kind scope) else seat_of scope x

-- ---- declarations

abbrev pub kind_of : (captured : Bool) → Kind
kind_of true = in_cell
kind_of false = in_slot

-- with new locals; `captured` has the names that functions in their scope use
abbrev pub declared : List Bytes → (captured : List Bytes) → Scope → Scope
declared [] captured scope = scope
declared (x ∷ xs) captured scope =
    declared xs captured (named x (kind_of (is_captured xs captured x)) ∷ scope)

abbrev pub cell_code : Kind → Scope → List Instr
cell_code in_cell scope = new_cell (cell_count scope) (slot_count scope) ∷ []
cell_code in_slot scope = []
cell_code outside scope = []

-- each captured one gets its cell, with the value that stands in its slot
abbrev pub declare_code : List Bytes → (captured : List Bytes) → Scope → List Instr
declare_code [] captured scope = []
declare_code (x ∷ xs) captured scope =
    let kind : Kind = kind_of (is_captured xs captured x) in
    cell_code kind scope ++ declare_code xs captured (named x kind ∷ scope)

-- ---- functions

abbrev pub cell_of_seat : Option Seat → List ℕ
cell_of_seat None = []
cell_of_seat (Some (at_slot n)) = []
cell_of_seat (Some (at_cell n)) = n ∷ []

abbrev pub name_of_seat : Bytes → Option Seat → List Bytes
name_of_seat x None = []
name_of_seat x (Some (at_slot n)) = []
name_of_seat x (Some (at_cell n)) = x ∷ []

-- those of some names that are cells, and where these are, the first one last
abbrev pub cell_names : Scope → List Bytes → List Bytes
cell_names scope [] = []
cell_names scope (x ∷ xs) = name_of_seat x (seat_of scope x) ++ cell_names scope xs

abbrev pub cell_places : Scope → List Bytes → List ℕ
cell_places scope [] = []
cell_places scope (x ∷ xs) = cell_places scope xs ++ cell_of_seat (seat_of scope x)

-- what a function has in scope that holds cells of these names; the first name's cell is the last one
abbrev pub around : List Bytes → Scope
around [] = []
around (x ∷ xs) = named x outside ∷ around xs
