-- Local variables (manual §2.3, §2.4.7, §2.6): a captured one lives in a cell, any other is a value of the running call.
use Rattle.std.specs.Prelude.{ℕ, ◌-◌, Bool, true, false, List, [], ◌∷◌, ◌++◌, length, drop, Option, Some, None, if◌then◌else◌, bytes_eq}
use Rattle.lua_tree.specs.Tree.{Bytes, Func}
use Rattle.lua_meaning.specs.Value.{Value, func as func_value, first}
use Rattle.lua_meaning.specs.Names.{is_captured, func_names}
use Rattle.lua_meaning.specs.Store.{cell_value, add_cell, set_cell}
use Rattle.lua_meaning.specs.World.{Act, ◌>>=◌, ◌>>◌, give, look, look_around, change, keep_function}

-- where a local's value is
pub data Slot : Type 0 where
  held : Value → Slot
  cell : (place : ℕ) → Slot

-- the locals in scope, the last one first
abbrev pub Env : Type 0
Env = List (Bytes × Slot)

-- how a statement or a block ends, and the locals then: it goes on, it leaves the loop around it, or it returns values
pub data Flow : Type 0 where
  normal : Env → Flow
  broken : Env → Flow
  returned : List Value → Flow

-- what a function that ends so returns
abbrev pub values_of : Flow → List Value
values_of (normal env) = []
values_of (broken env) = []
values_of (returned vs) = vs

-- the local of a name
abbrev pub find : Bytes → Env → Option Slot
find x [] = None
find x (entry ∷ env) = if bytes_eq entry.0 x then Some entry.1 else find x env

-- the locals where that of a name holds a value
abbrev pub holding : Bytes → Value → Env → Env
holding x v [] = []
holding x v (entry ∷ env) =
    if bytes_eq entry.0 x then (entry.0, held v) ∷ env else entry ∷ holding x v env

-- what a local holds
abbrev pub slot_value : Slot → Act Value
slot_value (held v) = give v
slot_value (cell c) = look (λ s. cell_value s c)

-- a local gets a value
abbrev pub set_slot : Bytes → Value → Env → Slot → Act Env
set_slot x v env (held old) = give (holding x v env)
set_slot x v env (cell c) = change (λ s. set_cell s c v) >> give env

abbrev pub set_found : Bytes → Value → Env → Option Slot → Act Env
set_found x v env None = give env
set_found x v env (Some slot) = set_slot x v env slot

abbrev pub set_local : Bytes → Value → Env → Act Env
set_local x v env = set_found x v env (find x env)

-- a fresh local
abbrev pub make_slot : (captured : Bool) → Value → Act Slot
make_slot false v = give (held v)
make_slot true v = do
  c ← look (λ s. length s.cells)
  change (λ s. add_cell s v)
  give (cell c)

-- fresh locals with values, nil where there are no more; `captured` has the names that functions in their scope use
abbrev pub declare : List Bytes → (captured : List Bytes) → List Value → Env → Act Env
declare [] captured vs env = give env
declare (x ∷ xs) captured vs env =
    make_slot (is_captured xs captured x) (first vs) >>=
    λ slot. declare xs captured (drop 1 vs) ((x, slot) ∷ env)

-- the locals that were there before others came in front of them
abbrev pub outer : (before : Env) → Env → Env
outer before env = drop (length env - length before) env

-- at a block's end its locals are gone
abbrev pub closed : (before : Env) → Flow → Flow
closed before (normal env) = normal (outer before env)
closed before (broken env) = broken (outer before env)
closed before (returned vs) = returned vs

abbrev pub in_scope : (before : Env) → Act Flow → Act Flow
in_scope before act = act >>= λ flow. give (closed before flow)

-- goes on with the statement behind
abbrev pub go_on : Flow → (Env → Act Flow) → Act Flow
go_on (normal env) next = next env
go_on (broken env) next = give (broken env)
go_on (returned vs) next = give (returned vs)

-- ---- functions

abbrev pub cell_found : Bytes → Option Slot → List (Bytes × ℕ)
cell_found x None = []
cell_found x (Some (held v)) = []
cell_found x (Some (cell c)) = (x, c) ∷ []

-- the cells of names; a name that is no local is one of the globals
abbrev pub cells_of : List Bytes → Env → List (Bytes × ℕ)
cells_of [] env = []
cells_of (x ∷ xs) env = cell_found x (find x env) ++ cells_of xs env

-- a new function of a file
abbrev pub make_function : (file : Bytes) → Func → Env → Act Value
make_function file f env = do
  place ← look_around (λ functions s. length functions)
  keep_function (record {
    file =
        file;
    node = f;
    cells = cells_of (func_names f) env;
  })
  give (func_value place)

-- the locals that a function finds outside itself
abbrev pub outside : List (Bytes × ℕ) → Env
outside [] = []
outside (entry ∷ cells) = (entry.0, cell entry.1) ∷ outside cells
