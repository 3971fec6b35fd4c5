-- The arguments of a call: those that stand in slots, and more behind them.
use Rattle.std.specs.Prelude.{ℕ, zero, suc, ◌+◌, Bool, true, false, List, [], ◌∷◌, ◌++◌, map, drop, set, slice_range}
use Rattle.lua_meaning.specs.Value as meant
use Rattle.lua_heap.specs.declared.value.Value.{Value}
use Rattle.lua_heap.specs.declared.value.Value.TheVariants.{Nil}
use Rattle.lua_heap.specs.Value.{value_view}
use Rattle.lua_code.specs.State.{row}
use Rattle.lua_machine.specs.declared.arguments.Behind.{Behind}
use Rattle.lua_machine.specs.declared.arguments.Behind.TheVariants.{Nothing, Tail, Args}
use Rattle.lua_machine.specs.View.{EngineView, slots_view}
use Rattle.lua_machine.specs.Changes.{with_cell}

-- ---- lists

abbrev pub first_of : List Value → Value
first_of [] = Nil
first_of (v ∷ vs) = v

-- so many slots from a place on get values, and nil where there are no more
abbrev pub filled : List Value → (at count : ℕ) → List Value → List Value
filled values at zero vs = values
filled values at (suc count) vs = filled (set values at (first_of vs)) (suc at) count (drop 1 vs)

-- places of a list of cells from one on get cells
abbrev pub all_put : List ℕ → (at : ℕ) → List ℕ → List ℕ
all_put cells at [] = cells
all_put cells at (id ∷ ids) = all_put (with_cell cells at id) (suc at) ids

-- ---- arguments

abbrev pub behind_where : Bool → Behind
behind_where true = Tail
behind_where false = Nothing

abbrev pub behind_in : Behind → (tail args : List Value) → List Value
behind_in Nothing tail args = []
behind_in Tail tail args = tail
behind_in Args tail args = args

abbrev pub behind_of : Behind → EngineView → List Value
behind_of behind m = behind_in behind m.tail m.args

-- so many values from a slot on, and those behind them
abbrev pub given : EngineView → (first count : ℕ) → Behind → List Value
given m first count behind =
    slice_range m.values first (first + count) ++ behind_of behind m

-- those behind the parameters, where they are kept
abbrev pub extra_given : (varargs : Bool) → (params : ℕ) → List Value → List Value
extra_given true params args = drop params args
extra_given false params args = []

-- all of them as the definitions have them
abbrev pub args_at : EngineView → (first count : ℕ) → Behind → List meant.Value
args_at m first count behind =
    row (slots_view m.heap.texts m.values) first count
    ++ map (value_view m.heap.texts) (behind_of behind m)
