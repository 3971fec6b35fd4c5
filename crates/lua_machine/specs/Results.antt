-- The results of a function, and what a frame wants of them.
use Rattle.std.specs.Prelude.{◌≡◌, ℕ, ◌+◌, List, [], ◌++◌, map, set, Bool, true, false, not, ⊤, slice_range}
use Rattle.lua_meaning.specs.Value as meant
use Rattle.lua_meaning.specs.Value.{is_true}
use Rattle.lua_heap.specs.declared.value.Value.{Value}
use Rattle.lua_heap.specs.declared.value.Value.TheVariants.{Bool as Flag}
use Rattle.lua_heap.specs.Value.{value_view}
use Rattle.lua_code.specs.State.{row}
use Rattle.lua_machine.specs.declared.frame.Wants.{Wants}
use Rattle.lua_machine.specs.declared.frame.Wants.TheVariants.{ToSlot, TruthTo, UntruthTo, ToTail, Nothing}
use Rattle.lua_machine.specs.View.{EngineView, slots_view}
use Rattle.lua_machine.specs.declared.status.Status.{Status}
use Rattle.lua_machine.specs.declared.status.Status.TheVariants.{Gives}
use Rattle.lua_machine.specs.Arguments as args

abbrev pub tail_where : Bool → List Value → List Value
tail_where true tail = tail
tail_where false tail = []

-- so many values from a slot on, and the tail where it is wanted
abbrev pub held_at : EngineView → (first count : ℕ) → Bool → List Value
held_at m first count tailed =
    slice_range m.values first (first + count) ++ tail_where tailed m.tail

-- the same as the definitions have them
abbrev pub results_at : EngineView → (first count : ℕ) → Bool → List meant.Value
results_at m first count tailed =
    row (slots_view m.heap.texts m.values) first count
    ++ map (value_view m.heap.texts) (tail_where tailed m.tail)

-- whether a value is true
abbrev pub truth : EngineView → Value → Bool
truth m v = is_true (value_view m.heap.texts v)

-- only the first result is wanted, or none
abbrev pub WantsOne : Wants → Type 0
WantsOne ToTail = ⊥
WantsOne w = ⊤

-- the slots when the first result has come
abbrev pub received_values : Wants → Value → EngineView → List Value
received_values (ToSlot n) v m = set m.values (m.base + n) v
received_values (TruthTo n) v m = set m.values (m.base + n) (Flag (truth m v))
received_values (UntruthTo n) v m = set m.values (m.base + n) (Flag (not (truth m v)))
received_values ToTail v m = m.values
received_values Nothing v m = m.values

-- values of slots, and the tail where it is wanted, are put together as arguments are
abbrev pub Gathers : (first count : ℕ) → Bool → Status → EngineView → EngineView → Type 0
Gathers first count tailed status old new =
    (status ≡ Gives)
    × (new ≡ record old { args = args.given old first count (args.behind_where tailed) })
