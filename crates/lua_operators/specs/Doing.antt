-- What an operator comes to, as the definitions of the machine say it.
use Rattle.std.specs.Prelude.{List, [], ◌∷◌, ⊤}
use Rattle.lua_tree.specs.Tree.{Bytes}
use Rattle.lua_meaning.specs.Value as meant
use Rattle.lua_heap.specs.declared.value.Value.{Value}
use Rattle.lua_heap.specs.Value.{value_view}
use Rattle.lua_heap.specs.Heap.{HeapView, IsMade}
use Rattle.lua_code.specs.Doing as code
use Rattle.lua_operators.specs.declared.doing.Use.{Use}
use Rattle.lua_operators.specs.declared.doing.Use.TheVariants.{Plain, Truth, Untruth}
use Rattle.lua_operators.specs.declared.doing.Doing.{Doing}
use Rattle.lua_operators.specs.declared.doing.Doing.TheVariants.{Gives, Asks, Fails}
use Rattle.lua_operators.specs.Faults.{fault_text}

-- a value among the strings of a heap
abbrev pub seen : HeapView → Value → meant.Value
seen h v = value_view h.texts v

abbrev pub use_view : Use → code.Use
use_view Plain = code.plain
use_view Truth = code.truth
use_view Untruth = code.untruth

abbrev pub doing_view : List Bytes → Doing → code.Doing
doing_view texts (Gives v) = code.gives (value_view texts v)
doing_view texts (Asks handler first second becomes) =
    code.asks (value_view texts handler) (value_view texts first ∷ value_view texts second ∷ [])
    (use_view becomes)
doing_view texts (Fails fault) = code.faults (fault_text fault)

-- what a heap's values come to
abbrev pub does : HeapView → Doing → code.Doing
does h d = doing_view h.texts d

-- its values were made by a heap
abbrev pub IsMadeDoing : HeapView → Doing → Type 0
IsMadeDoing h (Gives v) = IsMade h v
IsMadeDoing h (Asks handler first second becomes) =
    IsMade h handler × IsMade h first × IsMade h second
IsMadeDoing h (Fails fault) = ⊤

-- what holds where no value is given
abbrev pub UnlessGiven : Doing → Type 0 → Type 0
UnlessGiven (Gives v) P = ⊤
UnlessGiven (Asks handler first second becomes) P = P
UnlessGiven (Fails fault) P = P
