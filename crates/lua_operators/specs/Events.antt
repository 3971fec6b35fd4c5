-- The names of events, and their ids in a heap.
use Rattle.std.specs.Prelude.{◌≡◌, ℕ, List, Some, slice_get, codes}
use Rattle.lua_tree.specs.Tree.{Bytes}
use Rattle.lua_operators.specs.declared.events.Event.{Event}
use Rattle.lua_operators.specs.declared.events.Event.TheVariants.{Add, Sub, Mul, Div, Mod, Pow, Minus, Concat, Equal, Less, UpTo, Call, Text}
use Rattle.lua_operators.specs.declared.events.Events.{Events}

abbrev pub event_text : Event → Bytes
event_text Add = codes "__add"
event_text Sub = codes "__sub"
event_text Mul = codes "__mul"
event_text Div = codes "__div"
event_text Mod = codes "__mod"
event_text Pow = codes "__pow"
event_text Minus = codes "__unm"
event_text Concat = codes "__concat"
event_text Equal = codes "__eq"
event_text Less = codes "__lt"
event_text UpTo = codes "__le"
event_text Call = codes "__call"
event_text Text = codes "__tostring"

abbrev pub id_of : Events → Event → ℕ
id_of e Add = e.add
id_of e Sub = e.sub
id_of e Mul = e.mul
id_of e Div = e.div
id_of e Mod = e.modulo
id_of e Pow = e.pow
id_of e Minus = e.minus
id_of e Concat = e.concat
id_of e Equal = e.equal
id_of e Less = e.less
id_of e UpTo = e.up_to
id_of e Call = e.call
id_of e Text = e.text

-- each id is that of its event's name
abbrev pub AreEvents : List Bytes → Events → Type 0
AreEvents texts e = (event : Event) → slice_get texts (id_of e event) ≡ Some (event_text event)
