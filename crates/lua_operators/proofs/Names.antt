-- Ids of names in a heap that grows.
use Rattle.std.proofs.Common.{◌≡◌, ℕ, zero, suc, ◌<◌, List, [], ◌∷◌, ◌++◌, length, Some, slice_get, ap, ◌∙◌, arith}
use Rattle.std.specs.Prelude.{unwrap_or, codes}
use Rattle.lua_tree.specs.Tree.{Bytes}
use Rattle.lua_heap.specs.Value.{text_at}
use Rattle.lua_heap.specs.Heap.{HeapView, Extends}
use Rattle.lua_operators.specs.declared.events.Event.TheVariants.{Add, Sub, Mul, Div, Mod, Pow, Minus, Concat, Equal, Less, UpTo, Call, Text}
use Rattle.lua_operators.specs.declared.events.Events.{Events}
use Rattle.lua_operators.specs.Events.{AreEvents, id_of, event_text}

pub there : (texts : List Bytes) (id : ℕ) (name : Bytes) → slice_get texts id ≡ Some name → id < length texts
there [] id name is = cc
there (t ∷ ts) zero name is = omega arith
there (t ∷ ts) (suc id) name is = let h = there ts id name is in omega (arith, h)

pub named : (texts : List Bytes) (id : ℕ) (name : Bytes) → slice_get texts id ≡ Some name → text_at texts id ≡ name
named texts id name is = ap (λ o. unwrap_or o []) is

longer : (texts more : List Bytes) (id : ℕ) (name : Bytes) → slice_get texts id ≡ Some name → slice_get (texts ++ more) id ≡ Some name
longer [] more id name is = cc
longer (t ∷ ts) more zero name is = is
longer (t ∷ ts) more (suc id) name is = longer ts more id name is

-- a name keeps its id
pub later : (h k : HeapView) → Extends h k → (id : ℕ) (name : Bytes) → slice_get h.texts id ≡ Some name → slice_get k.texts id ≡ Some name
later h k more id name is = ap (λ ts. slice_get ts id) more.texts.1 ∙ longer h.texts more.texts.0 id name is

pub AreEvents-later : (h k : HeapView) → Extends h k → (e : Events) → AreEvents h.texts e → AreEvents k.texts e
AreEvents-later h k more e are = λ event. later h k more (id_of e event) (event_text event) (are event)

-- each name has its id
pub are_events : (texts : List Bytes) (e : Events) → slice_get texts e.add ≡ Some (codes "__add") → slice_get texts e.sub ≡ Some (codes "__sub") → slice_get texts e.mul ≡ Some (codes "__mul") → slice_get texts e.div ≡ Some (codes "__div") → slice_get texts e.modulo ≡ Some (codes "__mod") → slice_get texts e.pow ≡ Some (codes "__pow") → slice_get texts e.minus ≡ Some (codes "__unm") → slice_get texts e.concat ≡ Some (codes "__concat") → slice_get texts e.equal ≡ Some (codes "__eq") → slice_get texts e.less ≡ Some (codes "__lt") → slice_get texts e.up_to ≡ Some (codes "__le") → slice_get texts e.call ≡ Some (codes "__call") → slice_get texts e.text ≡ Some (codes "__tostring") → AreEvents texts e
are_events texts e a b c d f g h i j k l m n Add = a
are_events texts e a b c d f g h i j k l m n Sub = b
are_events texts e a b c d f g h i j k l m n Mul = c
are_events texts e a b c d f g h i j k l m n Div = d
are_events texts e a b c d f g h i j k l m n Mod = f
are_events texts e a b c d f g h i j k l m n Pow = g
are_events texts e a b c d f g h i j k l m n Minus = h
are_events texts e a b c d f g h i j k l m n Concat = i
are_events texts e a b c d f g h i j k l m n Equal = j
are_events texts e a b c d f g h i j k l m n Less = k
are_events texts e a b c d f g h i j k l m n UpTo = l
are_events texts e a b c d f g h i j k l m n Call = m
are_events texts e a b c d f g h i j k l m n Text = n
