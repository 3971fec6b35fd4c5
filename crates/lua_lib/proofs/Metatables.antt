-- Metatables and their field `__metatable`, as the definitions read them.
use Rattle.std.proofs.Common.{◌≡◌, ◌≢◌, ℕ, List, Option, None, Some, arith, ap, refl, sym, ◌∙◌}
use Rattle.std.specs.Prelude.{codes}
use Rattle.lua_tree.specs.Tree.{Bytes}
use Rattle.lua_meaning.specs.Value as meant
use Rattle.lua_meaning.specs.Store.{Store, handler, metatable, set_meta}
use Rattle.lua_meaning.specs.Fault.{says, improper}
use Rattle.lua_meaning.specs.Arguments.{Lib, faults, answer_one, change, ◌>>◌}
use Rattle.lua_meaning.specs.Basic as meaning
use Rattle.lua_heap.specs.declared.value.Value.{Value}
use Rattle.lua_heap.specs.declared.value.Value.TheVariants.{Nil, Bool as Flag, Num, Str, Table as TableValue, Func, Native, Channel, Thread, Data}
use Rattle.lua_heap.specs.Value.{value_view}
use Rattle.lua_heap.specs.Heap.{HeapView, IsMadeTable, Extends}

-- a field but nil stands for the metatable
pub shown-field : (texts : List Bytes) (field : Value) (meta : meant.Value) → field ≢ Nil → meaning.shown_metatable (value_view texts field) meta ≡ value_view texts field
shown-field texts Nil meta some = absurd (some refl)
shown-field texts (Flag b) meta some = refl
shown-field texts (Num z) meta some = refl
shown-field texts (Str id) meta some = refl
shown-field texts (TableValue id) meta some = refl
shown-field texts (Func id) meta some = refl
shown-field texts (Native f) meta some = refl
shown-field texts (Channel n) meta some = refl
shown-field texts (Thread n) meta some = refl
shown-field texts (Data id) meta some = refl

-- what `getmetatable` gives of a value
abbrev pub got : Store → meant.Value → meant.Value
got s v = meaning.shown_metatable (handler s v (codes "__metatable")) (meaning.metatable_value (metatable s v))

module _ (texts : List Bytes) (s : Store) (v : meant.Value) (field meta : Value) (m : Option ℕ) where
  pub got-meta : value_view texts field ≡ handler s v (codes "__metatable") → m ≡ metatable s v → value_view texts meta ≡ meaning.metatable_value m → field ≡ Nil
      → got s v ≡ value_view texts meta
  got-meta has is seen none =
      ap (λ f. meaning.shown_metatable f (meaning.metatable_value (metatable s v))) (sym has ∙ ap (value_view texts) none)
      ∙ (ap meaning.metatable_value (sym is) ∙ sym seen)

  pub got-field : value_view texts field ≡ handler s v (codes "__metatable") → field ≢ Nil → got s v ≡ value_view texts field
  got-field has some =
      ap (λ f. meaning.shown_metatable f (meaning.metatable_value (metatable s v))) (sym has)
      ∙ shown-field texts field (meaning.metatable_value (metatable s v)) some

-- what `setmetatable` does when the field is read
abbrev pub set_unless : ℕ → Option ℕ → meant.Value → Lib (List meant.Value)
set_unless t meta field = meaning.protected field >> (change (λ s. set_meta s t meta) >> answer_one (meant.table t))

pub set-refused : (texts : List Bytes) (t : ℕ) (meta : Option ℕ) (field : Value) (s : Store) → field ≢ Nil
    → set_unless t meta (value_view texts field) s ≡ faults (says (codes "cannot change a protected metatable"))
set-refused texts t meta Nil s some = absurd (some refl)
set-refused texts t meta (Flag b) s some = refl
set-refused texts t meta (Num z) s some = refl
set-refused texts t meta (Str id) s some = refl
set-refused texts t meta (TableValue id) s some = refl
set-refused texts t meta (Func id) s some = refl
set-refused texts t meta (Native f) s some = refl
set-refused texts t meta (Channel n) s some = refl
set-refused texts t meta (Thread n) s some = refl
set-refused texts t meta (Data id) s some = refl

-- an argument that is no metatable
pub meta-refused : (texts : List Bytes) (v : Value) (s : Store) → v ≢ Nil → ((id : ℕ) → v ≢ TableValue id)
    → meaning.meta_argument (value_view texts v) s ≡ faults (improper 1 (codes "nil or table expected"))
meta-refused texts Nil s some other = absurd (some refl)
meta-refused texts (Flag b) s some other = refl
meta-refused texts (Num z) s some other = refl
meta-refused texts (Str id) s some other = refl
meta-refused texts (TableValue id) s some other = absurd (other id refl)
meta-refused texts (Func id) s some other = refl
meta-refused texts (Native f) s some other = refl
meta-refused texts (Channel n) s some other = refl
meta-refused texts (Thread n) s some other = refl
meta-refused texts (Data id) s some other = refl

pub IsMadeTable-later : (h k : HeapView) → Extends h k → (table : Option ℕ) → IsMadeTable h table → IsMadeTable k table
IsMadeTable-later h k more None made = tt
IsMadeTable-later h k more (Some id) made = let m = more.tables in omega arith
