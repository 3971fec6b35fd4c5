-- Fields of tables and pairs, as the definitions read and set them.
use Rattle.std.proofs.Common.{◌≡◌, ◌≢◌, ℕ, List, [], Option, None, Some, Ok, ap, refl}
use Rattle.std.specs.Option.{option_map}
use Rattle.lua_tree.specs.Tree.{Bytes}
use Rattle.lua_meaning.specs.Value as meant
use Rattle.lua_meaning.specs.Store.{Store, raw_set}
use Rattle.lua_meaning.specs.Arguments.{answers}
use Rattle.lua_meaning.specs.Basic as meaning
use Rattle.lua_heap.specs.declared.value.Value.{Value}
use Rattle.lua_heap.specs.declared.value.Value.TheVariants.{Nil, Bool as Flag, Num, Str, Table as TableValue, Func, Native, Channel, Thread, Data}
use Rattle.lua_heap.specs.Value.{value_view}
use Rattle.lua_heap.specs.Next.{pair_view}
use Rattle.lua_lib.specs.Runs.{pair_or_nil, pair_or_none}

-- what `next` gives of a pair
pub pair_values-is : (texts : List Bytes) (pair : Option (Value × Value)) (s : Store)
    → meaning.pair_values (Ok (option_map (pair_view texts) pair)) s ≡ answers (pair_or_nil texts pair) s
pair_values-is texts None s = refl
pair_values-is texts (Some pair) s = refl

-- what `ipairs` walks over
pub walked-nil : (texts : List Bytes) (key : meant.Value) (v : Value) → v ≡ Nil → meaning.walked key (value_view texts v) ≡ []
walked-nil texts key v is = ap (λ x. meaning.walked key (value_view texts x)) is

pub walked-some : (texts : List Bytes) (key v : Value) → v ≢ Nil → meaning.walked (value_view texts key) (value_view texts v) ≡ pair_or_none texts (Some (key, v))
walked-some texts key Nil some = absurd (some refl)
walked-some texts key (Flag b) some = refl
walked-some texts key (Num z) some = refl
walked-some texts key (Str id) some = refl
walked-some texts key (TableValue id) some = refl
walked-some texts key (Func id) some = refl
walked-some texts key (Native f) some = refl
walked-some texts key (Channel n) some = refl
walked-some texts key (Thread n) some = refl
walked-some texts key (Data id) some = refl

-- a field whose key isn't nil
pub set_field-some : (texts : List Bytes) (t : ℕ) (key : Value) (v : meant.Value) (s : Store) → key ≢ Nil
    → meaning.set_field t (value_view texts key) v s ≡ answers tt (raw_set s t (value_view texts key) v)
set_field-some texts t Nil v s some = absurd (some refl)
set_field-some texts t (Flag b) v s some = refl
set_field-some texts t (Num z) v s some = refl
set_field-some texts t (Str id) v s some = refl
set_field-some texts t (TableValue id) v s some = refl
set_field-some texts t (Func id) v s some = refl
set_field-some texts t (Native f) v s some = refl
set_field-some texts t (Channel n) v s some = refl
set_field-some texts t (Thread n) v s some = refl
set_field-some texts t (Data id) v s some = refl
