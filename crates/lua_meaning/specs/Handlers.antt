-- Reading and setting a field along the handlers `__index` and `__newindex` (manual §2.8).
use Rattle.std.specs.Prelude.{ℕ, zero, suc, Bool, true, false, not, List, ◌++◌, Option, Some, None, if◌then◌else◌, codes, filter, bytes_eq}
use Rattle.lua_tree.specs.Tree.{Bytes}
use Rattle.lua_meaning.specs.Native.{Native, named, on_shelf, channel_methods, thread_methods, data_methods, object_methods, name}
use Rattle.lua_meaning.specs.Value.{Value, nil, str, table, func, native, channel, thread, datum, is_nil}
use Rattle.lua_meaning.specs.Store.{Store, raw_get, handler, contents_at}

-- whether a value is a function
abbrev pub is_function : Value → Bool
is_function (func f) = true
is_function (native f) = true
is_function v = false

-- what reading a field comes to: a value, a handler that is asked and the value that has it, a value without fields, or
-- too long a chain
pub data Lookup : Type 0 where
  found : Value → Lookup
  asks : (handler base : Value) → Lookup
  unindexed : Value → Lookup
  endless : Lookup

-- what setting a field comes to: a table whose raw value is set, and else as above
pub data Setting : Type 0 where
  in_table : ℕ → Setting
  asks_set : (handler base : Value) → Setting
  unindexed_set : Value → Setting
  endless_set : Setting

-- ---- objects

-- a function of some functions as a value, nil where there is none of that name
abbrev pub method_value : Option Native → Value
method_value None = nil
method_value (Some f) = native f

abbrev pub method_named : List Native → Value → Value
method_named fs (str key) = method_value (named key fs)
method_named fs key = nil

-- the methods of Data; only what came from a file has a file's name
abbrev pub methods_of_data : Option Bytes → List Native
methods_of_data (Some file) = on_shelf data_methods ++ on_shelf object_methods
methods_of_data None =
    filter (λ f. not (bytes_eq (name f) (codes "getFilename")))
    (on_shelf data_methods) ++ on_shelf object_methods

-- ---- reading

-- the value that a table or an object has itself for a key; an object has all that it ever has
abbrev pub own_value : Store → Value → (key : Value) → Option Value
own_value s (table t) key = if is_nil (raw_get s t key) then None else Some (raw_get s t key)
own_value s (channel c) key =
    Some (method_named (on_shelf channel_methods ++ on_shelf object_methods) key)
own_value s (thread t) key =
    Some (method_named (on_shelf thread_methods ++ on_shelf object_methods) key)
own_value s (datum d) key = Some (method_named (methods_of_data (contents_at s d).name) key)
own_value s v key = None

-- where a value has no handler a table gives nil, and another one has no fields
abbrev pub unhandled : Value → Lookup
unhandled (table t) = found nil
unhandled v = unindexed v

-- a handler that is a function is asked; another one is indexed in its place
abbrev pub by_handler : (base handler : Value) → (Value → Lookup) → Lookup
by_handler base nil next = unhandled base
by_handler base h next = if is_function h then asks h base else next h

abbrev pub by_own : Store → (base : Value) → Option Value → (Value → Lookup) → Lookup
by_own s base (Some v) next = found v
by_own s base None next = by_handler base (handler s base (codes "__index")) next

-- a field of a handler, where so many further handlers may be indexed
abbrev pub lookup_within : ℕ → Store → (key base : Value) → Lookup
lookup_within zero s key base = endless
lookup_within (suc left) s key base =
    by_own s base (own_value s base key) (λ h. lookup_within left s key h)

-- a field of a value; the hundredth handler that isn't a function is one too many
abbrev pub lookup : Store → (base key : Value) → Lookup
lookup s base key = by_own s base (own_value s base key) (λ h. lookup_within 99 s key h)

-- ---- setting

abbrev pub unhandled_set : Value → Setting
unhandled_set (table t) = in_table t
unhandled_set v = unindexed_set v

abbrev pub set_by_handler : (base handler : Value) → (Value → Setting) → Setting
set_by_handler base nil next = unhandled_set base
set_by_handler base h next = if is_function h then asks_set h base else next h

-- a table that has a value for the key keeps to itself
abbrev pub set_by_own : Store → (base key : Value) → (Value → Setting) → Setting
set_by_own s (table t) key next =
    if is_nil (raw_get s t key)
    then set_by_handler (table t) (handler s (table t) (codes "__newindex")) next
    else in_table t
set_by_own s base key next = set_by_handler base (handler s base (codes "__newindex")) next

abbrev pub setting_within : ℕ → Store → (key base : Value) → Setting
setting_within zero s key base = endless_set
setting_within (suc left) s key base = set_by_own s base key (λ h. setting_within left s key h)

-- where a field of a value is set
abbrev pub setting : Store → (base key : Value) → Setting
setting s base key = set_by_own s base key (λ h. setting_within 99 s key h)
