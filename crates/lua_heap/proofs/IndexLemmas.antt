-- Chains of handlers.
use Rattle.std.proofs.Common.{◌≡◌, ℕ, suc, true, false, cond, refl, sym, ap, subst, ◌∙◌, List}
use Rattle.std.specs.Prelude.{codes}
use Rattle.lua_tree.specs.Tree.{Bytes}
use Rattle.lua_meaning.specs.Value as meant
use Rattle.lua_meaning.specs.Store.{Store, raw_get, handler}
use Rattle.lua_meaning.specs.Handlers.{Setting, in_table, own_value, by_own, lookup, lookup_within, setting, setting_within, set_by_own, set_by_handler}
use Rattle.lua_heap.specs.declared.value.Value.{Value}
use Rattle.lua_heap.specs.declared.value.Value.TheVariants.{Nil, Bool as Flag, Num, Str, Table, Func, Native, Channel, Thread, Data}
use Rattle.lua_heap.specs.Value.{value_view}

start : (n : ℕ) (s : Store) (base key : meant.Value) → by_own s base (own_value s base key) (λ h. lookup_within n s key h) ≡ lookup_within (suc n) s key base
start n s base key = refl

-- a chain is one of a hundred values
pub lookup-start : (s : Store) (base key : meant.Value) → lookup s base key ≡ lookup_within 100 s key base
lookup-start s base key = start 99 s base key

pub lookup-next : (s : Store) (key base : meant.Value) (left n : ℕ) → left ≡ suc n → lookup_within left s key base ≡ by_own s base (own_value s base key) (λ h. lookup_within n s key h)
lookup-next s key base left n is = ap (λ m. lookup_within m s key base) is

start_set : (n : ℕ) (s : Store) (base key : meant.Value) → set_by_own s base key (λ h. setting_within n s key h) ≡ setting_within (suc n) s key base
start_set n s base key = refl

pub setting-start : (s : Store) (base key : meant.Value) → setting s base key ≡ setting_within 100 s key base
setting-start s base key = start_set 99 s base key

pub setting-next : (s : Store) (key base : meant.Value) (left n : ℕ) → left ≡ suc n → setting_within left s key base ≡ set_by_own s base key (λ h. setting_within n s key h)
setting-next s key base left n is = ap (λ m. setting_within m s key base) is

-- a table that has no value for a key asks its handler; one that has a value keeps to itself
pub unset_table : (texts : List Bytes) (s : Store) (base : Value) (id : ℕ) → base ≡ Table id → (key v : meant.Value) → v ≡ raw_get s id key → meant.is_nil v ≡ true
    → (next : meant.Value → Setting) → set_by_own s (value_view texts base) key next ≡ set_by_handler (value_view texts base) (handler s (value_view texts base) (codes "__newindex")) next
unset_table texts s base id is key v got none next =
    let P : Value → Type 0 = λ b. set_by_own s (value_view texts b) key next ≡ set_by_handler (value_view texts b) (handler s (value_view texts b) (codes "__newindex")) next in
    subst P (sym is) (ap (λ b. cond b (set_by_handler (meant.table id) (handler s (meant.table id) (codes "__newindex")) next) (in_table id)) (ap meant.is_nil (sym got) ∙ none))

pub set_table : (texts : List Bytes) (s : Store) (base : Value) (id : ℕ) → base ≡ Table id → (key v : meant.Value) → v ≡ raw_get s id key → meant.is_nil v ≡ false
    → (next : meant.Value → Setting) → set_by_own s (value_view texts base) key next ≡ in_table id
set_table texts s base id is key v got some next =
    let P : Value → Type 0 = λ b. set_by_own s (value_view texts b) key next ≡ in_table id in
    subst P (sym is) (ap (λ b. cond b (set_by_handler (meant.table id) (handler s (meant.table id) (codes "__newindex")) next) (in_table id)) (ap meant.is_nil (sym got) ∙ some))

pub not_nil : (texts : List Bytes) (v : Value) → (v ≡ Nil → ⊥) → meant.is_nil (value_view texts v) ≡ false
not_nil texts Nil some = absurd (some refl)
not_nil texts (Flag b) some = refl
not_nil texts (Num n) some = refl
not_nil texts (Str id) some = refl
not_nil texts (Table id) some = refl
not_nil texts (Func id) some = refl
not_nil texts (Native f) some = refl
not_nil texts (Channel n) some = refl
not_nil texts (Thread n) some = refl
not_nil texts (Data id) some = refl
