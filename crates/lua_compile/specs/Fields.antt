-- Fields of tables.
use Rattle.std.specs.Prelude.{◌≡◌, ℕ, suc, ◌+◌, Bool, true, false, List, [], ◌∷◌, ◌++◌}
use Rattle.lua_tree.specs.Tree.{Bytes, Expr, Fields, no_fields, item_and, keyed_and}
use Rattle.lua_code.specs.Instr as i
use Rattle.lua_code.specs.Scope.{Scope}
use Rattle.lua_code.specs.Code.{expr_code, tail_code, fields_code, ready, place, unless_ready, site}
use Rattle.lua_compile.specs.Lists.{one_or_all}
use Rattle.lua_assembler.specs.Writing.{Written, Adds}

-- how many fields are values alone
abbrev pub items : Fields → ℕ
items no_fields = 0
items (item_and e fs) = suc (items fs)
items (keyed_and k e fs) = items fs

-- one more of them, or not
abbrev pub one_more : Bool → ℕ → ℕ
one_more true n = suc n
one_more false n = n

abbrev pub is_none : Fields → Bool
is_none no_fields = true
is_none (item_and e fs) = false
is_none (keyed_and k e fs) = false

-- a value alone, which is the item of a number; all of its values where no field stands behind it
abbrev pub item_code : (last : Bool) → Expr → (n : ℕ) → (file : Bytes) → Scope → (table : ℕ) → List i.Instr
item_code last e n file scope table =
    one_or_all last e (unless_ready (ready e scope) (expr_code e file scope (suc table) (suc table))
    ++ i.set_item table n (place (ready e scope) (suc table)) ∷ [])
    (tail_code e file scope (suc table) ++ i.set_rest table n ∷ [])

-- a key and its value
abbrev pub pair_code : (key value : Expr) → (line : ℕ) → (file : Bytes) → Scope → (table : ℕ) → List i.Instr
pair_code k e line file scope table =
    unless_ready (ready k scope) (expr_code k file scope (suc table) (suc table))
    ++ (unless_ready (ready e scope) (expr_code e file scope (table + 2) (table + 2))
    ++ i.set_new (site line (table + 3) scope) table (place (ready k scope) (suc table))
    (place (ready e scope) (table + 2)) ∷ [])

-- a field's code is put down in front of that of the fields behind it, whose first item is that of the number `behind`
abbrev pub AddsField : (Fields → Fields) → (last : Bool) → (line behind n : ℕ) → (file : Bytes) → Scope → (table : ℕ) → (old new : Written) → Type 0
AddsField field last line behind n file scope table old new =
    (fs : Fields) (before : Written) → last ≡ is_none fs →
    Adds (fields_code fs line behind file scope table) before old →
    Adds (fields_code (field fs) line n file scope table) before new

-- how many items there are from a field on, with so many before those behind it
abbrev pub Counts : (Fields → Fields) → (behind n : ℕ) → Type 0
Counts field behind n = (fs : Fields) → n + items (field fs) ≡ behind + items fs
