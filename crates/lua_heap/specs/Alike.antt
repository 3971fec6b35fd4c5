-- Values that `==` calls equal are one value.
use Rattle.std.specs.Prelude.{◌≡◌, Bool, true, refl}
use Rattle.std.proofs.Common.{ap, rules}
use Rattle.lua_heap.specs.contracts.native.Native.{the_type as native_type}
use Rattle.lua_heap.specs.contracts.value.ValuePartialEq.TheImpl.{ghosts}
use Rattle.lua_heap.specs.declared.value.Value.{Value}
use Rattle.lua_heap.specs.declared.value.Value.TheVariants.{Nil, Bool as Flag, Num, Str, Table, Func, Native, Channel, Thread, Data}
use denote.Enum.Bare.{same_true}

-- what `==` says of two values
abbrev pub value_eq : Value → Value → Bool
value_eq a b = ghosts.eq a b

pub alike : (a b : Value) → value_eq a b ≡ true → a ≡ b
alike Nil Nil e = refl
alike (Flag a) (Flag b) e = search rules
alike (Num a) (Num b) e = search rules
alike (Str a) (Str b) e = search rules
alike (Table a) (Table b) e = search rules
alike (Func a) (Func b) e = search rules
alike (Native a) (Native b) e = ap (λ f. Native f) (same_true native_type (search rules) a b e)
alike (Channel a) (Channel b) e = search rules
alike (Thread a) (Thread b) e = search rules
alike (Data a) (Data b) e = search rules
alike a b e = search rules

pub alike_same : (a : Value) → value_eq a a ≡ true
alike_same Nil = refl
alike_same (Flag a) = search rules
alike_same (Num a) = search rules
alike_same (Str a) = search rules
alike_same (Table a) = search rules
alike_same (Func a) = search rules
alike_same (Native a) = search rules
alike_same (Channel a) = search rules
alike_same (Thread a) = search rules
alike_same (Data a) = search rules
