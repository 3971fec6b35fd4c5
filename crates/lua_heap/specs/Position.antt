-- Values as keys of tables: which number each stands for, and what is hashed of it.
use Rattle.std.specs.Prelude.{ℕ, zero, suc, ℤ, pos, negsuc, List, [], Option, None, Some, nat_le, if◌then◌else◌}
use Rattle.std.specs.Hash as fed
use Rattle.lua_heap.specs.declared.value.Value.{Value}
use Rattle.lua_heap.specs.declared.value.Value.TheVariants.{Nil, Bool, Num, Str, Table, Func, Native, Channel, Thread, Data}

-- the key for a position; the last one is the greatest number
abbrev pub value_at : ℕ → Option Value
value_at zero = None
value_at (suc n) = if nat_le (suc n) 99999999999999 then Some (Num (pos (suc n))) else None

-- the position whose key a value is; there are no numbers past the last one
abbrev pub position_of_number : ℤ → Option ℕ
position_of_number (pos zero) = None
position_of_number (pos (suc n)) = if nat_le (suc n) 99999999999999 then Some (suc n) else None
position_of_number (negsuc n) = None

abbrev pub position_of_value : Value → Option ℕ
position_of_value (Num n) = position_of_number n
position_of_value v = None

-- what is hashed: a number or a place as one word
abbrev pub value_input : Value → List (List ℕ)
value_input (Num n) = fed.i64 n
value_input (Str id) = fed.usize id
value_input (Table id) = fed.usize id
value_input (Func id) = fed.usize id
value_input (Data id) = fed.usize id
value_input (Channel n) = fed.u32 n
value_input (Thread n) = fed.u32 n
value_input (Bool b) = fed.bool b
value_input (Native f) = fed.u8 0
value_input Nil = []
