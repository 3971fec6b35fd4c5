-- The values of Lua (Lua 5.1 manual §2.2), and which of them are the same one.
use Rattle.std.specs.Prelude.{ℕ, ℤ, pos, negsuc, Bool, true, false, List, [], ◌∷◌, bytes_eq, nat_eq}
use Rattle.lua_meaning.specs.Native.{Native, same_native}

-- a value: tables, functions and Data are named by their places in the store, Channels and Threads by their numbers
pub data Value : Type 0 where
  nil : Value
  flag : Bool → Value
  num : ℤ → Value
  str : (bytes : List ℕ) → Value
  table : (place : ℕ) → Value
  func : (place : ℕ) → Value
  native : Native → Value
  channel : (number : ℕ) → Value
  thread : (number : ℕ) → Value
  datum : (place : ℕ) → Value

-- only nil and false are false
abbrev pub is_true : Value → Bool
is_true nil = false
is_true (flag b) = b
is_true v = true

abbrev pub is_nil : Value → Bool
is_nil nil = true
is_nil v = false

-- whether two whole numbers are the same one
abbrev pub same_number : ℤ → ℤ → Bool
same_number (pos a) (pos b) = nat_eq a b
same_number (negsuc a) (negsuc b) = nat_eq a b
same_number a b = false

-- whether two flags are the same one
abbrev pub same_flag : Bool → Bool → Bool
same_flag true b = b
same_flag false true = false
same_flag false false = true

-- whether two values are the same one (manual §2.5.2), which no metamethod is asked for: values of different types never
-- are; numbers, strings, Channels and Threads are by their content, tables, functions and Data by their identity
abbrev pub same : Value → Value → Bool
same nil nil = true
same (flag a) (flag b) = same_flag a b
same (num a) (num b) = same_number a b
same (str a) (str b) = bytes_eq a b
same (table a) (table b) = nat_eq a b
same (func a) (func b) = nat_eq a b
same (native a) (native b) = same_native a b
same (channel a) (channel b) = nat_eq a b
same (thread a) (thread b) = nat_eq a b
same (datum a) (datum b) = nat_eq a b
same a b = false

-- the first value of a list, nil where there is none
abbrev pub first : List Value → Value
first [] = nil
first (v ∷ vs) = v
