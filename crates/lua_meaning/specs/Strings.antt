-- The functions of `string` (manual §5.4). Bytes have the places 1, 2, 3 and so on; a negative place counts from the end.
use Rattle.std.specs.Prelude.{ℕ, zero, suc, ℤ, pos, negsuc, ◌+◌, ◌-◌, ◌*◌, Bool, true, false, not, ◌&&◌, ◌||◌, List, [], ◌∷◌, ◌++◌, length, take, drop, reverse, map, Option, Some, None, if◌then◌else◌, nat_eq, nat_le, nat_lt, codes, min, max}
use Rattle.lua_tree.specs.Tree.{Bytes}
use Rattle.lua_meaning.specs.Value.{Value, nil, num, str, is_true}
use Rattle.lua_meaning.specs.Text.{longest_string}
use Rattle.lua_meaning.specs.Fault.{improper, says}
use Rattle.lua_meaning.specs.Arguments.{Lib, ◌>>=◌, ◌>>◌, answer, answer_one, fault, argument, number_argument, number_or, text_argument}
use Rattle.lua_meaning.specs.Basic.{at_most_a_million}

-- a place in a text of so many bytes, counted from its beginning; 0 where it lies before it
abbrev pub place_in : ℕ → ℤ → ℕ
place_in size (pos n) = n
place_in size (negsuc n) = size - n

-- the bytes of a text from a place up to another one, as far as there are any
abbrev pub part : Bytes → (first last : ℕ) → Bytes
part text first last =
    take (min last (length text) - (max first 1 - 1)) (drop (max first 1 - 1) text)

-- a string, which has at most 16,777,216 bytes
abbrev pub string_value : Bytes → Lib (List Value)
string_value text = if nat_le (length text) longest_string then
    answer_one (str text) else fault (says (codes "string too long"))

abbrev pub byte_value : ℕ → Value
byte_value c = num (pos c)

-- `string.byte(s, i, j)`
abbrev pub byte : List Value → Lib (List Value)
byte args = do
  s ← text_argument 0 args
  i ← number_or 1 args (pos 1)
  j ← number_or 2 args (pos (place_in (length s) i))
  let bytes = part s (place_in (length s) i) (place_in (length s) j) in (do
    at_most_a_million (length bytes)
    answer (map byte_value bytes))

-- a byte, from 0 to 255
abbrev pub as_byte : ℤ → Option ℕ
as_byte (pos n) = if nat_lt n 256 then Some n else None
as_byte (negsuc n) = None

abbrev pub byte_wanted : ℕ → Option ℕ → Lib ℕ
byte_wanted n None = fault (improper n (codes "0 to 255 expected"))
byte_wanted n (Some b) = answer b

abbrev pub byte_argument : ℕ → List Value → Lib ℕ
byte_argument n args = number_argument n args >>= λ z. byte_wanted n (as_byte z)

-- so many arguments from the n-th on as bytes
abbrev pub bytes_from : ℕ → ℕ → List Value → Lib Bytes
bytes_from n zero args = answer []
bytes_from n (suc count) args = do
  b ← byte_argument n args
  bs ← bytes_from (suc n) count args
  answer (b ∷ bs)

-- `string.char(...)`
abbrev pub char : List Value → Lib (List Value)
char args = do
  bytes ← bytes_from 0 (length args) args
  string_value bytes

abbrev pub begins_with : Bytes → Bytes → Bool
begins_with [] text = true
begins_with (p ∷ ps) [] = false
begins_with (p ∷ ps) (c ∷ cs) = nat_eq p c && begins_with ps cs

-- the place of the first part of a text that is a given one, from so many bytes on
abbrev pub first_place : (wanted text : Bytes) → ℕ → Option ℕ
first_place wanted [] passed = if begins_with wanted [] then Some (suc passed) else None
first_place wanted (c ∷ cs) passed =
    if begins_with wanted (c ∷ cs) then Some (suc passed) else first_place wanted cs (suc passed)

abbrev pub found_places : ℕ → Option ℕ → List Value
found_places size None = nil ∷ []
found_places size (Some n) = num (pos n) ∷ num (pos (n + size - 1)) ∷ []

-- where a search begins: how many bytes are passed over
abbrev pub passed_over : ℕ → ℤ → ℕ
passed_over size init = min (place_in size init - 1) size

abbrev pub is_one_of : List ℕ → ℕ → Bool
is_one_of [] c = false
is_one_of (d ∷ ds) c = nat_eq c d || is_one_of ds c

-- whether a text has a byte that means something in a pattern (manual §5.4.1)
abbrev pub is_pattern : Bytes → Bool
is_pattern [] = false
is_pattern (c ∷ cs) = is_one_of (codes "^$*+?.([%-") c || is_pattern cs

-- `string.find(s, p, init, plain)`, of a text that stands for itself
abbrev pub find : List Value → Lib (List Value)
find args = do
  s ← text_argument 0 args
  p ← text_argument 1 args
  init ← number_or 2 args (pos 1)
  if is_pattern p && not (is_true (argument 3 args)) then
      fault (says (codes "patterns are not available"))
      else answer (found_places (length p) (first_place p (drop (passed_over (length s) init) s)
      (passed_over (length s) init)))

-- `string.len(s)`
abbrev pub len : List Value → Lib (List Value)
len args = text_argument 0 args >>= λ s. answer_one (num (pos (length s)))

-- letters of ASCII in the other case
abbrev pub lower_byte : ℕ → ℕ
lower_byte c = if nat_le 65 c && nat_le c 90 then c + 32 else c

abbrev pub upper_byte : ℕ → ℕ
upper_byte c = if nat_le 97 c && nat_le c 122 then c - 32 else c

-- `string.lower(s)`, `string.upper(s)`
abbrev pub lower : List Value → Lib (List Value)
lower args = text_argument 0 args >>= λ s. answer_one (str (map lower_byte s))

abbrev pub upper : List Value → Lib (List Value)
upper args = text_argument 0 args >>= λ s. answer_one (str (map upper_byte s))

abbrev pub copies : ℕ → Bytes → Bytes
copies zero s = []
copies (suc n) s = s ++ copies n s

abbrev pub count_of : ℤ → ℕ
count_of (pos n) = n
count_of (negsuc n) = 0

-- `string.rep(s, n)`
abbrev pub rep : List Value → Lib (List Value)
rep args = do
  s ← text_argument 0 args
  n ← number_argument 1 args
  if nat_eq (length s) 0 then answer_one (str [])
      else (if nat_le (length s * count_of n) longest_string then
      answer_one (str (copies (count_of n) s)) else fault (says (codes "string too long")))

-- `string.reverse(s)`
abbrev pub reversed : List Value → Lib (List Value)
reversed args = text_argument 0 args >>= λ s. answer_one (str (reverse s))

-- `string.sub(s, i, j)`
abbrev pub sub : List Value → Lib (List Value)
sub args = do
  s ← text_argument 0 args
  i ← number_argument 1 args
  j ← number_or 2 args (negsuc 0)
  answer_one (str (part s (place_in (length s) i) (place_in (length s) j)))
