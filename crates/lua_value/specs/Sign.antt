-- An optional sign before a number, as an exponent and a text that is read as a number have one.
use Rattle.std.specs.Prelude.{ℕ, ℤ, neg_ℤ, List, codes}

-- `+`, `-`, or none
pub data Sign : Type 0 where
  unsigned : Sign
  plus : Sign
  minus : Sign

-- the bytes of a sign
abbrev pub sign_text : Sign → List ℕ
sign_text unsigned = codes ""
sign_text plus = codes "+"
sign_text minus = codes "-"

-- the number that a sign and a number stand for
abbrev pub signed : Sign → ℤ → ℤ
signed unsigned z = z
signed plus z = z
signed minus z = neg_ℤ z
