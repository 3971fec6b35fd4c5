-- Parts of Data, as the definitions take them.
use Rattle.std.proofs.Common.{◌≡◌, ◌≢◌, inl, inr, Option, None, ℕ, ◌+◌, ◌<◌, ◌≤◌, ℤ, pos, length, ap, refl, ◌∙◌}
use Rattle.std.specs.Prelude.{negsuc, nat_le, codes, List}
use Rattle.std.proofs.lemmas.Bool.{cases_lt, cond-true, cond-false, le-leb, lt-leb}
use Rattle.love_base.specs.Data.{Contents, part}
use Rattle.lua_tree.specs.Tree.{Bytes}
use Rattle.lua_meaning.specs.Value.{Value}
use Rattle.lua_meaning.specs.Store.{Store}
use Rattle.lua_meaning.specs.Fault.{improper, wants}
use Rattle.lua_meaning.specs.Arguments.{Lib, faults, fault}
use Rattle.lua_meaning.specs.Data.{part_of, new_data, copied}
use Rattle.lua_heap.specs.declared.value.Value.{Value as Heaped}
use Rattle.lua_heap.specs.declared.value.Value.TheVariants.{Nil, Bool as Flag, Num, Str, Table as TableValue, Func, Native, Channel, Thread, Data as DataValue}
use Rattle.lua_heap.specs.Value.{value_view}

abbrev outside : ℕ → Lib (List Value)
outside n = fault (improper n (codes "out of bounds"))

module _ (whole : Contents) where
  pub part-minus : (k : ℕ) (offset size : ℤ) → offset ≡ negsuc k → part_of whole offset size ≡ outside 1
  part-minus k offset size is = ap (λ (z : ℤ). part_of whole z size) is

  pub part-past : (offset : ℕ) (size : ℤ) → length whole.bytes < offset → part_of whole (pos offset) size ≡ outside 1
  part-past offset (pos n) past = cond-false (nat_le offset (length whole.bytes)) _ _ (lt-leb offset (length whole.bytes) past)
  part-past offset (negsuc n) past = cond-false (nat_le offset (length whole.bytes)) _ _ (lt-leb offset (length whole.bytes) past)

  pub part-no_size : (offset k : ℕ) (size : ℤ) → size ≡ negsuc k → offset ≤ length whole.bytes → part_of whole (pos offset) size ≡ outside 2
  part-no_size offset k size is within =
      ap (λ (z : ℤ). part_of whole (pos offset) z) is ∙ cond-true (nat_le offset (length whole.bytes)) _ _ (le-leb offset (length whole.bytes) within)

  part-size_past : (offset size : ℕ) → offset ≤ length whole.bytes → length whole.bytes < offset + size → part_of whole (pos offset) (pos size) ≡ outside 2
  part-size_past offset size within past =
      cond-true (nat_le offset (length whole.bytes)) _ _ (le-leb offset (length whole.bytes) within)
      ∙ cond-false (nat_le (offset + size) (length whole.bytes)) _ _ (lt-leb (offset + size) (length whole.bytes) past)

  pub part-within : (offset size : ℕ) → offset ≤ length whole.bytes → offset + size ≤ length whole.bytes → part_of whole (pos offset) (pos size) ≡ new_data (part whole offset size)
  part-within offset size within all =
      cond-true (nat_le offset (length whole.bytes)) _ _ (le-leb offset (length whole.bytes) within)
      ∙ cond-true (nat_le (offset + size) (length whole.bytes)) _ _ (le-leb (offset + size) (length whole.bytes) all)

  pub part-none : (offset size : ℕ) → offset ≤ length whole.bytes → (offset + size ≤ length whole.bytes → ⊥) → part_of whole (pos offset) (pos size) ≡ outside 2
  part-none offset size within none = elim (cases_lt (length whole.bytes) (offset + size)) [
    | inl past ↦ part-size_past offset size within past
    | inr all ↦ absurd (none all)
  ]

pub contents-are : (d : Contents) (b : Bytes) → d.bytes ≡ b → d.name ≡ None → d ≡ record { bytes = b; name = None }
contents-are d b bytes name =
    ap (λ (x : List ℕ). record { bytes = x; name = d.name }) bytes ∙ ap (λ (n : Option (List ℕ)). record { bytes = b; name = n }) name

-- a value that Data can't be made of
pub copied-refused : (texts : List Bytes) (v : Heaped) (vs : List Value) (s : Store) → ((id : ℕ) → v ≢ Str id) → ((id : ℕ) → v ≢ DataValue id)
    → copied (value_view texts v) vs s ≡ faults (wants 0 (codes "string") (value_view texts v))
copied-refused texts Nil vs s some other = refl
copied-refused texts (Flag b) vs s some other = refl
copied-refused texts (Num z) vs s some other = refl
copied-refused texts (Str id) vs s some other = absurd (some id refl)
copied-refused texts (TableValue id) vs s some other = refl
copied-refused texts (Func id) vs s some other = refl
copied-refused texts (Native f) vs s some other = refl
copied-refused texts (Channel n) vs s some other = refl
copied-refused texts (Thread n) vs s some other = refl
copied-refused texts (DataValue id) vs s some other = absurd (other id refl)
