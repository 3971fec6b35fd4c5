-- Data as contracts see them.
use Rattle.std.specs.Prelude.{ℕ, ◌+◌, List, Option, None, slice_range}

-- bytes that never change, and the name of the file that they came from, where there is one
pub record Contents : Type 0 where
  pub bytes : List ℕ
  pub name : Option (List ℕ)

-- the bytes from an offset on, so many of them, without a name
abbrev pub part : Contents → ℕ → ℕ → Contents
part whole offset size =
    record { bytes = slice_range whole.bytes offset (offset + size); name = None }
