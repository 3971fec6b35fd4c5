-- What holds of packing and unpacking together.
use Rattle.std.specs.Prelude.{◌≡◌, ℕ, false, Option, Ok, IfSome}
use Rattle.std.specs.List.{AllByRecursion, IsDistinct}
use Rattle.std.specs.Map.{keys_of}
use Rattle.lua_table.specs.Table.{Places}
use Rattle.lua_meaning.specs.Message.{Message}
use Rattle.lua_meaning.specs.Value.{Value, same, is_nil}
use Rattle.lua_meaning.specs.Store.{Store, table_at}
use Rattle.lua_meaning.specs.Packing.{pack, unpack}

-- a place holds no nil
abbrev pub IsValued : Value × Option Value → Type 0
IsValued place = IfSome place.1 (λ v. is_nil v ≡ false)

-- a table as setting its fields makes it: no key stands twice, and a nil took its key's value away
pub record IsTidyTable (places : Places Value Value) : Type 0 where
  pub distinct : IsDistinct same (keys_of places)
  pub valued : AllByRecursion IsValued places

-- all tables of a state are
abbrev pub IsTidy : Store → Type 0
IsTidy s = (t : ℕ) → IsTidyTable (table_at s t).places

-- what a message comes to, in whatever state, packs to that message, where a state packed it
abbrev pub PacksAgain : Type 0
PacksAgain = (s into : Store) (v : Value) (m : Message) → IsTidy s → pack s v ≡ Ok m →
    pack (unpack m into).1 (unpack m into).0 ≡ Ok m
