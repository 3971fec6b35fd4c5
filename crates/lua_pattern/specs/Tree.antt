-- A pattern as contracts see it.
use Rattle.std.specs.Prelude.{ℕ, Bool, true, false, List}
use Rattle.lua_pattern.specs.declared.item.Item.{Item}
use Rattle.lua_pattern.specs.declared.item.Item.TheVariants.{Open, Position}

-- its items, and whether it is anchored: whether it matches at the first place alone
pub record Tree : Type 0 where
  pub anchored : Bool
  pub items : List Item

-- whether an item begins a capture
abbrev pub begins_capture : Item → Bool
begins_capture Open = true
begins_capture Position = true
begins_capture _ = false

-- how many captures and items a pattern has at most
abbrev pub most_captures : ℕ
most_captures = 32

abbrev pub most_items : ℕ
most_items = 200
