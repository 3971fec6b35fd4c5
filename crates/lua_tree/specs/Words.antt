-- The tokens that the grammar is over: words, each with the spot where it stands.
use Rattle.std.specs.Prelude.{ℕ, ℤ, Bool, false, List, [], ◌∷◌}
use Rattle.lua_tree.specs.Tree.{Bytes, BinOp}

-- keywords and symbols that are no binary operators
pub data Key : Type 0 where
  break_ do_ else_ elseif end_ false_ for_ function_ if_ in_ local_ nil_ not_ repeat_ return_ then_ true_ until while_ : Key
  hash assign open_paren close_paren open_brace close_brace open_bracket close_bracket semicolon colon comma dot dots : Key

-- a word: a name, a number, a string, a binary operator (`-` among them), a keyword or another symbol; or the end of the
-- source, which is no token
pub data Word : Type 0 where
  name : Bytes → Word
  number : ℤ → Word
  str : Bytes → Word
  op : BinOp → Word
  key : Key → Word
  the_end : Word

-- where a token stands: its line, how many bytes stand before it, and whether its line is a later one than that of the
-- token before it
pub record Spot : Type 0 where
  pub line : ℕ
  pub start : ℕ
  pub later : Bool

pub data Tok : Type 0 where
  tok : Word → Spot → Tok

abbrev pub nowhere : Spot
nowhere = record { line = 1; start = 0; later = false }

-- a token's word and spot; those of the next token
abbrev pub word_in : Tok → Word
word_in (tok w s) = w

abbrev pub spot_in : Tok → Spot
spot_in (tok w s) = s

abbrev pub word_of : List Tok → Word
word_of [] = the_end
word_of (t ∷ ts) = word_in t

abbrev pub spot_of : List Tok → Spot
spot_of [] = nowhere
spot_of (t ∷ ts) = spot_in t
