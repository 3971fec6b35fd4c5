-- The words that the tokens of a source are to the grammar.
use Rattle.std.specs.Prelude.{ℕ, ℤ, ◌≡◌, Bool, nat_lt, List, [], ◌∷◌, take, drop, Option, Some, None, slice_get, All}
use Rattle.lua_token.specs.Cuts.{StandsIn}
use Rattle.lua_token.specs.Value.{HasValue}
use Rattle.lua_token.specs.declared.kind.Kind.{Kind}
use Rattle.lua_token.specs.declared.kind.Kind.TheVariants as kinds
use Rattle.lua_token.specs.declared.token.Token.{Token}
use Rattle.lua_tree.specs.Tree as t
use Rattle.lua_tree.specs.Tree.{Bytes}
use Rattle.lua_tree.specs.Words as w
use Rattle.lua_tree.specs.Words.{Word, Spot, Tok, tok}

-- the word of a keyword or a symbol
abbrev pub word_of_kind : Kind → Word
word_of_kind kinds.And = w.op t.and_
word_of_kind kinds.Break = w.key w.break_
word_of_kind kinds.Do = w.key w.do_
word_of_kind kinds.Else = w.key w.else_
word_of_kind kinds.ElseIf = w.key w.elseif
word_of_kind kinds.End = w.key w.end_
word_of_kind kinds.False = w.key w.false_
word_of_kind kinds.For = w.key w.for_
word_of_kind kinds.Function = w.key w.function_
word_of_kind kinds.If = w.key w.if_
word_of_kind kinds.In = w.key w.in_
word_of_kind kinds.Local = w.key w.local_
word_of_kind kinds.Nil = w.key w.nil_
word_of_kind kinds.Not = w.key w.not_
word_of_kind kinds.Or = w.op t.or_
word_of_kind kinds.Repeat = w.key w.repeat_
word_of_kind kinds.Return = w.key w.return_
word_of_kind kinds.Then = w.key w.then_
word_of_kind kinds.True = w.key w.true_
word_of_kind kinds.Until = w.key w.until
word_of_kind kinds.While = w.key w.while_
word_of_kind kinds.Plus = w.op t.add
word_of_kind kinds.Minus = w.op t.sub
word_of_kind kinds.Star = w.op t.mul
word_of_kind kinds.Slash = w.op t.div
word_of_kind kinds.Percent = w.op t.mod_
word_of_kind kinds.Caret = w.op t.pow
word_of_kind kinds.Hash = w.key w.hash
word_of_kind kinds.Equal = w.op t.equal
word_of_kind kinds.NotEqual = w.op t.not_equal
word_of_kind kinds.LessEqual = w.op t.less_equal
word_of_kind kinds.GreaterEqual = w.op t.greater_equal
word_of_kind kinds.Less = w.op t.less
word_of_kind kinds.Greater = w.op t.greater
word_of_kind kinds.Assign = w.key w.assign
word_of_kind kinds.OpenParen = w.key w.open_paren
word_of_kind kinds.CloseParen = w.key w.close_paren
word_of_kind kinds.OpenBrace = w.key w.open_brace
word_of_kind kinds.CloseBrace = w.key w.close_brace
word_of_kind kinds.OpenBracket = w.key w.open_bracket
word_of_kind kinds.CloseBracket = w.key w.close_bracket
word_of_kind kinds.Semicolon = w.key w.semicolon
word_of_kind kinds.Colon = w.key w.colon
word_of_kind kinds.Comma = w.key w.comma
word_of_kind kinds.Dot = w.key w.dot
word_of_kind kinds.Concat = w.op t.concat
word_of_kind kinds.Dots = w.key w.dots
word_of_kind other = w.the_end

-- a token of this kind is this word of the source: a name is the bytes that stand there, a string those that it is for
abbrev pub IsWord : List ℕ → Token → Kind → Word → Type 0
IsWord source t kinds.Name v = v ≡ w.name (take t.length (drop t.start source))
IsWord source t (kinds.Number z) v = v ≡ w.number z
IsWord source t kinds.Str v = (x : Bytes) × HasValue source t x × (v ≡ w.str x)
IsWord source t kind v = v ≡ word_of_kind kind

-- the spot of a token, where the one before it is on this line
abbrev pub spot_behind : ℕ → Token → Spot
spot_behind before t = record { line = t.line; start = t.start; later = nat_lt before t.line }

-- the tokens, before which one is on this line, are these words at their spots
pub data Spelled (source : List ℕ) : ℕ → List Token → List Tok → Type 0 where
  no_token : {before : ℕ} → Spelled source before [] []
  token_and : {before : ℕ} {t : Token} {ts : List Token} {v : Word} {us : List Tok} → IsWord source t t.kind v → Spelled source t.line ts us → Spelled source before (t ∷ ts) (tok v (spot_behind before t) ∷ us)

-- which token stands at a place, if any does
abbrev pub kind_of : Option Token → Option Kind
kind_of None = None
kind_of (Some t) = Some t.kind

abbrev pub kind_at : List Token → ℕ → Option Kind
kind_at ts at = kind_of (slice_get ts at)

-- a token that isn't a number
abbrev pub IsMark : Kind → Type 0
IsMark (kinds.Number z) = ⊥
IsMark kind = Unit {0}

-- the number that a token is, if it is one
abbrev pub number_of_kind : Option Kind → Option ℤ
number_of_kind (Some (kinds.Number z)) = Some z
number_of_kind o = None
