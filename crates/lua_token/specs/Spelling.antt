-- Keywords and symbols, and the one spelling of each (Lua 5.1 manual §2.1).
use Rattle.std.specs.Prelude.{ℕ, List, [], ◌∷◌, codes, Option, nat_eq, find, unwrap_or}
use Rattle.std.specs.List.{starts_with}
use Rattle.std.specs.Cmp.Lexicographic.{pointwise}
use Rattle.lua_token.specs.declared.kind.Kind.{Kind}
use Rattle.lua_token.specs.declared.kind.Kind.TheVariants.{And, Break, Do, Else, ElseIf, End, False, For, Function, If, In, Local, Nil, Not, Or, Repeat, Return, Then, True, Until, While, Plus, Minus, Star, Slash, Percent, Caret, Hash, Equal, NotEqual, LessEqual, GreaterEqual, Less, Greater, Assign, OpenParen, CloseParen, OpenBrace, CloseBrace, OpenBracket, CloseBracket, Semicolon, Colon, Comma, Dot, Concat, Dots, Name, Number, Str}

-- the spelling of a keyword or a symbol; the other kinds have none of their own
unfoldable pub spelling : Kind → List ℕ
spelling And = codes "and"
spelling Break = codes "break"
spelling Do = codes "do"
spelling Else = codes "else"
spelling ElseIf = codes "elseif"
spelling End = codes "end"
spelling False = codes "false"
spelling For = codes "for"
spelling Function = codes "function"
spelling If = codes "if"
spelling In = codes "in"
spelling Local = codes "local"
spelling Nil = codes "nil"
spelling Not = codes "not"
spelling Or = codes "or"
spelling Repeat = codes "repeat"
spelling Return = codes "return"
spelling Then = codes "then"
spelling True = codes "true"
spelling Until = codes "until"
spelling While = codes "while"
spelling Plus = codes "+"
spelling Minus = codes "-"
spelling Star = codes "*"
spelling Slash = codes "/"
spelling Percent = codes "%"
spelling Caret = codes "^"
spelling Hash = codes "#"
spelling Equal = codes "=="
spelling NotEqual = codes "~="
spelling LessEqual = codes "<="
spelling GreaterEqual = codes ">="
spelling Less = codes "<"
spelling Greater = codes ">"
spelling Assign = codes "="
spelling OpenParen = codes "("
spelling CloseParen = codes ")"
spelling OpenBrace = codes "{"
spelling CloseBrace = codes "}"
spelling OpenBracket = codes "["
spelling CloseBracket = codes "]"
spelling Semicolon = codes ";"
spelling Colon = codes ":"
spelling Comma = codes ","
spelling Dot = codes "."
spelling Concat = codes ".."
spelling Dots = codes "..."
spelling Name = []
spelling (Number n) = []
spelling Str = []

-- the keywords
abbrev pub keywords : List Kind
keywords =
    And ∷ Break ∷ Do ∷ Else ∷ ElseIf ∷ End ∷ False ∷ For ∷ Function ∷ If ∷ In ∷ Local ∷ Nil ∷ Not
    ∷ Or ∷ Repeat ∷ Return ∷ Then ∷ True ∷ Until ∷ While ∷ []

-- the symbols, longer ones first
abbrev pub symbols : List Kind
symbols =
    Dots ∷ Equal ∷ NotEqual ∷ LessEqual ∷ GreaterEqual ∷ Concat ∷ Plus ∷ Minus ∷ Star ∷ Slash
    ∷ Percent ∷ Caret ∷ Hash ∷ Less ∷ Greater ∷ Assign ∷ OpenParen ∷ CloseParen ∷ OpenBrace
    ∷ CloseBrace ∷ OpenBracket ∷ CloseBracket ∷ Semicolon ∷ Colon ∷ Comma ∷ Dot ∷ []

-- the keyword that is spelled so
unfoldable pub keyword_of : List ℕ → Option Kind
keyword_of word = find (λ k. pointwise nat_eq (spelling k) word) keywords

-- the kind of a word: the keyword that is spelled so, or else a name
abbrev pub word_kind : List ℕ → Kind
word_kind word = unwrap_or (keyword_of word) Name

-- the longest symbol at the front of a text
unfoldable pub symbol_at : List ℕ → Option Kind
symbol_at text = find (λ k. starts_with nat_eq text (spelling k)) symbols
