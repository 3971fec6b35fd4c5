-- What may stand behind a part of a source.
use Rattle.std.proofs.Common.{ℕ, ◌<◌}
use Rattle.lua_tree.specs.Words as w
use Rattle.lua_tree.specs.Words.{Word, key}
use Rattle.lua_tree.specs.Tree.{Expr, name, index, call, method, paren, unary, binary}
use Rattle.lua_tree.specs.Grammar.{level, unary_level, right_level}

-- no operator of this level or a tighter one
abbrev pub NotFrom : ℕ → Word → Type 0
NotFrom p (w.op o) = level o < p
NotFrom p v = Unit {0}

-- no suffix of a prefix expression
abbrev pub NotSuffix : Word → Type 0
NotSuffix (key w.open_bracket) = ⊥
NotSuffix (key w.dot) = ⊥
NotSuffix (key w.colon) = ⊥
NotSuffix (key w.open_paren) = ⊥
NotSuffix (key w.open_brace) = ⊥
NotSuffix (w.str x) = ⊥
NotSuffix v = Unit {0}

-- neither an operator nor a suffix, but for a parenthesis
abbrev pub Stops : Word → Type 0
Stops (w.op o) = ⊥
Stops (key w.open_bracket) = ⊥
Stops (key w.dot) = ⊥
Stops (key w.colon) = ⊥
Stops (key w.open_brace) = ⊥
Stops (w.str x) = ⊥
Stops v = Unit {0}

abbrev pub NotComma : Word → Type 0
NotComma (key w.comma) = ⊥
NotComma v = Unit {0}

-- the last operand of an expression takes in nothing of what follows
abbrev pub Tail : Expr → Word → Type 0
Tail (binary l o a b) v = NotFrom (right_level o) v × Tail b v
Tail (unary l o e) v = NotFrom unary_level v × Tail e v
Tail (name l x) v = NotSuffix v
Tail (index l a e) v = NotSuffix v
Tail (call l a es) v = NotSuffix v
Tail (method l a x es) v = NotSuffix v
Tail (paren l e) v = NotSuffix v
Tail e v = Unit {0}

-- the end of a block
abbrev pub EndsBlock : Word → Type 0
EndsBlock (key w.end_) = Unit {0}
EndsBlock (key w.else_) = Unit {0}
EndsBlock (key w.elseif) = Unit {0}
EndsBlock (key w.until) = Unit {0}
EndsBlock w.the_end = Unit {0}
EndsBlock v = ⊥

-- what a statement begins with
abbrev pub StartsStat : Word → Type 0
StartsStat (w.name x) = Unit {0}
StartsStat (key w.open_paren) = Unit {0}
StartsStat (key w.do_) = Unit {0}
StartsStat (key w.while_) = Unit {0}
StartsStat (key w.repeat_) = Unit {0}
StartsStat (key w.if_) = Unit {0}
StartsStat (key w.for_) = Unit {0}
StartsStat (key w.function_) = Unit {0}
StartsStat (key w.local_) = Unit {0}
StartsStat v = ⊥

-- what may follow a statement
abbrev pub FollowsStat : Word → Type 0
FollowsStat (key w.semicolon) = Unit {0}
FollowsStat (key w.return_) = Unit {0}
FollowsStat (key w.break_) = Unit {0}
FollowsStat (w.name x) = Unit {0}
FollowsStat (key w.open_paren) = Unit {0}
FollowsStat (key w.do_) = Unit {0}
FollowsStat (key w.while_) = Unit {0}
FollowsStat (key w.repeat_) = Unit {0}
FollowsStat (key w.if_) = Unit {0}
FollowsStat (key w.for_) = Unit {0}
FollowsStat (key w.function_) = Unit {0}
FollowsStat (key w.local_) = Unit {0}
FollowsStat (key w.end_) = Unit {0}
FollowsStat (key w.else_) = Unit {0}
FollowsStat (key w.elseif) = Unit {0}
FollowsStat (key w.until) = Unit {0}
FollowsStat w.the_end = Unit {0}
FollowsStat v = ⊥
