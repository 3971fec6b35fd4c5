-- What the parts of a source begin with, and so what may stand behind a part.
use Rattle.std.proofs.Common.{ℕ, List, ◌∷◌}
use Rattle.lua_tree.specs.Tree.{UnOp, not_, length_of, negate, sub, Expr, Exprs, Fields, Stat, Block, Arms}
use Rattle.lua_tree.specs.Words as w
use Rattle.lua_tree.specs.Words.{Word, key, Tok, tok, word_of}
use Rattle.lua_tree.specs.Grammar
use Rattle.lua_tree.specs.Grammar.{NotOpen, IsUnary, IsSeparator, Exp, nil_exp, true_exp, false_exp, number_exp, str_exp, dots_exp, function_exp, prefix_exp, table_exp, binary_exp, unary_exp, Prefix, var_prefix, call_prefix, paren_prefix, Var, name_var, index_var, dot_var, Call, plain_call, method_call, ExpList, one_exp, exp_and, Semi, no_semi, a_semi, Stats, no_stat, a_stat, last_stat, StatOf, assign_of, call_of, do_of, while_of, repeat_of, if_of, num_for_of, num_for_by_of, gen_for_of, function_of, local_function_of, local_of, local_with_of, LastOf, return_of, return_with_of, break_of, VarList, one_var, var_and, MoreFields, no_more, separated, MoreArms, elseif_of, else_of, end_of}
use Rattle.lua_tree.proofs.Follow.{NotSuffix, Stops, NotComma, EndsBlock, StartsStat, FollowsStat}

-- ---- prefix expressions

abbrev pub StartsPrefix : Word → Type 0
StartsPrefix (w.name x) = Unit {0}
StartsPrefix (key w.open_paren) = Unit {0}
StartsPrefix v = ⊥

mutual
  pub prefix_starts : (e : Expr) (ts us : List Tok) → Prefix e ts us → StartsPrefix (word_of ts)
  prefix_starts e ts us (var_prefix d) = var_starts e ts us d
  prefix_starts e ts us (call_prefix d) = call_starts e ts us d
  prefix_starts e ts us (paren_prefix d) = tt

  pub var_starts : (e : Expr) (ts us : List Tok) → Var e ts us → StartsPrefix (word_of ts)
  var_starts e ts us name_var = tt
  var_starts e ts us (index_var {a = a} {s = s} {m = m} d f) = prefix_starts a ts (tok (key w.open_bracket) s ∷ m) d
  var_starts e ts us (dot_var {a = a} {x = x} {s = s} {s' = s2} d) = prefix_starts a ts (tok (key w.dot) s ∷ tok (w.name x) s2 ∷ us) d

  pub call_starts : (e : Expr) (ts us : List Tok) → Call e ts us → StartsPrefix (word_of ts)
  call_starts e ts us (plain_call {a = a} {m = m} d f) = prefix_starts a ts m d
  call_starts e ts us (method_call {a = a} {x = x} {s = s} {s' = s2} {m = m} d f) = prefix_starts a ts (tok (key w.colon) s ∷ tok (w.name x) s2 ∷ m) d

-- ---- expressions

abbrev pub StartsExp : Word → Type 0
StartsExp (w.name x) = Unit {0}
StartsExp (w.number z) = Unit {0}
StartsExp (w.str x) = Unit {0}
StartsExp (w.op sub) = Unit {0}
StartsExp (key w.nil_) = Unit {0}
StartsExp (key w.true_) = Unit {0}
StartsExp (key w.false_) = Unit {0}
StartsExp (key w.dots) = Unit {0}
StartsExp (key w.function_) = Unit {0}
StartsExp (key w.open_paren) = Unit {0}
StartsExp (key w.open_brace) = Unit {0}
StartsExp (key w.not_) = Unit {0}
StartsExp (key w.hash) = Unit {0}
StartsExp v = ⊥

prefix_exp_starts : (v : Word) → StartsPrefix v → StartsExp v
prefix_exp_starts (w.name x) h = tt
prefix_exp_starts (key w.open_paren) h = tt
prefix_exp_starts v h = absurd h

unary_starts : (o : UnOp) (v : Word) → IsUnary o v → StartsExp v
unary_starts not_ (key w.not_) h = tt
unary_starts not_ v h = absurd h
unary_starts length_of (key w.hash) h = tt
unary_starts length_of v h = absurd h
unary_starts negate (w.op sub) h = tt
unary_starts negate v h = absurd h

pub exp_starts : (p : ℕ) (e : Expr) (ts us : List Tok) → Exp p e ts us → StartsExp (word_of ts)
exp_starts p e ts us nil_exp = tt
exp_starts p e ts us true_exp = tt
exp_starts p e ts us false_exp = tt
exp_starts p e ts us number_exp = tt
exp_starts p e ts us str_exp = tt
exp_starts p e ts us dots_exp = tt
exp_starts p e ts us (function_exp d) = tt
exp_starts p e ts us (prefix_exp d o) = prefix_exp_starts (word_of ts) (prefix_starts e ts us d)
exp_starts p e ts us (table_exp d) = tt
exp_starts p e ts us (binary_exp {o = o} {a = a} {s = s} {m = m} h d f) = exp_starts (Grammar.left_level o) a ts (tok (w.op o) s ∷ m) d
exp_starts p e ts us (unary_exp {o = o} {v = v} h u d) = unary_starts o v u

pub list_starts : (es : Exprs) (ts us : List Tok) → ExpList es ts us → StartsExp (word_of ts)
list_starts es ts us (one_exp {e = e} d) = exp_starts 0 e ts us d
list_starts es ts us (exp_and {e = e} {s = s} {m = m} d f) = exp_starts 0 e ts (tok (key w.comma) s ∷ m) d

-- ---- statements

prefix_stat_starts : (v : Word) → StartsPrefix v → StartsStat v
prefix_stat_starts (w.name x) h = tt
prefix_stat_starts (key w.open_paren) h = tt
prefix_stat_starts v h = absurd h

pub vars_start : (es : Exprs) (ts us : List Tok) → VarList es ts us → StartsPrefix (word_of ts)
vars_start es ts us (one_var {e = e} d) = var_starts e ts us d
vars_start es ts us (var_and {e = e} {s = s} {m = m} d f) = var_starts e ts (tok (key w.comma) s ∷ m) d

pub stat_starts : (st : Stat) (ts us : List Tok) → StatOf st ts us → StartsStat (word_of ts)
stat_starts st ts us (assign_of {es = es} {s = s} {m = m} d f) = prefix_stat_starts (word_of ts) (vars_start es ts (tok (key w.assign) s ∷ m) d)
stat_starts st ts us (call_of {e = e} d o) = prefix_stat_starts (word_of ts) (call_starts e ts us d)
stat_starts st ts us (do_of d) = tt
stat_starts st ts us (while_of d f) = tt
stat_starts st ts us (repeat_of d f) = tt
stat_starts st ts us (if_of d) = tt
stat_starts st ts us (num_for_of d f g) = tt
stat_starts st ts us (num_for_by_of d f g h) = tt
stat_starts st ts us (gen_for_of d f g) = tt
stat_starts st ts us (function_of d f) = tt
stat_starts st ts us (local_function_of d) = tt
stat_starts st ts us (local_of d) = tt
stat_starts st ts us (local_with_of d f) = tt

-- what a block may begin with, where the end of a block follows
abbrev pub StartsBlock : Word → Type 0
StartsBlock (key w.semicolon) = ⊥
StartsBlock v = FollowsStat v

ends_start : (v : Word) → EndsBlock v → StartsBlock v
ends_start (key w.end_) h = tt
ends_start (key w.else_) h = tt
ends_start (key w.elseif) h = tt
ends_start (key w.until) h = tt
ends_start w.the_end h = tt
ends_start v h = absurd h

stat_start : (v : Word) → StartsStat v → StartsBlock v
stat_start (w.name x) h = tt
stat_start (key w.open_paren) h = tt
stat_start (key w.do_) h = tt
stat_start (key w.while_) h = tt
stat_start (key w.repeat_) h = tt
stat_start (key w.if_) h = tt
stat_start (key w.for_) h = tt
stat_start (key w.function_) h = tt
stat_start (key w.local_) h = tt
stat_start v h = absurd h

last_start : (st : Stat) (ts us : List Tok) → LastOf st ts us → StartsBlock (word_of ts)
last_start st ts us return_of = tt
last_start st ts us (return_with_of d) = tt
last_start st ts us break_of = tt

pub block_starts : (b : Block) (ts us : List Tok) → Stats b ts us → EndsBlock (word_of us) → StartsBlock (word_of ts)
block_starts b ts us no_stat h = ends_start (word_of us) h
block_starts b ts us (a_stat {st = st} {m = m} d s f) h = stat_start (word_of ts) (stat_starts st ts m d)
block_starts b ts us (last_stat {st = st} {m = m} d s) h = last_start st ts m d

starts_follow : (v : Word) → StartsBlock v → FollowsStat v
starts_follow (key w.semicolon) h = absurd h
starts_follow v h = h

pub semi_follows : (m n : List Tok) → Semi m n → StartsBlock (word_of n) → FollowsStat (word_of m)
semi_follows m n no_semi h = starts_follow (word_of m) h
semi_follows m n a_semi h = tt

-- what may stand behind the last statement
abbrev pub FollowsLast : Word → Type 0
FollowsLast (key w.semicolon) = Unit {0}
FollowsLast v = EndsBlock v

ends_last : (v : Word) → EndsBlock v → FollowsLast v
ends_last (key w.semicolon) h = tt
ends_last v h = h

pub semi_last : (m n : List Tok) → Semi m n → EndsBlock (word_of n) → FollowsLast (word_of m)
semi_last m n no_semi h = ends_last (word_of m) h
semi_last m n a_semi h = tt

pub last_follows : (v : Word) → FollowsLast v → FollowsStat v
last_follows (key w.semicolon) h = tt
last_follows (key w.end_) h = tt
last_follows (key w.else_) h = tt
last_follows (key w.elseif) h = tt
last_follows (key w.until) h = tt
last_follows w.the_end h = tt
last_follows v h = absurd h

pub arms_end : (rest : Arms) (n us : List Tok) → MoreArms rest n us → EndsBlock (word_of n)
arms_end rest n us (elseif_of d) = tt
arms_end rest n us (else_of d) = tt
arms_end rest n us end_of = tt

-- ---- what stops an expression

pub follows_stop : (v : Word) → FollowsStat v → Stops v
follows_stop (w.op o) h = absurd h
follows_stop (key w.open_bracket) h = absurd h
follows_stop (key w.dot) h = absurd h
follows_stop (key w.colon) h = absurd h
follows_stop (key w.open_brace) h = absurd h
follows_stop (w.str x) h = absurd h
follows_stop v h = tt

pub follows_comma : (v : Word) → FollowsStat v → NotComma v
follows_comma (key w.comma) h = absurd h
follows_comma v h = tt

pub call_suffix : (v : Word) → FollowsStat v → NotOpen v → NotSuffix v
call_suffix (key w.open_bracket) h o = absurd h
call_suffix (key w.dot) h o = absurd h
call_suffix (key w.colon) h o = absurd h
call_suffix (key w.open_paren) h o = absurd o
call_suffix (key w.open_brace) h o = absurd h
call_suffix (w.str x) h o = absurd h
call_suffix v h o = tt

-- what may stand behind a field
abbrev pub FollowsField : Word → Type 0
FollowsField (key w.comma) = Unit {0}
FollowsField (key w.semicolon) = Unit {0}
FollowsField (key w.close_brace) = Unit {0}
FollowsField v = ⊥

separators_follow : (v : Word) → IsSeparator v → FollowsField v
separators_follow (key w.comma) h = tt
separators_follow (key w.semicolon) h = tt
separators_follow v h = absurd h

pub fields_follow : (fs : Fields) (m us : List Tok) → MoreFields fs m us → FollowsField (word_of us) → FollowsField (word_of m)
fields_follow fs m us no_more h = h
fields_follow fs m us (separated {v = v} i d) h = separators_follow v i

pub field_stops : (v : Word) → FollowsField v → Stops v
field_stops (key w.comma) h = tt
field_stops (key w.semicolon) h = tt
field_stops (key w.close_brace) h = tt
field_stops v h = absurd h
