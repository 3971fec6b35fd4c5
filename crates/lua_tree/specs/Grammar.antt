-- Which tokens spell which tree (Lua 5.1 manual §2.2 to §2.5, §8). Each family has one case for each rule of the manual's
-- grammar: a case says that the tokens from one list up to another one, which is what is left of it, spell a part of the
-- tree. The lines of nodes are part of it.
use Rattle.std.specs.Prelude.{ℕ, ℤ, ◌≤◌, Bool, true, false, List, [], ◌∷◌, ◌++◌, codes}
use Rattle.lua_tree.specs.Tree.{Bytes, UnOp, not_, length_of, negate, BinOp, or_, and_, less, greater, less_equal, greater_equal, not_equal, equal, concat, add, sub, mul, div, mod_, pow, Expr, nil, true_, false_, number, str, dots, function, name, index, call, method, table, unary, binary, paren, Exprs, no_exprs, expr_and, Fields, no_fields, item_and, keyed_and, Func, func, Block, no_stats, stat_and, Stat, assign, local, call_stat, do_block, while_loop, repeat_loop, if_stat, num_for, num_for_by, gen_for, function_stat, local_function, return_stat, break_stat, Arms, no_else, else_block, arm_and}
use Rattle.lua_tree.specs.Words as w
use Rattle.lua_tree.specs.Words.{Word, Spot, Tok, tok, word_of, spot_of}

-- the level of a binary operator, from 1 for `or` on; a greater one binds tighter (manual §2.5.6)
abbrev pub level : BinOp → ℕ
level or_ = 1
level and_ = 2
level less = 3
level greater = 3
level less_equal = 3
level greater_equal = 3
level not_equal = 3
level equal = 3
level concat = 4
level add = 5
level sub = 5
level mul = 6
level div = 6
level mod_ = 6
level pow = 8

-- the level of the unary operators
abbrev pub unary_level : ℕ
unary_level = 7

-- the level that the left operand has at least: `..` and `^` are right associative, the others left
abbrev pub left_level : BinOp → ℕ
left_level concat = 5
left_level pow = 9
left_level o = level o

-- the level that the right operand has at least; that of `^` may begin with a unary operator
abbrev pub right_level : BinOp → ℕ
right_level or_ = 2
right_level and_ = 3
right_level less = 4
right_level greater = 4
right_level less_equal = 4
right_level greater_equal = 4
right_level not_equal = 4
right_level equal = 4
right_level concat = 4
right_level add = 6
right_level sub = 6
right_level mul = 7
right_level div = 7
right_level mod_ = 7
right_level pow = 7

-- the line of a call that this token opens: its line, or 0 where it is a parenthesis on a later line than the token
-- before it, which is ambiguous (manual §2.5.8)
abbrev pub line_or_none : Bool → ℕ → ℕ
line_or_none true line = 0
line_or_none false line = line

abbrev pub call_line : Spot → ℕ
call_line s = line_or_none s.later s.line

-- the line of the first of these tokens
abbrev pub first_line : List Tok → ℕ
first_line ts = (spot_of ts).line

-- a parenthesis doesn't stand next: behind a prefix expression it always opens arguments
abbrev pub NotOpen : Word → Type 0
NotOpen (w.key w.open_paren) = ⊥
NotOpen v = Unit {0}

-- the hidden parameter of a function whose name has a colon (manual §2.5.9)
abbrev pub self : Bytes
self = codes "self"

-- a unary operator's word
abbrev pub IsUnary : UnOp → Word → Type 0
IsUnary not_ (w.key w.not_) = Unit {0}
IsUnary length_of (w.key w.hash) = Unit {0}
IsUnary negate (w.op sub) = Unit {0}
IsUnary o v = ⊥

-- what stands between fields
abbrev pub IsSeparator : Word → Type 0
IsSeparator (w.key w.comma) = Unit {0}
IsSeparator (w.key w.semicolon) = Unit {0}
IsSeparator v = ⊥

-- namelist ::= Name {',' Name}
pub data NameList : List Bytes → List Tok → List Tok → Type 0 where
  one_name : {x : Bytes} {s : Spot} {us : List Tok} → NameList (x ∷ []) (tok (w.name x) s ∷ us) us
  name_and : {x : Bytes} {xs : List Bytes} {s s' : Spot} {m us : List Tok} → NameList xs m us
      → NameList (x ∷ xs) (tok (w.name x) s ∷ tok (w.key w.comma) s' ∷ m) us

-- [namelist [',' '...'] | '...'] ')'
pub data Params : List Bytes → Bool → List Tok → List Tok → Type 0 where
  no_params : {s : Spot} {us : List Tok} → Params [] false (tok (w.key w.close_paren) s ∷ us) us
  only_dots : {s s' : Spot} {us : List Tok}
      → Params [] true (tok (w.key w.dots) s ∷ tok (w.key w.close_paren) s' ∷ us) us
  only_names : {xs : List Bytes} {s : Spot} {ts us : List Tok}
      → NameList xs ts (tok (w.key w.close_paren) s ∷ us) → Params xs false ts us
  names_dots : {xs : List Bytes} {s s' s2 : Spot} {ts us : List Tok}
      → NameList xs ts (tok (w.key w.comma) s ∷ tok (w.key w.dots) s' ∷ tok (w.key w.close_paren) s2 ∷ us)
      → Params xs true ts us

-- Name {'.' Name}: the index of what stands before by each further name
pub data NamePath : Expr → List Tok → List Tok → Type 0 where
  one_path : {x : Bytes} {s : Spot} {us : List Tok}
      → NamePath (name s.line x) (tok (w.name x) s ∷ us) us
  dot_path : {a : Expr} {x : Bytes} {s s' : Spot} {ts us : List Tok}
      → NamePath a ts (tok (w.key w.dot) s ∷ tok (w.name x) s' ∷ us)
      → NamePath (index s.line a (str s'.line x)) ts us

-- funcname ::= Name {'.' Name} [':' Name], with the hidden parameter that a colon gives
pub data FuncName : Expr → List Bytes → List Tok → List Tok → Type 0 where
  plain_name : {a : Expr} {ts us : List Tok} → NamePath a ts us → FuncName a [] ts us
  method_name : {a : Expr} {x : Bytes} {s s' : Spot} {ts us : List Tok}
      → NamePath a ts (tok (w.key w.colon) s ∷ tok (w.name x) s' ∷ us)
      → FuncName (index s.line a (str s'.line x)) (self ∷ []) ts us

-- [';']
pub data Semi : List Tok → List Tok → Type 0 where
  no_semi : {us : List Tok} → Semi us us
  a_semi : {s : Spot} {us : List Tok} → Semi (tok (w.key w.semicolon) s ∷ us) us

mutual
  -- exp, whose operators outside of brackets have this level at least
  pub data Exp : ℕ → Expr → List Tok → List Tok → Type 0 where
    nil_exp : {p : ℕ} {s : Spot} {us : List Tok} → Exp p (nil s.line) (tok (w.key w.nil_) s ∷ us) us
    true_exp : {p : ℕ} {s : Spot} {us : List Tok}
        → Exp p (true_ s.line) (tok (w.key w.true_) s ∷ us) us
    false_exp : {p : ℕ} {s : Spot} {us : List Tok}
        → Exp p (false_ s.line) (tok (w.key w.false_) s ∷ us) us
    number_exp : {p : ℕ} {z : ℤ} {s : Spot} {us : List Tok}
        → Exp p (number s.line z) (tok (w.number z) s ∷ us) us
    str_exp : {p : ℕ} {x : Bytes} {s : Spot} {us : List Tok}
        → Exp p (str s.line x) (tok (w.str x) s ∷ us) us
    dots_exp : {p : ℕ} {s : Spot} {us : List Tok}
        → Exp p (dots s.line) (tok (w.key w.dots) s ∷ us) us
    function_exp : {p : ℕ} {f : Func} {s : Spot} {m us : List Tok} → Body s.line [] f m us
        → Exp p (function s.line f) (tok (w.key w.function_) s ∷ m) us
    prefix_exp : {p : ℕ} {e : Expr} {ts us : List Tok} → Prefix e ts us → NotOpen (word_of us)
        → Exp p e ts us
    table_exp : {p : ℕ} {fs : Fields} {s s' : Spot} {m us : List Tok}
        → FieldList fs m (tok (w.key w.close_brace) s' ∷ us)
        → Exp p (table s.line fs) (tok (w.key w.open_brace) s ∷ m) us
    binary_exp : {p : ℕ} {o : BinOp} {a b : Expr} {s : Spot} {ts m us : List Tok} → p ≤ level o
        → Exp (left_level o) a ts (tok (w.op o) s ∷ m) → Exp (right_level o) b m us
        → Exp p (binary s.line o a b) ts us
    unary_exp : {p : ℕ} {o : UnOp} {v : Word} {e : Expr} {s : Spot} {m us : List Tok}
        → p ≤ unary_level → IsUnary o v → Exp unary_level e m us
        → Exp p (unary s.line o e) (tok v s ∷ m) us

  -- prefixexp ::= var | functioncall | '(' exp ')'
  pub data Prefix : Expr → List Tok → List Tok → Type 0 where
    var_prefix : {e : Expr} {ts us : List Tok} → Var e ts us → Prefix e ts us
    call_prefix : {e : Expr} {ts us : List Tok} → Call e ts us → Prefix e ts us
    paren_prefix : {e : Expr} {s s' : Spot} {m us : List Tok}
        → Exp 0 e m (tok (w.key w.close_paren) s' ∷ us)
        → Prefix (paren s.line e) (tok (w.key w.open_paren) s ∷ m) us

  -- var ::= Name | prefixexp '[' exp ']' | prefixexp '.' Name
  pub data Var : Expr → List Tok → List Tok → Type 0 where
    name_var : {x : Bytes} {s : Spot} {us : List Tok}
        → Var (name s.line x) (tok (w.name x) s ∷ us) us
    index_var : {a e : Expr} {s s' : Spot} {ts m us : List Tok}
        → Prefix a ts (tok (w.key w.open_bracket) s ∷ m)
        → Exp 0 e m (tok (w.key w.close_bracket) s' ∷ us) → Var (index s.line a e) ts us
    dot_var : {a : Expr} {x : Bytes} {s s' : Spot} {ts us : List Tok}
        → Prefix a ts (tok (w.key w.dot) s ∷ tok (w.name x) s' ∷ us)
        → Var (index s.line a (str s'.line x)) ts us

  -- functioncall ::= prefixexp args | prefixexp ':' Name args
  pub data Call : Expr → List Tok → List Tok → Type 0 where
    plain_call : {a : Expr} {l : ℕ} {es : Exprs} {ts m us : List Tok} → Prefix a ts m
        → Args l es m us → Call (call l a es) ts us
    method_call : {a : Expr} {x : Bytes} {l : ℕ} {es : Exprs} {s s' : Spot} {ts m us : List Tok}
        → Prefix a ts (tok (w.key w.colon) s ∷ tok (w.name x) s' ∷ m) → Args l es m us
        → Call (method l a x es) ts us

  -- args ::= '(' [explist] ')' | table | String, with the line of the token that opens them
  pub data Args : ℕ → Exprs → List Tok → List Tok → Type 0 where
    no_args : {s s' : Spot} {us : List Tok}
        → Args (call_line s) no_exprs (tok (w.key w.open_paren) s ∷ tok (w.key w.close_paren) s' ∷ us) us
    list_args : {es : Exprs} {s s' : Spot} {m us : List Tok}
        → ExpList es m (tok (w.key w.close_paren) s' ∷ us)
        → Args (call_line s) es (tok (w.key w.open_paren) s ∷ m) us
    table_args : {fs : Fields} {s s' : Spot} {m us : List Tok}
        → FieldList fs m (tok (w.key w.close_brace) s' ∷ us)
        → Args s.line (expr_and (table s.line fs) no_exprs) (tok (w.key w.open_brace) s ∷ m) us
    str_args : {x : Bytes} {s : Spot} {us : List Tok}
        → Args s.line (expr_and (str s.line x) no_exprs) (tok (w.str x) s ∷ us) us

  -- explist ::= exp {',' exp}
  pub data ExpList : Exprs → List Tok → List Tok → Type 0 where
    one_exp : {e : Expr} {ts us : List Tok} → Exp 0 e ts us → ExpList (expr_and e no_exprs) ts us
    exp_and : {e : Expr} {es : Exprs} {s : Spot} {ts m us : List Tok}
        → Exp 0 e ts (tok (w.key w.comma) s ∷ m) → ExpList es m us → ExpList (expr_and e es) ts us

  -- [field {fieldsep field} [fieldsep]], where field ::= '[' exp ']' '=' exp | Name '=' exp | exp
  pub data FieldList : Fields → List Tok → List Tok → Type 0 where
    no_field : {us : List Tok} → FieldList no_fields us us
    item_field : {e : Expr} {fs : Fields} {ts m us : List Tok} → Exp 0 e ts m → MoreFields fs m us
        → FieldList (item_and e fs) ts us
    keyed_field : {k e : Expr} {fs : Fields} {s s' s2 : Spot} {m n q us : List Tok}
        → Exp 0 k m (tok (w.key w.close_bracket) s' ∷ tok (w.key w.assign) s2 ∷ n) → Exp 0 e n q
        → MoreFields fs q us → FieldList (keyed_and k e fs) (tok (w.key w.open_bracket) s ∷ m) us
    named_field : {x : Bytes} {e : Expr} {fs : Fields} {s s' : Spot} {m n us : List Tok}
        → Exp 0 e m n → MoreFields fs n us
        → FieldList (keyed_and (str s.line x) e fs) (tok (w.name x) s ∷ tok (w.key w.assign) s' ∷ m) us

  -- what follows a field: nothing, or a separator and further fields, if any
  pub data MoreFields : Fields → List Tok → List Tok → Type 0 where
    no_more : {us : List Tok} → MoreFields no_fields us us
    separated : {fs : Fields} {v : Word} {s : Spot} {m us : List Tok} → IsSeparator v
        → FieldList fs m us → MoreFields fs (tok v s ∷ m) us

  -- funcbody ::= '(' [parlist] ')' block end, of a function of this line with these hidden parameters
  pub data Body : ℕ → List Bytes → Func → List Tok → List Tok → Type 0 where
    body : {l : ℕ} {hidden xs : List Bytes} {d : Bool} {b : Block} {s s' : Spot} {m n us : List Tok}
        → Params xs d m n → Stats b n (tok (w.key w.end_) s' ∷ us)
        → Body l hidden (func l (hidden ++ xs) d b) (tok (w.key w.open_paren) s ∷ m) us

  -- block ::= {stat [';']} [laststat [';']]
  pub data Stats : Block → List Tok → List Tok → Type 0 where
    no_stat : {us : List Tok} → Stats no_stats us us
    a_stat : {st : Stat} {b : Block} {ts m n us : List Tok} → StatOf st ts m → Semi m n
        → Stats b n us → Stats (stat_and st b) ts us
    last_stat : {st : Stat} {ts m us : List Tok} → LastOf st ts m → Semi m us
        → Stats (stat_and st no_stats) ts us

  -- stat, one case for each form
  pub data StatOf : Stat → List Tok → List Tok → Type 0 where
    assign_of : {es vs : Exprs} {s : Spot} {ts m us : List Tok}
        → VarList es ts (tok (w.key w.assign) s ∷ m) → ExpList vs m us
        → StatOf (assign (first_line ts) es vs) ts us
    call_of : {e : Expr} {ts us : List Tok} → Call e ts us → NotOpen (word_of us)
        → StatOf (call_stat (first_line ts) e) ts us
    do_of : {b : Block} {s s' : Spot} {m us : List Tok} → Stats b m (tok (w.key w.end_) s' ∷ us)
        → StatOf (do_block s.line b) (tok (w.key w.do_) s ∷ m) us
    while_of : {e : Expr} {b : Block} {s s' s2 : Spot} {m n us : List Tok}
        → Exp 0 e m (tok (w.key w.do_) s' ∷ n) → Stats b n (tok (w.key w.end_) s2 ∷ us)
        → StatOf (while_loop s.line e b) (tok (w.key w.while_) s ∷ m) us
    repeat_of : {b : Block} {e : Expr} {s s' : Spot} {m n us : List Tok}
        → Stats b m (tok (w.key w.until) s' ∷ n) → Exp 0 e n us
        → StatOf (repeat_loop s.line b e) (tok (w.key w.repeat_) s ∷ m) us
    if_of : {rest : Arms} {s : Spot} {m us : List Tok} → ArmsOf rest m us
        → StatOf (if_stat s.line rest) (tok (w.key w.if_) s ∷ m) us
    num_for_of : {x : Bytes} {a b : Expr} {c : Block} {s s' s2 s3 s4 s5 : Spot} {m n q us : List Tok}
        → Exp 0 a m (tok (w.key w.comma) s3 ∷ n) → Exp 0 b n (tok (w.key w.do_) s4 ∷ q)
        → Stats c q (tok (w.key w.end_) s5 ∷ us)
        → StatOf (num_for s.line x a b c) (tok (w.key w.for_) s ∷ tok (w.name x) s' ∷ tok (w.key w.assign) s2 ∷ m) us
    num_for_by_of : {x : Bytes} {a b e : Expr} {c : Block} {s s' s2 s3 s4 s5 s6 : Spot} {m n q r us : List Tok}
        → Exp 0 a m (tok (w.key w.comma) s3 ∷ n) → Exp 0 b n (tok (w.key w.comma) s4 ∷ q)
        → Exp 0 e q (tok (w.key w.do_) s5 ∷ r) → Stats c r (tok (w.key w.end_) s6 ∷ us)
        → StatOf (num_for_by s.line x a b e c) (tok (w.key w.for_) s ∷ tok (w.name x) s' ∷ tok (w.key w.assign) s2 ∷ m) us
    gen_for_of : {xs : List Bytes} {es : Exprs} {c : Block} {s s' s2 s3 : Spot} {m n q us : List Tok}
        → NameList xs m (tok (w.key w.in_) s' ∷ n) → ExpList es n (tok (w.key w.do_) s2 ∷ q)
        → Stats c q (tok (w.key w.end_) s3 ∷ us)
        → StatOf (gen_for s.line xs es c) (tok (w.key w.for_) s ∷ m) us
    function_of : {e : Expr} {hidden : List Bytes} {f : Func} {s : Spot} {m n us : List Tok}
        → FuncName e hidden m n → Body s.line hidden f n us
        → StatOf (function_stat s.line e f) (tok (w.key w.function_) s ∷ m) us
    local_function_of : {x : Bytes} {f : Func} {s s' s2 : Spot} {m us : List Tok}
        → Body s'.line [] f m us
        → StatOf (local_function s.line x f) (tok (w.key w.local_) s ∷ tok (w.key w.function_) s' ∷ tok (w.name x) s2 ∷ m) us
    local_of : {xs : List Bytes} {s : Spot} {m us : List Tok} → NameList xs m us
        → StatOf (local s.line xs no_exprs) (tok (w.key w.local_) s ∷ m) us
    local_with_of : {xs : List Bytes} {es : Exprs} {s s' : Spot} {m n us : List Tok}
        → NameList xs m (tok (w.key w.assign) s' ∷ n) → ExpList es n us
        → StatOf (local s.line xs es) (tok (w.key w.local_) s ∷ m) us

  -- laststat ::= return [explist] | break
  pub data LastOf : Stat → List Tok → List Tok → Type 0 where
    return_of : {s : Spot} {us : List Tok}
        → LastOf (return_stat s.line no_exprs) (tok (w.key w.return_) s ∷ us) us
    return_with_of : {es : Exprs} {s : Spot} {m us : List Tok} → ExpList es m us
        → LastOf (return_stat s.line es) (tok (w.key w.return_) s ∷ m) us
    break_of : {s : Spot} {us : List Tok}
        → LastOf (break_stat s.line) (tok (w.key w.break_) s ∷ us) us

  -- varlist ::= var {',' var}
  pub data VarList : Exprs → List Tok → List Tok → Type 0 where
    one_var : {e : Expr} {ts us : List Tok} → Var e ts us → VarList (expr_and e no_exprs) ts us
    var_and : {e : Expr} {es : Exprs} {s : Spot} {ts m us : List Tok}
        → Var e ts (tok (w.key w.comma) s ∷ m) → VarList es m us → VarList (expr_and e es) ts us

  -- exp then block {elseif exp then block} [else block] end
  pub data ArmsOf : Arms → List Tok → List Tok → Type 0 where
    arm_of : {e : Expr} {b : Block} {rest : Arms} {s : Spot} {ts m n us : List Tok}
        → Exp 0 e ts (tok (w.key w.then_) s ∷ m) → Stats b m n → MoreArms rest n us
        → ArmsOf (arm_and e b rest) ts us

  pub data MoreArms : Arms → List Tok → List Tok → Type 0 where
    elseif_of : {rest : Arms} {s : Spot} {m us : List Tok} → ArmsOf rest m us
        → MoreArms rest (tok (w.key w.elseif) s ∷ m) us
    else_of : {b : Block} {s s' : Spot} {m us : List Tok} → Stats b m (tok (w.key w.end_) s' ∷ us)
        → MoreArms (else_block b) (tok (w.key w.else_) s ∷ m) us
    end_of : {s : Spot} {us : List Tok} → MoreArms no_else (tok (w.key w.end_) s ∷ us) us

-- the tokens spell the chunk
abbrev pub Spells : Block → List Tok → Type 0
Spells b ts = Stats b ts []
