-- Reading by descent (Lua 5.1 manual §2.2 to §2.5, §8): for each rule a program that looks at the next word, takes tokens
-- and calls other rules. Each token that is taken says how much of what is limited it makes unavoidable.
use Rattle.std.specs.Prelude.{ℕ, suc, ◌+◌, ◌≡◌, ◌<◌, ◌≤◌, leb, cond, length, Bool, true, false, List, [], ◌∷◌, ◌++◌}
use Rattle.lua_tree.specs.Tree.{Bytes, not_, length_of, negate, sub, Expr, nil, true_, false_, number, str, dots, function, name, index, call, method, table, unary, binary, paren, Exprs, no_exprs, expr_and, Fields, no_fields, item_and, keyed_and, Func, func, Block, no_stats, stat_and, Stat, assign, local, call_stat, do_block, while_loop, repeat_loop, if_stat, num_for, num_for_by, gen_for, function_stat, local_function, return_stat, break_stat, Arms, no_else, else_block, arm_and}
use Rattle.lua_tree.specs.Words as w
use Rattle.lua_tree.specs.Words.{Word, Key, key, Spot, Tok, tok, word_of, spot_of}
use Rattle.lua_tree.specs.Grammar.{level, unary_level, right_level, call_line, self}
use Rattle.lua_tree.specs.Attributes.{Limit, breaks, varargs, nodes, locals, calls, Counts, at_chunk, under, looped, named, inside, at_call, declared, height}

-- what a rule reads
pub data Sort : Type 0 where
  an_expr an_args some_exprs some_targets some_fields a_func a_block a_stat some_arms some_names some_params a_target a_semi : Sort

abbrev pub Value : Sort → Type 0
Value an_expr = Expr
Value an_args = ℕ × Exprs
Value some_exprs = Exprs
Value some_targets = Exprs
Value some_fields = Fields
Value a_func = Func
Value a_block = Block
Value a_stat = Stat
Value some_arms = Arms
Value some_names = List Bytes
Value some_params = List Bytes × Bool
Value a_target = Expr × List Bytes
Value a_semi = Unit {0}

-- where a prefix expression stands: in an expression, first in a statement, or as a later target of an assignment
pub data Place : Type 0 where
  in_expr leading targeted : Place

-- what a prefix expression is so far
pub data Shape : Type 0 where
  a_var a_call a_paren : Shape

abbrev pub shape : Expr → Shape
shape (name l x) = a_var
shape (index l a e) = a_var
shape (call l a es) = a_call
shape (method l a x es) = a_call
shape e = a_paren

-- whether a suffix must follow there: a statement begins with no parentheses alone, a target is neither those nor a call
abbrev pub unfinished : Place → Shape → Bool
unfinished k a_var = false
unfinished targeted a_call = true
unfinished k a_call = false
unfinished in_expr a_paren = false
unfinished k a_paren = true

-- the rules; each is given what is counted where it begins
pub data Rule : Sort → Type 0 where
  -- exp of at least this level
  expr : ℕ → Counts → Rule an_expr
  -- what follows an operand of it
  more : ℕ → Counts → Expr → Rule an_expr
  -- an operand
  first : Counts → Rule an_expr
  -- prefixexp
  prefix : Place → Counts → Rule an_expr
  -- its suffixes, behind what was read of it
  suffixes : Place → Counts → Expr → Rule an_expr
  -- args, whose opening token makes so many nodes unavoidable
  args : ℕ → Counts → Rule an_args
  -- [explist] ')'
  paren_args : ℕ → Counts → Rule an_args
  -- explist, and what follows an expression of it
  exprs : Counts → Rule some_exprs
  more_exprs : Counts → Rule some_exprs
  -- [fieldlist] '}', what follows a field, and what follows a name that begins a field
  fields : Counts → Rule some_fields
  more_fields : Counts → Rule some_fields
  name_field : ℕ → Bytes → Counts → Rule some_fields
  -- funcbody, with hidden parameters
  func_body : ℕ → List Bytes → Counts → Rule a_func
  -- [parlist] ')', where so many parameters stand before; behind a comma; behind a name
  params : ℕ → Rule some_params
  next_param : ℕ → Rule some_params
  more_params : ℕ → Rule some_params
  -- {',' Name}, where so many locals are in scope
  more_names : ℕ → Rule some_names
  -- chunk, block, [';']
  chunk : Rule a_block
  block : Counts → Rule a_block
  semi : Rule a_semi
  -- do block end, where a loop adds so many locals
  loop_block : ℕ → Counts → Rule a_block
  -- stat, and what follows the beginning of one
  stat : Counts → Rule a_stat
  prefix_stat : ℕ → Counts → Expr → Rule a_stat
  for_rest : ℕ → Bytes → Counts → Rule a_stat
  num_for_rest : ℕ → Bytes → Expr → Expr → Counts → Rule a_stat
  local_rest : ℕ → Counts → Rule a_stat
  last : Counts → Rule a_stat
  return_rest : ℕ → Counts → Rule a_stat
  -- {',' var}
  more_targets : Counts → Rule some_targets
  -- ['=' explist]
  init : Counts → Rule some_exprs
  -- exp then block {elseif exp then block} [else block] end
  arms : Counts → Rule some_arms
  more_arms : Counts → Rule some_arms
  -- {'.' Name} [':' Name]
  func_name : Counts → Expr → Rule a_target

-- what a token that is taken makes unavoidable
abbrev pub Needs : Type 0
Needs = Limit → ℕ

-- a program of a rule: a value; the next token is unexpected; the next token is taken; the next word is looked at; the
-- next token has to be this word, or a name; no token may be left; another rule is called
pub data Prog (s : Sort) : Type 0 where
  give : Value s → Prog s
  fail : Prog s
  take : Needs → Prog s → Prog s
  look : (Word → Spot → Prog s) → Prog s
  expect : Key → Needs → (Spot → Prog s) → Prog s
  expect_name : Needs → (Bytes → Spot → Prog s) → Prog s
  at_last : Value s → Prog s
  then : {q : Sort} → Rule q → (Value q → Prog s) → Prog s

-- ---- what tokens make unavoidable

abbrev pub free : Needs
free x = 0

-- so many nodes on the way from the chunk
abbrev pub deep : ℕ → Needs
deep n nodes = n
deep n x = 0

-- so many locals in scope
abbrev pub many : ℕ → Needs
many n locals = n
many n x = 0

abbrev pub for_break : Counts → Needs
for_break c breaks = c breaks
for_break c x = 0

abbrev pub for_dots : Counts → Needs
for_dots c varargs = c varargs
for_dots c nodes = suc (c nodes)
for_dots c x = 0

-- so many nodes, and an ambiguous call where the line is 0
abbrev pub opening : ℕ → ℕ → Needs
opening n line nodes = n
opening n line calls = at_call calls line
opening n line x = 0

-- ---- what is counted further inside

abbrev pub down : Counts → Counts
down c x = under x (c x)

abbrev pub in_loop : ℕ → Counts → Counts
in_loop k c x = looped x k (c x)

abbrev pub in_body : List Bytes → Bool → Counts → Counts
in_body ps d c x = inside x ps d (c x)

abbrev pub behind : Stat → Counts → Counts
behind st c x = named x (declared st) (c x)

-- one deeper where a suffix must follow
abbrev pub held : Bool → Counts → Counts
held true c = down c
held false c = c

-- ---- the rules' programs

abbrev pub first_of : Counts → Word → Spot → Prog an_expr
first_of c (key w.nil_) s = take (deep (suc (c nodes))) (give (nil s.line))
first_of c (key w.true_) s = take (deep (suc (c nodes))) (give (true_ s.line))
first_of c (key w.false_) s = take (deep (suc (c nodes))) (give (false_ s.line))
first_of c (w.number z) s = take (deep (suc (c nodes))) (give (number s.line z))
first_of c (w.str x) s = take (deep (suc (c nodes))) (give (str s.line x))
first_of c (key w.dots) s = take (for_dots c) (give (dots s.line))
first_of c (key w.function_) s =
    take (deep (c nodes + 2)) (then (func_body s.line [] (down c)) (λ f. give (function s.line f)))
first_of c (key w.not_) s =
    take (deep (c nodes + 2)) (then (expr unary_level (down c)) (λ e. give (unary s.line not_ e)))
first_of c (key w.hash) s =
    take (deep (c nodes + 2))
    (then (expr unary_level (down c)) (λ e. give (unary s.line length_of e)))
first_of c (w.op sub) s =
    take (deep (c nodes + 2)) (then (expr unary_level (down c)) (λ e. give (unary s.line negate e)))
first_of c (key w.open_brace) s =
    take (deep (suc (c nodes))) (then (fields (down c)) (λ fs. give (table s.line fs)))
first_of c v s = then (prefix in_expr c) give

abbrev pub more_of : ℕ → Counts → Expr → Word → Spot → Prog an_expr
more_of p c a (w.op o) s =
    cond (leb p (level o))
    (take (deep (suc (c nodes) + height a)) (then (expr (right_level o) (down c)) (λ b. then (more p c (binary s.line o a b)) give)))
    (give a)
more_of p c a v s = give a

abbrev pub prefix_of : Place → Counts → Word → Spot → Prog an_expr
prefix_of k c (w.name x) s = take (deep (suc (c nodes))) (then (suffixes k c (name s.line x)) give)
prefix_of k c (key w.open_paren) s =
    take (deep (held (unfinished k a_paren) c nodes + 2))
    (then (expr 0 (down (held (unfinished k a_paren) c))) (λ e. expect w.close_paren free (λ s'. then (suffixes k c (paren s.line e)) give)))
prefix_of k c v s = fail

-- a call's arguments
abbrev pub called : Place → Counts → Expr → Prog an_expr
called k c a =
    then (args (suc (held (unfinished k a_call) c nodes) + height a) (down (held (unfinished k a_call) c)))
    (λ r. then (suffixes k c (call r.0 a r.1)) give)

abbrev pub suffixes_of : Place → Counts → Expr → Word → Spot → Prog an_expr
suffixes_of k c a (key w.open_bracket) s =
    take (deep (suc (c nodes) + height a)) (then (expr 0 (down c)) (λ e. expect w.close_bracket free (λ s'. then (suffixes k c (index s.line a e)) give)))
suffixes_of k c a (key w.dot) s =
    take (deep (suc (c nodes) + height a))
    (expect_name free (λ x s'. then (suffixes k c (index s.line a (str s'.line x))) give))
suffixes_of k c a (key w.colon) s =
    take (deep (suc (held (unfinished k a_call) c nodes) + height a))
    (expect_name free (λ x s'. then (args (suc (held (unfinished k a_call) c nodes) + height a) (down (held (unfinished k a_call) c))) (λ r. then (suffixes k c (method r.0 a x r.1)) give)))
suffixes_of k c a (key w.open_paren) s = called k c a
suffixes_of k c a (key w.open_brace) s = called k c a
suffixes_of k c a (w.str x) s = called k c a
suffixes_of k c a v s = give a

abbrev pub args_of : ℕ → Counts → Word → Spot → Prog an_args
args_of n c (key w.open_paren) s =
    take (opening n (call_line s)) (then (paren_args (call_line s) c) give)
args_of n c (key w.open_brace) s =
    take (opening n s.line)
    (then (fields (down c)) (λ fs. give (s.line, expr_and (table s.line fs) no_exprs)))
args_of n c (w.str x) s = take (opening n s.line) (give (s.line, expr_and (str s.line x) no_exprs))
args_of n c v s = fail

abbrev pub paren_args_of : ℕ → Counts → Word → Spot → Prog an_args
paren_args_of l c (key w.close_paren) s = take free (give (l, no_exprs))
paren_args_of l c v s = then (exprs c) (λ es. expect w.close_paren free (λ s'. give (l, es)))

abbrev pub more_exprs_of : Counts → Word → Spot → Prog some_exprs
more_exprs_of c (key w.comma) s = take free (then (exprs c) give)
more_exprs_of c v s = give no_exprs

abbrev pub fields_of : Counts → Word → Spot → Prog some_fields
fields_of c (key w.close_brace) s = take free (give no_fields)
fields_of c (key w.open_bracket) s =
    take (deep (suc (c nodes)))
    (then (expr 0 c) (λ k. expect w.close_bracket free (λ s'. expect w.assign free (λ s2. then (expr 0 c) (λ e. then (more_fields c) (λ fs. give (keyed_and k e fs)))))))
fields_of c (w.name x) s = take (deep (suc (c nodes))) (then (name_field s.line x c) give)
fields_of c v s = then (expr 0 c) (λ e. then (more_fields c) (λ fs. give (item_and e fs)))

abbrev pub name_field_of : ℕ → Bytes → Counts → Word → Spot → Prog some_fields
name_field_of l x c (key w.assign) s =
    take free (then (expr 0 c) (λ e. then (more_fields c) (λ fs. give (keyed_and (str l x) e fs))))
name_field_of l x c v s =
    then (suffixes in_expr c (name l x))
    (λ a. then (more 0 c a) (λ e. then (more_fields c) (λ fs. give (item_and e fs))))

abbrev pub more_fields_of : Counts → Word → Spot → Prog some_fields
more_fields_of c (key w.comma) s = take free (then (fields c) give)
more_fields_of c (key w.semicolon) s = take free (then (fields c) give)
more_fields_of c (key w.close_brace) s = take free (give no_fields)
more_fields_of c v s = fail

abbrev pub params_of : ℕ → Word → Spot → Prog some_params
params_of n (key w.close_paren) s = take free (give ([], false))
params_of n v s = then (next_param n) give

abbrev pub next_param_of : ℕ → Word → Spot → Prog some_params
next_param_of n (key w.dots) s = take free (expect w.close_paren free (λ s'. give ([], true)))
next_param_of n (w.name x) s =
    take (many (suc n)) (then (more_params (suc n)) (λ r. give (x ∷ r.0, r.1)))
next_param_of n v s = fail

abbrev pub more_params_of : ℕ → Word → Spot → Prog some_params
more_params_of n (key w.comma) s = take free (then (next_param n) give)
more_params_of n (key w.close_paren) s = take free (give ([], false))
more_params_of n v s = fail

abbrev pub more_names_of : ℕ → Word → Spot → Prog some_names
more_names_of n (key w.comma) s =
    take free (expect_name (many (suc n)) (λ x s'. then (more_names (suc n)) (λ xs. give (x ∷ xs))))
more_names_of n v s = give []

abbrev pub semi_of : Word → Spot → Prog a_semi
semi_of (key w.semicolon) s = take free (give tt)
semi_of v s = give tt

abbrev pub with_last : Counts → Prog a_block
with_last c = then (last c) (λ st. then semi (λ u. give (stat_and st no_stats)))

abbrev pub with_stat : Counts → Prog a_block
with_stat c =
    then (stat c) (λ st. then semi (λ u. then (block (behind st c)) (λ b. give (stat_and st b))))

abbrev pub block_of : Counts → Word → Spot → Prog a_block
block_of c (key w.return_) s = with_last c
block_of c (key w.break_) s = with_last c
block_of c (key w.do_) s = with_stat c
block_of c (key w.while_) s = with_stat c
block_of c (key w.repeat_) s = with_stat c
block_of c (key w.if_) s = with_stat c
block_of c (key w.for_) s = with_stat c
block_of c (key w.function_) s = with_stat c
block_of c (key w.local_) s = with_stat c
block_of c (w.name x) s = with_stat c
block_of c (key w.open_paren) s = with_stat c
block_of c v s = give no_stats

abbrev pub stat_of : Counts → Word → Spot → Prog a_stat
stat_of c (key w.do_) s =
    take (deep (suc (c nodes)))
    (then (block (down c)) (λ b. expect w.end_ free (λ s'. give (do_block s.line b))))
stat_of c (key w.while_) s =
    take (deep (suc (c nodes)))
    (then (expr 0 c) (λ e. then (loop_block 0 c) (λ b. give (while_loop s.line e b))))
stat_of c (key w.repeat_) s =
    take (deep (suc (c nodes)))
    (then (block (in_loop 0 c))
    (λ b. expect w.until free (λ s'. then (expr 0 c) (λ e. give (repeat_loop s.line b e)))))
stat_of c (key w.if_) s =
    take (deep (suc (c nodes))) (then (arms c) (λ xs. give (if_stat s.line xs)))
stat_of c (key w.for_) s =
    take (deep (suc (c nodes)))
    (expect_name (many (suc (c locals))) (λ x s'. then (for_rest s.line x c) give))
stat_of c (key w.function_) s =
    take (deep (suc (c nodes)))
    (expect_name free (λ x s'. then (func_name c (name s'.line x)) (λ t. then (func_body s.line t.1 c) (λ f. give (function_stat s.line t.0 f)))))
stat_of c (key w.local_) s = take free (then (local_rest s.line c) give)
stat_of c v s = then (prefix leading c) (λ e. then (prefix_stat s.line c e) give)

abbrev pub prefix_stat_of : ℕ → Counts → Expr → Shape → Prog a_stat
prefix_stat_of l c e a_var =
    then (more_targets c)
    (λ es. expect w.assign free (λ s. then (exprs c) (λ vs. give (assign l (expr_and e es) vs))))
prefix_stat_of l c e a_call = give (call_stat l e)
prefix_stat_of l c e a_paren = fail

abbrev pub target_of : Counts → Expr → Shape → Prog some_targets
target_of c e a_var = then (more_targets c) (λ es. give (expr_and e es))
target_of c e a_call = fail
target_of c e a_paren = fail

abbrev pub more_targets_of : Counts → Word → Spot → Prog some_targets
more_targets_of c (key w.comma) s =
    take free (then (prefix targeted c) (λ e. target_of c e (shape e)))
more_targets_of c v s = give no_exprs

abbrev pub for_rest_of : ℕ → Bytes → Counts → Word → Spot → Prog a_stat
for_rest_of l x c (key w.assign) s =
    take free
    (then (expr 0 c)
    (λ a. expect w.comma free (λ s'. then (expr 0 c) (λ b. then (num_for_rest l x a b c) give))))
for_rest_of l x c v s =
    then (more_names (suc (c locals))) (λ xs. expect w.in_ free (λ s'. then (exprs c) (λ es. then (loop_block (length (x ∷ xs)) c) (λ b. give (gen_for l (x ∷ xs) es b)))))

abbrev pub num_for_rest_of : ℕ → Bytes → Expr → Expr → Counts → Word → Spot → Prog a_stat
num_for_rest_of l x a b c (key w.comma) s =
    take free (then (expr 0 c) (λ e. then (loop_block 1 c) (λ d. give (num_for_by l x a b e d))))
num_for_rest_of l x a b c v s = then (loop_block 1 c) (λ d. give (num_for l x a b d))

abbrev pub local_rest_of : ℕ → Counts → Word → Spot → Prog a_stat
local_rest_of l c (key w.function_) s =
    take (deep (suc (c nodes))) (expect_name (many (suc (c locals))) (λ x s'. then (func_body s.line [] c) (λ f. give (local_function l x f))))
local_rest_of l c v s =
    expect_name (many (suc (c locals))) (λ x s'. then (more_names (suc (c locals))) (λ xs. then (init c) (λ es. give (local l (x ∷ xs) es))))

abbrev pub init_of : Counts → Word → Spot → Prog some_exprs
init_of c (key w.assign) s = take (deep (suc (c nodes))) (then (exprs c) give)
init_of c v s = give no_exprs

abbrev pub last_of : Counts → Word → Spot → Prog a_stat
last_of c (key w.return_) s = take free (then (return_rest s.line c) give)
last_of c (key w.break_) s = take (for_break c) (give (break_stat s.line))
last_of c v s = fail

abbrev pub return_rest_of : ℕ → Counts → Word → Spot → Prog a_stat
return_rest_of l c (key w.end_) s = give (return_stat l no_exprs)
return_rest_of l c (key w.else_) s = give (return_stat l no_exprs)
return_rest_of l c (key w.elseif) s = give (return_stat l no_exprs)
return_rest_of l c (key w.until) s = give (return_stat l no_exprs)
return_rest_of l c (key w.semicolon) s = give (return_stat l no_exprs)
return_rest_of l c w.the_end s = give (return_stat l no_exprs)
return_rest_of l c v s = then (exprs c) (λ es. give (return_stat l es))

abbrev pub more_arms_of : Counts → Word → Spot → Prog some_arms
more_arms_of c (key w.elseif) s = take free (then (arms c) give)
more_arms_of c (key w.else_) s =
    take free (then (block (down c)) (λ b. expect w.end_ free (λ s'. give (else_block b))))
more_arms_of c (key w.end_) s = take free (give no_else)
more_arms_of c v s = fail

abbrev pub func_name_of : Counts → Expr → Word → Spot → Prog a_target
func_name_of c a (key w.dot) s =
    take (deep (suc (c nodes) + height a))
    (expect_name free (λ x s'. then (func_name c (index s.line a (str s'.line x))) give))
func_name_of c a (key w.colon) s =
    take (deep (suc (c nodes) + height a))
    (expect_name (many 1) (λ x s'. give (index s.line a (str s'.line x), self ∷ [])))
func_name_of c a v s = give (a, [])

abbrev pub program : {s : Sort} → Rule s → Prog s
program (expr p c) = then (first c) (λ a. then (more p c a) give)
program (more p c a) = look (more_of p c a)
program (first c) = look (first_of c)
program (prefix k c) = look (prefix_of k c)
program (suffixes k c a) = look (suffixes_of k c a)
program (args n c) = look (args_of n c)
program (paren_args l c) = look (paren_args_of l c)
program (exprs c) = then (expr 0 c) (λ e. then (more_exprs c) (λ es. give (expr_and e es)))
program (more_exprs c) = look (more_exprs_of c)
program (fields c) = look (fields_of c)
program (more_fields c) = look (more_fields_of c)
program (name_field l x c) = look (name_field_of l x c)
program (func_body l hidden c) =
    expect w.open_paren free (λ s. then (params (length hidden)) (λ r. then (block (in_body (hidden ++ r.0) r.1 c)) (λ b. expect w.end_ free (λ s'. give (func l (hidden ++ r.0) r.1 b)))))
program (params n) = look (params_of n)
program (next_param n) = look (next_param_of n)
program (more_params n) = look (more_params_of n)
program (more_names n) = look (more_names_of n)
program chunk = then (block at_chunk) at_last
program (block c) = look (block_of c)
program semi = look semi_of
program (loop_block k c) =
    expect w.do_ free (λ s. then (block (in_loop k c)) (λ b. expect w.end_ free (λ s'. give b)))
program (stat c) = look (stat_of c)
program (prefix_stat l c e) = prefix_stat_of l c e (shape e)
program (for_rest l x c) = look (for_rest_of l x c)
program (num_for_rest l x a b c) = look (num_for_rest_of l x a b c)
program (local_rest l c) = look (local_rest_of l c)
program (last c) = look (last_of c)
program (return_rest l c) = look (return_rest_of l c)
program (more_targets c) = look (more_targets_of c)
program (init c) = look (init_of c)
program (arms c) =
    then (expr 0 c)
    (λ e.
    expect w.then_ free
    (λ s. then (block (down c)) (λ b. then (more_arms c) (λ xs. give (arm_and e b xs)))))
program (more_arms c) = look (more_arms_of c)
program (func_name c a) = look (func_name_of c a)

-- ---- reading

-- what stands at a token: it is unexpected, or a limit is passed
pub data Fault : Type 0 where
  unexpected : Fault
  over : Limit → Fault

-- a value and the tokens that are left, or a fault and the tokens from the one on at which it stands
pub data Answer (A : Type 0) : Type 0 where
  got : A → List Tok → Answer A
  stuck : Fault → List Tok → Answer A

-- the greatest that is allowed of what is limited
abbrev pub Limits : Type 0
Limits = Limit → ℕ

-- which fault a limit's is, by its number; of faults at one token the lowest number counts, and that of an unexpected one is 2
abbrev pub fault_number : Limit → ℕ
fault_number breaks = 3
fault_number varargs = 4
fault_number nodes = 5
fault_number locals = 6
fault_number calls = 7

-- a token keeps the limits; or this is the first one that it passes
abbrev pub Keeps : Limits → Needs → Type 0
Keeps limit n = (x : Limit) → n x ≤ limit x

abbrev pub Passes : Limits → Needs → Limit → Type 0
Passes limit n x = (limit x < n x) × ((y : Limit) → fault_number y < fault_number x → n y ≤ limit y)

-- a program reads this answer from the front of these tokens, under these limits
pub data Reads (limit : Limits) : (s : Sort) → Prog s → List Tok → Answer (Value s) → Type 0 where
  gives : {s : Sort} {a : Value s} {ts : List Tok} → Reads limit s (give a) ts (got a ts)
  fails : {s : Sort} {ts : List Tok} → Reads limit s fail ts (stuck unexpected ts)
  takes : {s : Sort} {n : Needs} {p : Prog s} {t : Tok} {ts : List Tok} {r : Answer (Value s)}
      → Keeps limit n → Reads limit s p ts r → Reads limit s (take n p) (t ∷ ts) r
  passes : {s : Sort} {n : Needs} {p : Prog s} {x : Limit} {t : Tok} {ts : List Tok}
      → Passes limit n x → Reads limit s (take n p) (t ∷ ts) (stuck (over x) (t ∷ ts))
  none_left : {s : Sort} {n : Needs} {p : Prog s}
      → Reads limit s (take n p) [] (stuck unexpected [])
  looks : {s : Sort} {f : Word → Spot → Prog s} {ts : List Tok} {r : Answer (Value s)}
      → Reads limit s (f (word_of ts) (spot_of ts)) ts r → Reads limit s (look f) ts r
  expects : {s : Sort} {k : Key} {n : Needs} {f : Spot → Prog s} {at : Spot} {ts : List Tok} {r : Answer (Value s)}
      → Reads limit s (take n (f at)) (tok (key k) at ∷ ts) r → Reads limit s (expect k n f) (tok (key k) at ∷ ts) r
  not_that : {s : Sort} {k : Key} {n : Needs} {f : Spot → Prog s} {ts : List Tok}
      → (word_of ts ≡ key k → ⊥) → Reads limit s (expect k n f) ts (stuck unexpected ts)
  expects_name : {s : Sort} {n : Needs} {f : Bytes → Spot → Prog s} {x : Bytes} {at : Spot} {ts : List Tok} {r : Answer (Value s)}
      → Reads limit s (take n (f x at)) (tok (w.name x) at ∷ ts) r → Reads limit s (expect_name n f) (tok (w.name x) at ∷ ts) r
  no_name : {s : Sort} {n : Needs} {f : Bytes → Spot → Prog s} {ts : List Tok}
      → ((x : Bytes) → word_of ts ≡ w.name x → ⊥)
      → Reads limit s (expect_name n f) ts (stuck unexpected ts)
  is_last : {s : Sort} {a : Value s} → Reads limit s (at_last a) [] (got a [])
  not_last : {s : Sort} {a : Value s} {t : Tok} {ts : List Tok}
      → Reads limit s (at_last a) (t ∷ ts) (stuck unexpected (t ∷ ts))
  thens : {s q : Sort} {r : Rule q} {f : Value q → Prog s} {a : Value q} {ts us : List Tok} {b : Answer (Value s)}
      → Reads limit q (program r) ts (got a us) → Reads limit s (f a) us b → Reads limit s (then r f) ts b
  stops : {s q : Sort} {r : Rule q} {f : Value q → Prog s} {x : Fault} {ts us : List Tok}
      → Reads limit q (program r) ts (stuck x us) → Reads limit s (then r f) ts (stuck x us)

-- a source's tokens are read so
abbrev pub ReadsChunk : Limits → List Tok → Answer Block → Type 0
ReadsChunk limit ts r = Reads limit a_block (program chunk) ts r
