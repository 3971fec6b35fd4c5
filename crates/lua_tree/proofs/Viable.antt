-- Wherever reading stands behind a token that it took, some tokens bring the chunk to its end, and make nothing more
-- unavoidable than what was taken.
use Rattle.std.proofs.Common.{ℕ, suc, ◌+◌, ◌≤◌, ◌≡◌, refl, sym, subst, max, List, [], ◌∷◌, ◌++◌, length, Bool, true, false, arith, leb, cond}
use Rattle.lua_tree.specs.Tree.{Bytes, sub, Expr, nil, name, call, index, str, method, paren, binary, Exprs, no_exprs, expr_and, Fields, item_and, keyed_and, Block, stat_and, Stat, assign, local, call_stat, repeat_loop, gen_for, function_stat, arm_and}
use Rattle.lua_tree.specs.Words as w
use Rattle.lua_tree.specs.Words.{Word, Key, key, Spot, Tok, tok, nowhere, word_in, word_of, spot_of}
use Rattle.lua_tree.specs.Grammar.{level, unary_level, right_level, NotOpen, call_line}
use Rattle.lua_tree.specs.Attributes.{Limit, breaks, varargs, nodes, locals, calls, Counts, most_exprs, height}
use Rattle.lua_tree.specs.Reading as r
use Rattle.lua_tree.specs.Reading.{Sort, Value, Rule, Needs, Prog, Place, in_expr, leading, targeted, Shape, a_var, a_call, a_paren, give, fail, take, look, expect, expect_name, at_last, then, free, deep, many, opening, held, down, shape, unfinished, program, an_expr, an_args, some_exprs, some_fields, a_func, a_block, a_stat, some_arms, some_names, some_params, a_target, some_targets, a_semi}
use Rattle.lua_tree.proofs.Comes.{Comes, is_last, both}
use Rattle.lua_tree.proofs.Follow.{Stops}
use Rattle.lua_tree.proofs.Heights.{raised, node_in, one_high}
use Rattle.lua_tree.proofs.Posts.{AllSound}
use Rattle.lua_tree.proofs.Partly.{Partly}
use Rattle.lua_tree.proofs.Alive.{Counted, is_name, Up, BehindExp, BehindList, IsAssign, Behind, Good, Has, Base, Cost, Closed, Shut, alive, AllAlive, done}
use Rattle.lua_tree.proofs.Closers.{close_give, close_then, close_key, close_name, shut_give, shut_key, shut_any, shut_last, free_within, deep_within, Any, Each, Finished, finished, closed_expr, closed_more, closed_prefix, closed_suffixes, closed_args, closed_paren_args, closed_exprs, closed_more_exprs, closed_fields, closed_more_fields, closed_name_field, closed_params, closed_next_param, closed_more_params, closed_func_body, closed_func_name, closed_block, closed_semi, closed_init, closed_return_rest, closed_more_names, closed_more_targets, closed_loop_block, closed_more_arms, closed_arms, closed_num_for_rest, closed_for_rest, closed_local_rest, many_false, Ends, Assigns, BehindNames, ends_comma, ends_stop, ends_open}

-- ---- what was unavoidable

counted_nodes : (b : Bool) → Counted b nodes
counted_nodes true = tt
counted_nodes false = tt

-- an expression fits where one was read, or where a token made so many nodes unavoidable
has_of : (b : Bool) (c : Counts) (m : Needs) → suc (c nodes) ≤ m nodes → Has c m
has_of b c m h breaks = omega arith
has_of b c m h varargs = omega arith
has_of b c m h nodes = h
has_of b c m h locals = omega arith
has_of b c m h calls = omega arith

has_read : (p : ℕ) (c : Counts) (e : Expr) (l m : Needs) → p ≤ unary_level → Cost (r.expr p c) e l → l nodes ≤ m nodes → Has c m
has_read p c e l m low cost h = let x = cost low nodes in let y = node_in nodes (c nodes) e in has_of true c m (omega (arith, x, y, h))

has_prefix : (k : Place) (c : Counts) (e : Expr) (l m : Needs) → Cost (r.prefix k c) e l → l nodes ≤ m nodes → Has c m
has_prefix k c e l m cost h =
    let x = cost nodes in let y = raised (held (unfinished k (shape e)) c nodes) e in let z = one_high e in let v = held_up (unfinished k (shape e)) c in has_of true c m (omega (arith, x, y, z, v, h))
  where
    held_up : (b : Bool) (c : Counts) → c nodes ≤ held b c nodes
    held_up true c = omega arith
    held_up false c = omega arith

has_up : (c : Counts) (m n : Needs) → Has c m → Up m n → Has c n
has_up c m n h u = λ x. let y = h x in let z = u x in omega (arith, y, z)

up_left : (m n : Needs) → Up m (both m n)
up_left m n = λ x. omega arith

-- a rule that is the last one
alive_last : (s : Sort) (q : Rule s) (d : Bool) (F : List Tok → Type 0) (G : Value s → Type 0) (m : Needs) → Base q m
    → ((us : List Tok) → F us → Behind q us) → ((a : Value s) → Good q a → G a)
    → alive s (then q give) d F G m
alive_last s q d F G m base i g = (base, λ d n a l u c w h. shut_give s a (Behind q) F G d n i (g a h), λ a l d c. tt)

-- a rule, and then a value is given
alive_give : (s t : Sort) (q : Rule t) (f : Value t → Value s) (d : Bool) (F : List Tok → Type 0) (G : Value s → Type 0) (m : Needs)
    → Base q m → ((us : List Tok) → F us → Behind q us) → ((a : Value t) → G (f a))
    → alive s (then q (λ a. give (f a))) d F G m
alive_give s t q f d F G m base i g = (base, λ d n a l u c w h. shut_give s (f a) (Behind q) F G d n i (g a), λ a l d c. tt)

abbrev closes_give : (s t : Sort) (q : Rule t) (f : Value t → Value s) (b : Bool) (F : List Tok → Type 0) (G : Value s → Type 0) (m : Needs) → ((us : List Tok) → F us → Behind q us) → ((a : Value t) → G (f a))
    → Closed t (program q) (Behind q) (Good q) b m → Closed s (then q (λ a. give (f a))) F G b m
closes_give s t q f b F G m i g k = close_then s t q (λ a. give (f a)) F G b m k (shut_give s (f k.value) (Behind q) F G b m i (g k.value))

-- a token and a value
alive_token : (s : Sort) (n : Needs) (a : Value s) (b : Bool) (F : List Tok → Type 0) (G : Value s → Type 0) (m : Needs) → G a
    → alive s (take n (give a)) b F G m
alive_token s n a b F G m g = (close_give s a F G b (both m n) g, λ d. tt)

-- ---- expressions

alive_expr : (p : ℕ) (c : Counts) (b : Bool) (m : Needs) → alive an_expr (program (r.expr p c)) b BehindExp Each m
alive_expr p c b m = (
  tt,
  λ d n a l u k w g. record { closed = shut_last an_expr (r.more p c a) BehindExp Each d n (λ us i. i) (λ a i. tt) (closed_more p c a d n); stands = λ us i. i },
  λ a l d k. alive_last an_expr (r.more p c a) d BehindExp Each (both m l) tt (λ us i. i) (λ a i. tt),
)

alive_cond : (x : Bool) (s : Sort) (p q : Prog s) (b : Bool) (F : List Tok → Type 0) (G : Value s → Type 0) (m : Needs)
    → alive s p b F G m → alive s q b F G m → alive s (cond x p q) b F G m
alive_cond true s p q b F G m h i = h
alive_cond false s p q b F G m h i = i

alive_more : (p : ℕ) (c : Counts) (a : Expr) (m : Needs) (v : Word) (at : Spot)
    → alive an_expr (r.more_of p c a v at) (is_name v) BehindExp Each m
alive_more p c a m (w.op o) at =
    let n = deep (suc (c nodes) + height a) in
    let has = has_of false (down c) (both m n) (let h = one_high a in omega (arith, h)) in
    let rest = λ (e : Expr). then (r.more p c (binary at.line o a e)) give in
    alive_cond (leb p (level o)) an_expr (take n (then (r.expr (right_level o) (down c)) rest)) (give a) false BehindExp Each m (
      close_then an_expr an_expr (r.expr (right_level o) (down c)) rest BehindExp Each false (both m n) (closed_expr (right_level o) (down c) false (both m n) has)
          (record { closed = shut_last an_expr (r.more p c _) BehindExp Each false (both m n) (λ us i. i) (λ a i. tt) (closed_more p c _ false (both m n)); stands = λ us i. i }),
      λ d. (
        tt,
        λ d n e l u k w g. record { closed = shut_last an_expr (r.more p c (binary at.line o a e)) BehindExp Each d n (λ us i. i) (λ a i. tt) (closed_more p c (binary at.line o a e) d n); stands = λ us i. i },
        λ e l d k. alive_last an_expr (r.more p c (binary at.line o a e)) d BehindExp Each (both (both m n) l) tt (λ us i. i) (λ a i. tt),
      ),
    )
    tt
alive_more p c a m v at = tt

alive_operand : (c : Counts) (o : Expr → Expr) (b : Bool) (m : Needs)
    → alive an_expr (take (deep (c nodes + 2)) (then (r.expr unary_level (down c)) (λ e. give (o e)))) b BehindExp Each m
alive_operand c o b m =
    let n = both m (deep (c nodes + 2)) in (
      closes_give an_expr an_expr (r.expr unary_level (down c)) o b BehindExp Each n (λ us i. i) (λ a. tt) (closed_expr unary_level (down c) b n (has_of b (down c) n (omega arith))),
      λ d. alive_give an_expr an_expr (r.expr unary_level (down c)) o d BehindExp Each n tt (λ us i. i) (λ a. tt),
    )

alive_first : (c : Counts) (m : Needs) (v : Word) (at : Spot) → alive an_expr (r.first_of c v at) (is_name v) BehindExp Each m
alive_first c m (key w.nil_) at = alive_token an_expr _ _ false BehindExp Each m tt
alive_first c m (key w.true_) at = alive_token an_expr _ _ false BehindExp Each m tt
alive_first c m (key w.false_) at = alive_token an_expr _ _ false BehindExp Each m tt
alive_first c m (w.number z) at = alive_token an_expr _ _ false BehindExp Each m tt
alive_first c m (w.str x) at = alive_token an_expr _ _ false BehindExp Each m tt
alive_first c m (key w.dots) at = alive_token an_expr _ _ false BehindExp Each m tt
alive_first c m (key w.function_) at =
    let n = both m (deep (c nodes + 2)) in (
      closes_give an_expr a_func (r.func_body at.line [] (down c)) _ false BehindExp Each n (λ us i. tt) (λ a. tt) (closed_func_body at.line [] (down c) false n),
      λ d. alive_give an_expr a_func (r.func_body at.line [] (down c)) _ d BehindExp Each n tt (λ us i. tt) (λ a. tt),
    )
alive_first c m (key w.not_) at = alive_operand c _ false m
alive_first c m (key w.hash) at = alive_operand c _ false m
alive_first c m (w.op sub) at = alive_operand c _ false m
alive_first c m (key w.open_brace) at =
    let n = both m (deep (suc (c nodes))) in (
      closes_give an_expr some_fields (r.fields (down c)) _ false BehindExp Each n (λ us i. tt) (λ a. tt) (closed_fields (down c) false n),
      λ d. alive_give an_expr some_fields (r.fields (down c)) _ d BehindExp Each n tt (λ us i. tt) (λ a. tt),
    )
alive_first c m v at = alive_last an_expr (r.prefix in_expr c) (is_name v) BehindExp Each m tt (λ us i. i) (λ a i. tt)

-- the nodes of an expression in parentheses
paren_high : (l : ℕ) (e : Expr) → height (paren l e) ≡ suc (height e)
paren_high l e = let x = raised 1 e in let y = one_high e in omega (arith, x, y)

alive_prefix : (k : Place) (c : Counts) (m : Needs) (v : Word) (at : Spot)
    → alive an_expr (r.prefix_of k c v at) (is_name v) BehindExp (Finished k) m
alive_prefix k c m (w.name x) at =
    let n = both m (deep (suc (c nodes))) in (
      shut_last an_expr (r.suffixes k c (name at.line x)) BehindExp (Finished k) true n (λ us i. i) (λ a i. i) (finished k c (name at.line x) true n refl),
      λ d. alive_last an_expr (r.suffixes k c (name at.line x)) d BehindExp (Finished k) n tt (λ us i. i) (λ a i. i),
    )
alive_prefix k c m (key w.open_paren) at =
    let h = held (unfinished k a_paren) c in
    let n = both m (deep (h nodes + 2)) in
    let close = λ (d : Bool) (o : Needs) (e : Expr) (i : suc (h nodes) + height e ≤ o nodes).
    shut_last an_expr (r.suffixes k c (paren at.line e)) BehindExp (Finished k) d o (λ us i. i) (λ a i. i) (closed_suffixes k c (paren at.line e) d o (let y = paren_high at.line e in omega (arith, y, i))) in (
      close_then an_expr an_expr (r.expr 0 (down h)) _ BehindExp (Finished k) false n (closed_expr 0 (down h) false n (has_of false (down h) n (omega arith)))
          (shut_key an_expr w.close_paren free _ BehindExp BehindExp (Finished k) false n (free_within false n) (close false n (nil 1) (omega arith)) (λ us. (tt, tt))),
      λ d. (
        tt,
        λ d o e l u cost i g. shut_key an_expr w.close_paren free _ BehindExp BehindExp (Finished k) d o (free_within d o)
            (close d o e (let x = cost (omega arith) nodes in let y = raised (suc (h nodes)) e in let z = i nodes (counted_nodes d) in omega (arith, x, y, z))) (λ us. (tt, tt)),
        λ e l d cost at2. (
          close false (both (both n l) free) e (let x = cost (omega arith) nodes in let y = raised (suc (h nodes)) e in omega (arith, x, y)),
          λ d. alive_last an_expr (r.suffixes k c (paren at.line e)) d BehindExp (Finished k) (both (both n l) free) tt (λ us i. i) (λ a i. i),
        ),
      ),
    )
alive_prefix k c m v at = tt

-- ---- suffixes and arguments

-- the nodes of a call are those of its callee and its arguments, one deeper
alive_called : (k : Place) (c : Counts) (a : Expr) (b : Bool) (m : Needs)
    → alive an_expr (r.called k c a) b BehindExp (Finished k) m
alive_called k c a b m =
    let h = held (unfinished k a_call) c in (
      tt,
      λ d n v l u cost i g. shut_any an_expr _ BehindExp (Finished k) d n
          (shut_last an_expr (r.suffixes k c (call v.0 a v.1)) BehindExp (Finished k) d n (λ us i. i) (λ a i. i)
          (closed_suffixes k c (call v.0 a v.1) d n (called_high h a v.0 v.1 l n (cost (let x = one_high a in omega (arith, x))) (i nodes (counted_nodes d))))),
      λ v l d cost. alive_last an_expr (r.suffixes k c (call v.0 a v.1)) d BehindExp (Finished k) (both m l) tt (λ us i. i) (λ a i. i),
    )
  where
    called_high : (h : Counts) (a : Expr) (line : ℕ) (es : Exprs) (l n : Needs)
        → ((x : Limit) → l x ≡ max (opening (suc (h nodes) + height a) line x) (most_exprs x (down h x) es)) → l nodes ≤ n nodes
        → h nodes + height (call line a es) ≤ n nodes
    called_high h a line es l n cost i =
        let x = cost nodes in let y = raised (h nodes) (call line a es) in let z = raised (suc (h nodes)) a in let v = one_high a in omega (arith, x, y, z, v, i)

alive_suffixes : (k : Place) (c : Counts) (a : Expr) (m : Needs) (v : Word) (at : Spot)
    → alive an_expr (r.suffixes_of k c a v at) (is_name v) BehindExp (Finished k) m
alive_suffixes k c a m (key w.open_bracket) at =
    let n = both m (deep (suc (c nodes) + height a)) in
    let has = has_of false (down c) n (let h = one_high a in omega (arith, h)) in (
      close_then an_expr an_expr (r.expr 0 (down c)) _ BehindExp (Finished k) false n (closed_expr 0 (down c) false n has)
          (shut_key an_expr w.close_bracket free _ BehindExp BehindExp (Finished k) false n (free_within false n)
          (shut_last an_expr (r.suffixes k c _) BehindExp (Finished k) false n (λ us i. i) (λ a i. i) (finished k c _ false n refl)) (λ us. (tt, tt))),
      λ d. (
        tt,
        λ d o e l u cost i g. shut_key an_expr w.close_bracket free _ BehindExp BehindExp (Finished k) d o (free_within d o)
            (shut_last an_expr (r.suffixes k c (index at.line a e)) BehindExp (Finished k) d o (λ us i. i) (λ a i. i) (finished k c (index at.line a e) d o refl)) (λ us. (tt, tt)),
        λ e l d cost at2. (
          shut_last an_expr (r.suffixes k c (index at.line a e)) BehindExp (Finished k) false (both (both n l) free) (λ us i. i) (λ a i. i) (finished k c (index at.line a e) false (both (both n l) free) refl),
          λ d. alive_last an_expr (r.suffixes k c (index at.line a e)) d BehindExp (Finished k) (both (both n l) free) tt (λ us i. i) (λ a i. i),
        ),
      ),
    )
alive_suffixes k c a m (key w.dot) at =
    let n = both m (deep (suc (c nodes) + height a)) in (
      close_name an_expr free _ BehindExp (Finished k) false n (free_within false n)
          (shut_last an_expr (r.suffixes k c _) BehindExp (Finished k) false n (λ us i. i) (λ a i. i) (finished k c _ false n refl)),
      λ d x at2. (
        shut_last an_expr (r.suffixes k c (index at.line a (str at2.line x))) BehindExp (Finished k) true (both n free) (λ us i. i) (λ a i. i) (finished k c (index at.line a (str at2.line x)) true (both n free) refl),
        λ d. alive_last an_expr (r.suffixes k c (index at.line a (str at2.line x))) d BehindExp (Finished k) (both n free) tt (λ us i. i) (λ a i. i),
      ),
    )
alive_suffixes k c a m (key w.colon) at = alive_method k c a m at
  where
    method_high : (h : Counts) (a : Expr) (line : ℕ) (x : Bytes) (es : Exprs) (l n : Needs)
        → ((y : Limit) → l y ≡ max (opening (suc (h nodes) + height a) line y) (most_exprs y (down h y) es)) → l nodes ≤ n nodes
        → h nodes + height (method line a x es) ≤ n nodes
    method_high h a line x es l n cost i =
        let v = cost nodes in let y = raised (h nodes) (method line a x es) in let z = raised (suc (h nodes)) a in let q = one_high a in omega (arith, v, y, z, q, i)

    alone_high : (h : Counts) (a : Expr) (line : ℕ) (x : Bytes) (n : Needs) → suc (h nodes) + height a ≤ n nodes
        → h nodes + height (method (suc line) a x no_exprs) ≤ n nodes
    alone_high h a line x n i = let y = raised (h nodes) (method (suc line) a x no_exprs) in let z = raised (suc (h nodes)) a in let q = one_high a in omega (arith, y, z, q, i)

    -- a name, and arguments in parentheses
    closed_behind : (k : Place) (c : Counts) (a : Expr) (x : Bytes) (b : Bool) (n : Needs)
        → suc (held (unfinished k a_call) c nodes) + height a ≤ n nodes
        → Closed an_expr (then (r.args (suc (held (unfinished k a_call) c nodes) + height a) (down (held (unfinished k a_call) c))) (λ v. then (r.suffixes k c (method v.0 a x v.1)) give)) BehindExp (Finished k) b n
    closed_behind k c a x b n i =
        let h = held (unfinished k a_call) c in
        close_then an_expr an_args (r.args (suc (h nodes) + height a) (down h)) _ BehindExp (Finished k) b n (closed_args (suc (h nodes) + height a) (down h) b n (deep_within b (suc (h nodes) + height a) n i))
        (shut_any an_expr _ BehindExp (Finished k) b n
        (shut_last an_expr (r.suffixes k c (method 1 a x no_exprs)) BehindExp (Finished k) b n (λ us i. i) (λ a i. i) (closed_suffixes k c (method 1 a x no_exprs) b n (alone_high h a 0 x n i))))

    alive_behind : (k : Place) (c : Counts) (a : Expr) (x : Bytes) (b : Bool) (n : Needs)
        → alive an_expr (then (r.args (suc (held (unfinished k a_call) c nodes) + height a) (down (held (unfinished k a_call) c))) (λ v. then (r.suffixes k c (method v.0 a x v.1)) give)) b BehindExp (Finished k) n
    alive_behind k c a x b n =
        let h = held (unfinished k a_call) c in (
          tt,
          λ d o v l u cost i g. shut_any an_expr _ BehindExp (Finished k) d o
              (shut_last an_expr (r.suffixes k c (method v.0 a x v.1)) BehindExp (Finished k) d o (λ us i. i) (λ a i. i)
              (closed_suffixes k c (method v.0 a x v.1) d o (method_high h a v.0 x v.1 l o (cost (let z = one_high a in omega (arith, z))) (i nodes (counted_nodes d))))),
          λ v l d cost. alive_last an_expr (r.suffixes k c (method v.0 a x v.1)) d BehindExp (Finished k) (both n l) tt (λ us i. i) (λ a i. i),
        )

    alive_method : (k : Place) (c : Counts) (a : Expr) (m : Needs) (at : Spot)
        → alive an_expr (r.suffixes_of k c a (key w.colon) at) false BehindExp (Finished k) m
    alive_method k c a m at =
        let n = both m (deep (suc (held (unfinished k a_call) c nodes) + height a)) in (
          close_name an_expr free _ BehindExp (Finished k) false n (free_within false n) (closed_behind k c a [] false n (omega arith)),
          λ d x at2. (closed_behind k c a x true (both n free) (omega arith), λ d. alive_behind k c a x d (both n free)),
        )
alive_suffixes k c a m (key w.open_paren) at = alive_called k c a false m
alive_suffixes k c a m (key w.open_brace) at = alive_called k c a false m
alive_suffixes k c a m (w.str x) at = alive_called k c a false m
alive_suffixes k c a m v at = tt

alive_args : (n : ℕ) (c : Counts) (m : Needs) (v : Word) (at : Spot) → alive an_args (r.args_of n c v at) (is_name v) Any Each m
alive_args n c m (key w.open_paren) at =
    let o = both m (opening n (call_line at)) in (
      shut_last an_args (r.paren_args (call_line at) c) Any Each false o (λ us i. i) (λ a i. tt) (closed_paren_args (call_line at) c false o),
      λ d. alive_last an_args (r.paren_args (call_line at) c) d Any Each o tt (λ us i. i) (λ a i. tt),
    )
alive_args n c m (key w.open_brace) at =
    let o = both m (opening n at.line) in (
      closes_give an_args some_fields (r.fields (down c)) _ false Any Each o (λ us i. tt) (λ a. tt) (closed_fields (down c) false o),
      λ d. alive_give an_args some_fields (r.fields (down c)) _ d Any Each o tt (λ us i. tt) (λ a. tt),
    )
alive_args n c m (w.str x) at = alive_token an_args _ _ false Any Each m tt
alive_args n c m v at = tt

alive_paren_args : (l : ℕ) (c : Counts) (m : Needs) (v : Word) (at : Spot)
    → alive an_args (r.paren_args_of l c v at) (is_name v) Any Each m
alive_paren_args l c m (key w.close_paren) at = alive_token an_args _ _ false Any Each m tt
alive_paren_args l c m v at = (
  tt,
  λ d n es k u cost i g. shut_key an_args w.close_paren free _ BehindList Any Each d n (free_within d n) (close_give an_args (l, es) Any Each d n tt) (λ us. (tt, tt, tt)),
  λ es k d cost at2. (close_give an_args (l, es) Any Each false (both (both m k) free) tt, λ d. tt),
)

alive_exprs : (c : Counts) (b : Bool) (m : Needs) → alive some_exprs (program (r.exprs c)) b BehindList Each m
alive_exprs c b m = (
  tt,
  λ d n e l u cost i g. record { closed = closes_give some_exprs some_exprs (r.more_exprs c) _ d BehindList Each n (λ us i. i) (λ a. tt) (closed_more_exprs c d n); stands = λ us i. (i.0, i.1) },
  λ e l d cost. alive_give some_exprs some_exprs (r.more_exprs c) _ d BehindList Each (both m l) (has_read 0 c e l (both m l) (omega arith) cost (omega arith)) (λ us i. i) (λ a. tt),
)

alive_more_exprs : (c : Counts) (m : Needs) → Has c m → (v : Word) (at : Spot)
    → alive some_exprs (r.more_exprs_of c v at) (is_name v) BehindList Each m
alive_more_exprs c m h (key w.comma) at =
    let n = both m free in (
      shut_last some_exprs (r.exprs c) BehindList Each false n (λ us i. i) (λ a i. tt) (closed_exprs c false n (has_up c m n h (up_left m free))),
      λ d. alive_last some_exprs (r.exprs c) d BehindList Each n tt (λ us i. i) (λ a i. tt),
    )
alive_more_exprs c m h v at = tt

-- ---- fields

-- an expression and further fields
closed_value : (c : Counts) (f : Expr → Fields → Fields) (b : Bool) (m : Needs) → Has c m
    → Closed some_fields (then (r.expr 0 c) (λ e. then (r.more_fields c) (λ fs. give (f e fs)))) Any Each b m
closed_value c f b m h =
    close_then some_fields an_expr (r.expr 0 c) (λ e. then (r.more_fields c) (λ fs. give (f e fs))) Any Each b m (closed_expr 0 c b m h)
    (record { closed = closes_give some_fields some_fields (r.more_fields c) _ b Any Each m (λ us i. tt) (λ a. tt) (closed_more_fields c b m); stands = λ us i. (tt, tt) })

alive_value : (c : Counts) (f : Expr → Fields → Fields) (b : Bool) (m : Needs)
    → alive some_fields (then (r.expr 0 c) (λ e. then (r.more_fields c) (λ fs. give (f e fs)))) b Any Each m
alive_value c f b m = (
  tt,
  λ d n e l u cost i g. record { closed = closes_give some_fields some_fields (r.more_fields c) (f e) d Any Each n (λ us i. tt) (λ a. tt) (closed_more_fields c d n); stands = λ us i. (tt, tt) },
  λ e l d cost. alive_give some_fields some_fields (r.more_fields c) (f e) d Any Each (both m l) tt (λ us i. tt) (λ a. tt),
)

alive_fields : (c : Counts) (m : Needs) (v : Word) (at : Spot) → alive some_fields (r.fields_of c v at) (is_name v) Any Each m
alive_fields c m (key w.close_brace) at = alive_token some_fields _ _ false Any Each m tt
alive_fields c m (key w.open_bracket) at =
    let n = both m (deep (suc (c nodes))) in
    let has = has_of false c n (omega arith) in (
      close_then some_fields an_expr (r.expr 0 c) _ Any Each false n (closed_expr 0 c false n has)
          (shut_key some_fields w.close_bracket free _ BehindExp Any Each false n (free_within false n)
          (close_key some_fields w.assign free _ Any Each false n (free_within false n) (closed_value c _ false n has)) (λ us. (tt, tt))),
      λ d. (
        tt,
        λ d o k l u cost i g. shut_key some_fields w.close_bracket free _ BehindExp Any Each d o (free_within d o)
            (close_key some_fields w.assign free _ Any Each d o (free_within d o) (closed_value c (keyed_and k) d o (has_up c n o has u))) (λ us. (tt, tt)),
        λ k l d cost at2.
            let o = both (both n l) free in
            let p = both o free in (
              close_key some_fields w.assign free _ Any Each false o (free_within false o) (closed_value c (keyed_and k) false o (has_of false c o (omega arith))),
              λ d at3. (closed_value c (keyed_and k) false p (has_of false c p (omega arith)), λ d. alive_value c (keyed_and k) d p),
            ),
      ),
    )
alive_fields c m (w.name x) at =
    let n = both m (deep (suc (c nodes))) in (
      shut_last some_fields (r.name_field at.line x c) Any Each true n (λ us i. i) (λ a i. tt) (closed_name_field at.line x c true n),
      λ d. alive_last some_fields (r.name_field at.line x c) d Any Each n (has_of true c n (omega arith)) (λ us i. i) (λ a i. tt),
    )
alive_fields c m v at = alive_value c item_and (is_name v) m

abbrev item_closed : (c : Counts) (a : Expr) (d : Bool) (n : Needs) → Closed some_fields (then (r.more 0 c a) (λ e. then (r.more_fields c) (λ fs. give (item_and e fs)))) Any Each d n
item_closed c a d n =
    close_then some_fields an_expr (r.more 0 c a) (λ e. then (r.more_fields c) (λ fs. give (item_and e fs))) Any Each d n (closed_more 0 c a d n)
    (record { closed = closes_give some_fields some_fields (r.more_fields c) (item_and a) d Any Each n (λ us i. tt) (λ a. tt) (closed_more_fields c d n); stands = λ us i. (tt, tt) })

alive_name_field : (line : ℕ) (x : Bytes) (c : Counts) (m : Needs) → Has c m → (v : Word) (at : Spot)
    → alive some_fields (r.name_field_of line x c v at) (is_name v) Any Each m
alive_name_field line x c m h (key w.assign) at =
    let n = both m free in (closed_value c (keyed_and (str line x)) false n (has_up c m n h (up_left m free)), λ d. alive_value c (keyed_and (str line x)) d n)
alive_name_field line x c m h v at = (
  tt,
  λ d n a l u cost i g. record { closed = item_closed c a d n; stands = λ us i. (tt, tt) },
  λ a l d cost. (
    tt,
    λ d n e l u cost i g. record { closed = closes_give some_fields some_fields (r.more_fields c) (item_and e) d Any Each n (λ us i. tt) (λ a. tt) (closed_more_fields c d n); stands = λ us i. (tt, tt) },
    λ e l2 d cost. alive_give some_fields some_fields (r.more_fields c) (item_and e) d Any Each (both (both m l) l2) tt (λ us i. tt) (λ a. tt),
  ),
)

alive_more_fields : (c : Counts) (m : Needs) (v : Word) (at : Spot)
    → alive some_fields (r.more_fields_of c v at) (is_name v) Any Each m
alive_more_fields c m (key w.comma) at =
    let n = both m free in
    (shut_last some_fields (r.fields c) Any Each false n (λ us i. i) (λ a i. tt) (closed_fields c false n), λ d. alive_last some_fields (r.fields c) d Any Each n tt (λ us i. i) (λ a i. tt))
alive_more_fields c m (key w.semicolon) at =
    let n = both m free in
    (shut_last some_fields (r.fields c) Any Each false n (λ us i. i) (λ a i. tt) (closed_fields c false n), λ d. alive_last some_fields (r.fields c) d Any Each n tt (λ us i. i) (λ a i. tt))
alive_more_fields c m (key w.close_brace) at = alive_token some_fields _ _ false Any Each m tt
alive_more_fields c m v at = tt

-- ---- blocks in words, functions

-- a block and `end`
abbrev closed_to_end : (s : Sort) (c : Counts) (f : Block → Value s) (F : List Tok → Type 0) (b : Bool) (m : Needs) → Closed s (then (r.block c) (λ b. expect w.end_ free (λ at. give (f b)))) F Each b m
closed_to_end s c f F b m =
    close_then s a_block (r.block c) (λ b. expect w.end_ free (λ at. give (f b))) F Each b m (closed_block c b m)
    (shut_key s w.end_ free _ Ends F Each b m (free_within b m) (close_give s _ F Each b m tt) (λ us. tt))

alive_to_end : (s : Sort) (c : Counts) (f : Block → Value s) (F : List Tok → Type 0) (b : Bool) (m : Needs)
    → alive s (then (r.block c) (λ b. expect w.end_ free (λ at. give (f b)))) b F Each m
alive_to_end s c f F b m = (
  tt,
  λ d n a l u cost i g. shut_key s w.end_ free _ Ends F Each d n (free_within d n) (close_give s (f a) F Each d n tt) (λ us. tt),
  λ a l d cost at. (close_give s (f a) F Each false (both (both m l) free) tt, λ d. tt),
)

alive_func_body : (line : ℕ) (hidden : List Bytes) (c : Counts) (b : Bool) (m : Needs)
    → alive a_func (program (r.func_body line hidden c)) b Any Each m
alive_func_body line hidden c b m = λ at.
    let n = both m free in (
      close_then a_func some_params (r.params (length hidden)) _ Any Each false n (closed_params (length hidden) false n) (shut_any a_func _ Any Each false n (closed_to_end a_func _ _ Any false n)),
      λ d. (
        tt,
        λ d o v l u cost i g. shut_any a_func _ Any Each d o (closed_to_end a_func (r.in_body (hidden ++ v.0) v.1 c) _ Any d o),
        λ v l d cost. alive_to_end a_func (r.in_body (hidden ++ v.0) v.1 c) _ Any d (both n l),
      ),
    )

alive_params : (n : ℕ) (m : Needs) (v : Word) (at : Spot) → alive some_params (r.params_of n v at) (is_name v) Any Each m
alive_params n m (key w.close_paren) at = alive_token some_params _ _ false Any Each m tt
alive_params n m v at = alive_last some_params (r.next_param n) (is_name v) Any Each m tt (λ us i. i) (λ a i. tt)

alive_next_param : (n : ℕ) (m : Needs) (v : Word) (at : Spot) → alive some_params (r.next_param_of n v at) (is_name v) Any Each m
alive_next_param n m (key w.dots) at =
    let o = both m free in
    (close_key some_params w.close_paren free _ Any Each false o (free_within false o) (close_give some_params _ Any Each false o tt), λ d at2. (close_give some_params _ Any Each false (both o free) tt, λ d. tt))
alive_next_param n m (w.name x) at =
    let o = both m (many (suc n)) in (
      closes_give some_params some_params (r.more_params (suc n)) _ true Any Each o (λ us i. tt) (λ a. tt) (closed_more_params (suc n) true o),
      λ d. alive_give some_params some_params (r.more_params (suc n)) _ d Any Each o tt (λ us i. tt) (λ a. tt),
    )
alive_next_param n m v at = tt

alive_more_params : (n : ℕ) (m : Needs) (v : Word) (at : Spot)
    → alive some_params (r.more_params_of n v at) (is_name v) Any Each m
alive_more_params n m (key w.comma) at =
    let o = both m free in
    (shut_last some_params (r.next_param n) Any Each false o (λ us i. i) (λ a i. tt) (closed_next_param n false o), λ d. alive_last some_params (r.next_param n) d Any Each o tt (λ us i. i) (λ a i. tt))
alive_more_params n m (key w.close_paren) at = alive_token some_params _ _ false Any Each m tt
alive_more_params n m v at = tt

alive_more_names : (n : ℕ) (m : Needs) (v : Word) (at : Spot)
    → alive some_names (r.more_names_of n v at) (is_name v) BehindNames Each m
alive_more_names n m (key w.comma) at =
    let o = both m free in
    let p = both o (many (suc n)) in (
      close_name some_names (many (suc n)) _ BehindNames Each false o (many_false (suc n) o)
          (closes_give some_names some_names (r.more_names (suc n)) _ false BehindNames Each o (λ us i. i) (λ a. tt) (closed_more_names (suc n) false o)),
      λ d x at2. (
        closes_give some_names some_names (r.more_names (suc n)) _ true BehindNames Each p (λ us i. i) (λ a. tt) (closed_more_names (suc n) true p),
        λ d. alive_give some_names some_names (r.more_names (suc n)) _ d BehindNames Each p tt (λ us i. i) (λ a. tt),
      ),
    )
alive_more_names n m v at = tt

alive_func_name : (c : Counts) (a : Expr) (m : Needs) (v : Word) (at : Spot)
    → alive a_target (r.func_name_of c a v at) (is_name v) (Behind (r.func_name c a)) Each m
alive_func_name c a m (key w.dot) at =
    let n = both m (deep (suc (c nodes) + height a)) in
    let o = both n free in (
      close_name a_target free _ (Behind (r.func_name c a)) Each false n (free_within false n)
          (shut_last a_target (r.func_name c _) (Behind (r.func_name c a)) Each false n (λ us i. i) (λ a i. tt) (closed_func_name c _ false n)),
      λ d x at2. (
        shut_last a_target (r.func_name c (index at.line a (str at2.line x))) (Behind (r.func_name c a)) Each true o (λ us i. i) (λ a i. tt) (closed_func_name c (index at.line a (str at2.line x)) true o),
        λ d. alive_last a_target (r.func_name c (index at.line a (str at2.line x))) d (Behind (r.func_name c a)) Each o tt (λ us i. i) (λ a i. tt),
      ),
    )
alive_func_name c a m (key w.colon) at =
    let n = both m (deep (suc (c nodes) + height a)) in (
      close_name a_target (many 1) _ (Behind (r.func_name c a)) Each false n (many_false 1 n) (close_give a_target _ (Behind (r.func_name c a)) Each false n tt),
      λ d x at2. (close_give a_target _ (Behind (r.func_name c a)) Each true (both n (many 1)) tt, λ d. tt),
    )
alive_func_name c a m v at = tt

-- ---- statements

ends_exp : (us : List Tok) → Ends us → BehindExp us
ends_exp us h = (ends_stop (word_of us) h, ends_open (word_of us) h)

ends_list : (us : List Tok) → Ends us → BehindList us
ends_list us h = (ends_stop (word_of us) h, ends_open (word_of us) h, ends_comma (word_of us) h)

assign_exp : (v : Word) → (IsAssign v) → Stops v × NotOpen v
assign_exp (key w.assign) h = (tt, tt)
assign_exp v h = absurd h

-- an expression and a loop's block
abbrev closed_looped : (k : ℕ) (c : Counts) (f : Block → Stat) (b : Bool) (m : Needs) → Closed a_stat (then (r.loop_block k c) (λ b. give (f b))) Ends Each b m
closed_looped k c f b m = closes_give a_stat a_block (r.loop_block k c) f b Ends Each m (λ us i. tt) (λ a. tt) (closed_loop_block k c b m)

alive_looped : (k : ℕ) (c : Counts) (f : Block → Stat) (b : Bool) (m : Needs)
    → alive a_stat (then (r.loop_block k c) (λ b. give (f b))) b Ends Each m
alive_looped k c f b m = alive_give a_stat a_block (r.loop_block k c) f b Ends Each m tt (λ us i. tt) (λ a. tt)

abbrev shut_looped : (k : ℕ) (c : Counts) (f : Block → Stat) (E : List Tok → Type 0) (b : Bool) (m : Needs) → ((us : List Tok) → E (tok (key w.do_) nowhere ∷ us)) → Shut a_stat (then (r.loop_block k c) (λ b. give (f b))) E Ends Each b m
shut_looped k c f E b m e = record { closed = closed_looped k c f b m; stands = λ us i. e _ }

alive_num_for_rest : (line : ℕ) (x : Bytes) (a b : Expr) (c : Counts) (m : Needs) → Has c m → (v : Word) (at : Spot)
    → alive a_stat (r.num_for_rest_of line x a b c v at) (is_name v) Ends Each m
alive_num_for_rest line x a b c m h (key w.comma) at =
    let n = both m free in (
      close_then a_stat an_expr (r.expr 0 c) _ Ends Each false n (closed_expr 0 c false n (has_up c m n h (up_left m free))) (shut_looped 1 c _ BehindExp false n (λ us. (tt, tt))),
      λ d. (tt, λ d o e l u cost i g. shut_looped 1 c _ BehindExp d o (λ us. (tt, tt)), λ e l d cost. alive_looped 1 c _ d (both n l)),
    )
alive_num_for_rest line x a b c m h v at = alive_looped 1 c _ (is_name v) m

alive_for_rest : (line : ℕ) (x : Bytes) (c : Counts) (m : Needs) → Has c m → (v : Word) (at : Spot)
    → alive a_stat (r.for_rest_of line x c v at) (is_name v) Ends Each m
alive_for_rest line x c m h (key w.assign) at =
    let n = both m free in
    let has = has_up c m n h (up_left m free) in
    let second = λ (a : Expr) (d : Bool) (o : Needs) (i : Has c o).
    close_then a_stat an_expr (r.expr 0 c) (λ b. then (r.num_for_rest line x a b c) give) Ends Each d o (closed_expr 0 c d o i)
    (record { closed = shut_last a_stat (r.num_for_rest line x a _ c) Ends Each d o (λ us i. i) (λ a i. tt) (closed_num_for_rest line x a _ c d o); stands = λ us i. (tt, tt) }) in (
      close_then a_stat an_expr (r.expr 0 c) _ Ends Each false n (closed_expr 0 c false n has)
          (shut_key a_stat w.comma free _ BehindExp Ends Each false n (free_within false n) (second _ false n has) (λ us. (tt, tt))),
      λ d. (
        tt,
        λ d o a l u cost i g. shut_key a_stat w.comma free _ BehindExp Ends Each d o (free_within d o) (second a d o (has_up c n o has u)) (λ us. (tt, tt)),
        λ a l d cost at2.
            let o = both (both n l) free in
            let has_o = has_up c m o h (λ x. omega arith) in (
              second a false o has_o,
              λ d. (
                tt,
                λ d q b k u cost i g. record { closed = shut_last a_stat (r.num_for_rest line x a b c) Ends Each d q (λ us i. i) (λ a i. tt) (closed_num_for_rest line x a b c d q); stands = λ us i. (tt, tt) },
                λ b k d cost. alive_last a_stat (r.num_for_rest line x a b c) d Ends Each (both o k) (has_up c o (both o k) has_o (up_left o k)) (λ us i. i) (λ a i. tt),
              ),
            ),
      ),
    )
alive_for_rest line x c m h v at = (
  tt,
  λ d n xs l u cost i g. shut_key a_stat w.in_ free _ BehindNames Ends Each d n (free_within d n) (third xs d n (has_up c m n h u)) (λ us. tt),
  λ xs l d cost at2.
      let n = both (both m l) free in (
        third xs false n (has_up c m n h (λ x. omega arith)),
        λ d. (tt, λ d o es k u cost i g. shut_looped (length (x ∷ xs)) c _ BehindList d o (λ us. (tt, tt, tt)), λ es k d cost. alive_looped (length (x ∷ xs)) c _ d (both n k)),
      ),
)
  where
    third : (xs : List Bytes) (d : Bool) (n : Needs) → Has c n
        → Closed a_stat (then (r.exprs c) (λ es. then (r.loop_block (length (x ∷ xs)) c) (λ b. give (gen_for line (x ∷ xs) es b)))) Ends Each d n
    third xs d n i =
        close_then a_stat some_exprs (r.exprs c) (λ es. then (r.loop_block (length (x ∷ xs)) c) (λ b. give (gen_for line (x ∷ xs) es b))) Ends Each d n (closed_exprs c d n i)
        (shut_looped (length (x ∷ xs)) c _ BehindList d n (λ us. (tt, tt, tt)))

alive_init : (c : Counts) (m : Needs) (v : Word) (at : Spot) → alive some_exprs (r.init_of c v at) (is_name v) Ends Each m
alive_init c m (key w.assign) at =
    let n = both m (deep (suc (c nodes))) in (
      shut_last some_exprs (r.exprs c) Ends Each false n ends_list (λ a i. tt) (closed_exprs c false n (has_of false c n (omega arith))),
      λ d. alive_last some_exprs (r.exprs c) d Ends Each n tt ends_list (λ a i. tt),
    )
alive_init c m v at = tt

-- further names and what they begin with
abbrev shut_init : (c : Counts) (f : Exprs → Stat) (E : List Tok → Type 0) (b : Bool) (m : Needs) → ((us : List Tok) → Ends us → E us) → Shut a_stat (then (r.init c) (λ es. give (f es))) E Ends Each b m
shut_init c f E b m e = record { closed = closes_give a_stat some_exprs (r.init c) f b Ends Each m (λ us i. i) (λ a. tt) (closed_init c b m); stands = e }

ends_names : (us : List Tok) → Ends us → BehindNames us
ends_names us h = ends_comma (word_of us) h

alive_local_names : (line : ℕ) (c : Counts) (b : Bool) (m : Needs)
    → alive a_stat (expect_name (many (suc (c locals))) (λ x at. then (r.more_names (suc (c locals))) (λ xs. then (r.init c) (λ es. give (local line (x ∷ xs) es))))) b Ends Each m
alive_local_names line c b m = λ x at.
    let n = both m (many (suc (c locals))) in (
      close_then a_stat some_names (r.more_names (suc (c locals))) _ Ends Each true n (closed_more_names (suc (c locals)) true n) (shut_init c _ BehindNames true n ends_names),
      λ d. (tt, λ d o xs l u cost i g. shut_init c _ BehindNames d o ends_names, λ xs l d cost. alive_give a_stat some_exprs (r.init c) _ d Ends Each (both n l) tt (λ us i. i) (λ a. tt)),
    )

alive_local_rest : (line : ℕ) (c : Counts) (m : Needs) (v : Word) (at : Spot)
    → alive a_stat (r.local_rest_of line c v at) (is_name v) Ends Each m
alive_local_rest line c m (key w.function_) at =
    let n = both m (deep (suc (c nodes))) in
    let o = both n (many (suc (c locals))) in (
      close_name a_stat (many (suc (c locals))) _ Ends Each false n (many_false (suc (c locals)) n)
          (closes_give a_stat a_func (r.func_body at.line [] c) _ false Ends Each n (λ us i. tt) (λ a. tt) (closed_func_body at.line [] c false n)),
      λ d x at2. (
        closes_give a_stat a_func (r.func_body at.line [] c) _ true Ends Each o (λ us i. tt) (λ a. tt) (closed_func_body at.line [] c true o),
        λ d. alive_give a_stat a_func (r.func_body at.line [] c) _ d Ends Each o tt (λ us i. tt) (λ a. tt),
      ),
    )
alive_local_rest line c m v at = alive_local_names line c (is_name v) m

alive_return_rest : (line : ℕ) (c : Counts) (m : Needs) (v : Word) (at : Spot)
    → alive a_stat (r.return_rest_of line c v at) (is_name v) Ends Each m
alive_return_rest line c m (key w.end_) at = tt
alive_return_rest line c m (key w.else_) at = tt
alive_return_rest line c m (key w.elseif) at = tt
alive_return_rest line c m (key w.until) at = tt
alive_return_rest line c m (key w.semicolon) at = tt
alive_return_rest line c m w.the_end at = tt
alive_return_rest line c m v at = alive_give a_stat some_exprs (r.exprs c) _ (is_name v) Ends Each m tt ends_list (λ a. tt)

alive_last_stat : (c : Counts) (m : Needs) (v : Word) (at : Spot) → alive a_stat (r.last_of c v at) (is_name v) Ends Each m
alive_last_stat c m (key w.return_) at =
    let n = both m free in
    (shut_last a_stat (r.return_rest at.line c) Ends Each false n (λ us i. i) (λ a i. tt) (closed_return_rest at.line c false n), λ d. alive_last a_stat (r.return_rest at.line c) d Ends Each n tt (λ us i. i) (λ a i. tt))
alive_last_stat c m (key w.break_) at = alive_token a_stat _ _ false Ends Each m tt
alive_last_stat c m v at = tt

-- what an assignment goes on with
abbrev assign_rest : (line : ℕ) (c : Counts) (e : Expr) (d : Bool) (n : Needs) → Has c n → Closed a_stat (r.prefix_stat_of line c e a_var) Ends Each d n
assign_rest line c e d n h =
    close_then a_stat some_targets (r.more_targets c) (λ es. expect w.assign free (λ at. then (r.exprs c) (λ vs. give (assign line (expr_and e es) vs)))) Ends Each d n (closed_more_targets c d n)
    (shut_key a_stat w.assign free _ Assigns Ends Each d n (free_within d n) (closes_give a_stat some_exprs (r.exprs c) _ d Ends Each n ends_list (λ a. tt) (closed_exprs c d n h)) (λ us. tt))

alive_prefix_stat : (line : ℕ) (c : Counts) (e : Expr) (sh : Shape) (b : Bool) (m : Needs) → Has c m
    → alive a_stat (r.prefix_stat_of line c e sh) b Ends Each m
alive_prefix_stat line c e a_var b m h = (
  h,
  λ d n es l u cost i g. shut_key a_stat w.assign free _ Assigns Ends Each d n (free_within d n) (closes_give a_stat some_exprs (r.exprs c) _ d Ends Each n ends_list (λ a. tt) (closed_exprs c d n (has_up c m n h u))) (λ us. tt),
  λ es l d cost at.
      let n = both (both m l) free in
      (closes_give a_stat some_exprs (r.exprs c) _ false Ends Each n ends_list (λ a. tt) (closed_exprs c false n (has_up c m n h (λ x. omega arith))), λ d. alive_give a_stat some_exprs (r.exprs c) _ d Ends Each n tt ends_list (λ a. tt)),
)
alive_prefix_stat line c e a_call b m h = tt
alive_prefix_stat line c e a_paren b m h = tt

abbrev as_shape : (line : ℕ) (c : Counts) (e : Expr) (sh : Shape) (d : Bool) (n : Needs) → shape e ≡ sh → Closed a_stat (r.prefix_stat_of line c e sh) Ends Each d n → Closed a_stat (program (r.prefix_stat line c e)) Ends Each d n
as_shape line c e sh d n same k =
    record {
      tokens = k.tokens;
      value = k.value;
      log = k.log;
      good = k.good;
      within = k.within;
      comes = λ us h. subst (λ sh. Comes a_stat (r.prefix_stat_of line c e sh) (k.tokens ++ us) k.value us k.log) (sym same) (k.comes us h);
    }

-- a statement goes on behind a prefix expression that has the suffix that it needs
shut_stat : (line : ℕ) (c : Counts) (e : Expr) (sh : Shape) (d : Bool) (n : Needs) → shape e ≡ sh → unfinished leading sh ≡ false
    → Has c n → Shut a_stat (then (r.prefix_stat line c e) give) BehindExp Ends Each d n
shut_stat line c e a_var d n same g h =
    record { closed = shut_last a_stat (r.prefix_stat line c e) Ends Each d n (λ us i. i) (λ a i. tt) (as_shape line c e a_var d n same (assign_rest line c e d n h)); stands = λ us i. (tt, tt) }
shut_stat line c e a_call d n same g h =
    record { closed = shut_last a_stat (r.prefix_stat line c e) Ends Each d n (λ us i. i) (λ a i. tt) (as_shape line c e a_call d n same (close_give a_stat (call_stat line e) Ends Each d n tt)); stands = ends_exp }
shut_stat line c e a_paren d n same g h = absurd (grind (arith, g))

alive_target : (c : Counts) (e : Expr) (sh : Shape) (b : Bool) (m : Needs) → Has c m
    → alive some_targets (r.target_of c e sh) b Assigns Each m
alive_target c e a_var b m h = alive_give some_targets some_targets (r.more_targets c) _ b Assigns Each m h (λ us i. i) (λ a. tt)
alive_target c e a_call b m h = tt
alive_target c e a_paren b m h = tt

shut_target : (c : Counts) (e : Expr) (sh : Shape) (d : Bool) (n : Needs) → unfinished targeted sh ≡ false
    → Shut some_targets (r.target_of c e sh) BehindExp Assigns Each d n
shut_target c e a_var d n g =
    record { closed = closes_give some_targets some_targets (r.more_targets c) _ d Assigns Each n (λ us i. i) (λ a. tt) (closed_more_targets c d n); stands = λ us i. assign_exp (word_of us) i }
shut_target c e a_call d n g = absurd (grind (arith, g))
shut_target c e a_paren d n g = absurd (grind (arith, g))

alive_more_targets : (c : Counts) (m : Needs) → Has c m → (v : Word) (at : Spot)
    → alive some_targets (r.more_targets_of c v at) (is_name v) Assigns Each m
alive_more_targets c m h (key w.comma) at =
    let n = both m free in
    let k = closed_prefix targeted c false n (has_up c m n h (up_left m free)) in (
      close_then some_targets an_expr (r.prefix targeted c) (λ e. r.target_of c e (shape e)) Assigns Each false n k (shut_target c k.value (shape k.value) false n k.good),
      λ d. (tt, λ d o e l u cost i g. shut_target c e (shape e) d o g, λ e l d cost. alive_target c e (shape e) d (both n l) (has_up c m (both n l) h (λ x. omega arith))),
    )
alive_more_targets c m h v at = tt

alive_stat : (c : Counts) (m : Needs) (v : Word) (at : Spot) → alive a_stat (r.stat_of c v at) (is_name v) Ends Each m
alive_stat c m (key w.do_) at =
    let n = both m (deep (suc (c nodes))) in (closed_to_end a_stat (down c) _ Ends false n, λ d. alive_to_end a_stat (down c) _ Ends d n)
alive_stat c m (key w.while_) at =
    let n = both m (deep (suc (c nodes))) in (
      close_then a_stat an_expr (r.expr 0 c) _ Ends Each false n (closed_expr 0 c false n (has_of false c n (omega arith))) (shut_looped 0 c _ BehindExp false n (λ us. (tt, tt))),
      λ d. (tt, λ d o e l u cost i g. shut_looped 0 c _ BehindExp d o (λ us. (tt, tt)), λ e l d cost. alive_looped 0 c _ d (both n l)),
    )
alive_stat c m (key w.repeat_) at =
    let n = both m (deep (suc (c nodes))) in (
      close_then a_stat a_block (r.block (r.in_loop 0 c)) _ Ends Each false n (closed_block (r.in_loop 0 c) false n)
          (shut_key a_stat w.until free _ Ends Ends Each false n (free_within false n) (until_closed _ false n (has_of false c n (omega arith))) (λ us. tt)),
      λ d. (
        tt,
        λ d o b l u cost i g. shut_key a_stat w.until free _ Ends Ends Each d o (free_within d o) (until_closed b d o (has_up c n o (has_of false c n (omega arith)) u)) (λ us. tt),
        λ b l d cost at2. (until_closed b false (both (both n l) free) (has_of false c (both (both n l) free) (omega arith)), λ d. alive_give a_stat an_expr (r.expr 0 c) _ d Ends Each (both (both n l) free) tt ends_exp (λ a. tt)),
      ),
    )
  where
    until_closed : (b : Block) (d : Bool) (o : Needs) → Has c o
        → Closed a_stat (then (r.expr 0 c) (λ e. give (repeat_loop at.line b e))) Ends Each d o
    until_closed b d o h = closes_give a_stat an_expr (r.expr 0 c) _ d Ends Each o ends_exp (λ a. tt) (closed_expr 0 c d o h)
alive_stat c m (key w.if_) at =
    let n = both m (deep (suc (c nodes))) in (
      closes_give a_stat some_arms (r.arms c) _ false Ends Each n (λ us i. tt) (λ a. tt) (closed_arms c false n (has_of false c n (omega arith))),
      λ d. alive_give a_stat some_arms (r.arms c) _ d Ends Each n tt (λ us i. tt) (λ a. tt),
    )
alive_stat c m (key w.for_) at =
    let n = both m (deep (suc (c nodes))) in
    let o = both n (many (suc (c locals))) in (
      close_name a_stat (many (suc (c locals))) _ Ends Each false n (many_false (suc (c locals)) n)
          (shut_last a_stat (r.for_rest at.line [] c) Ends Each false n (λ us i. i) (λ a i. tt) (closed_for_rest at.line [] c false n (has_of false c n (omega arith)))),
      λ d x at2. (
        shut_last a_stat (r.for_rest at.line x c) Ends Each true o (λ us i. i) (λ a i. tt) (closed_for_rest at.line x c true o (has_of true c o (omega arith))),
        λ d. alive_last a_stat (r.for_rest at.line x c) d Ends Each o (has_of true c o (omega arith)) (λ us i. i) (λ a i. tt),
      ),
    )
alive_stat c m (key w.function_) at =
    let n = both m (deep (suc (c nodes))) in
    let o = both n free in (
      close_name a_stat free _ Ends Each false n (free_within false n) (named_body _ false n),
      λ d x at2. (
        named_body (name at2.line x) true o,
        λ d. (tt, λ d q t l u cost i g. body_closed t d q, λ t l d cost. alive_give a_stat a_func (r.func_body at.line t.1 c) _ d Ends Each (both o l) tt (λ us i. tt) (λ a. tt)),
      ),
    )
  where
    body_closed : (t : Expr × List Bytes) (d : Bool) (q : Needs)
        → Shut a_stat (then (r.func_body at.line t.1 c) (λ f. give (function_stat at.line t.0 f))) (Behind (r.func_name c (name 1 []))) Ends Each d q
    body_closed t d q = record { closed = closes_give a_stat a_func (r.func_body at.line t.1 c) _ d Ends Each q (λ us i. tt) (λ a. tt) (closed_func_body at.line t.1 c d q); stands = λ us i. tt }

    named_body : (a : Expr) (d : Bool) (q : Needs)
        → Closed a_stat (then (r.func_name c a) (λ t. then (r.func_body at.line t.1 c) (λ f. give (function_stat at.line t.0 f)))) Ends Each d q
    named_body a d q = close_then a_stat a_target (r.func_name c a) _ Ends Each d q (closed_func_name c a d q) (body_closed (a, []) d q)
alive_stat c m (key w.local_) at =
    let n = both m free in
    (shut_last a_stat (r.local_rest at.line c) Ends Each false n (λ us i. i) (λ a i. tt) (closed_local_rest at.line c n), λ d. alive_last a_stat (r.local_rest at.line c) d Ends Each n tt (λ us i. i) (λ a i. tt))
alive_stat c m v at = (
  tt,
  λ d n e l u cost i g. shut_stat at.line c e (shape e) d n refl g (has_prefix leading c e l n cost (i nodes (counted_nodes d))),
  λ e l d cost. alive_last a_stat (r.prefix_stat at.line c e) d Ends Each (both m l) (has_prefix leading c e l (both m l) cost (omega arith)) (λ us i. i) (λ a i. tt),
)

-- ---- blocks

alive_with_last : (c : Counts) (b : Bool) (m : Needs) → alive a_block (r.with_last c) b Ends Each m
alive_with_last c b m = (
  tt,
  λ d n st l u cost i g. record { closed = closes_give a_block a_semi r.semi _ d Ends Each n (λ us i. i) (λ a. tt) (closed_semi d n); stands = λ us i. i },
  λ st l d cost. alive_give a_block a_semi r.semi _ d Ends Each (both m l) tt (λ us i. i) (λ a. tt),
)

abbrev shut_rest : (c : Counts) (st : Stat) (d : Bool) (n : Needs) → Shut a_block (then (r.block (r.behind st c)) (λ b. give (stat_and st b))) Ends Ends Each d n
shut_rest c st d n = record { closed = closes_give a_block a_block (r.block (r.behind st c)) _ d Ends Each n (λ us i. i) (λ a. tt) (closed_block (r.behind st c) d n); stands = λ us i. i }

alive_with_stat : (c : Counts) (b : Bool) (m : Needs) → alive a_block (r.with_stat c) b Ends Each m
alive_with_stat c b m = (
  tt,
  λ d n st l u cost i g. record { closed = close_then a_block a_semi r.semi _ Ends Each d n (closed_semi d n) (shut_rest c st d n); stands = λ us i. i },
  λ st l d cost. (tt, λ d n s k u cost i g. shut_rest c st d n, λ s k d cost. alive_give a_block a_block (r.block (r.behind st c)) _ d Ends Each (both (both m l) k) tt (λ us i. i) (λ a. tt)),
)

alive_block : (c : Counts) (m : Needs) (v : Word) (at : Spot) → alive a_block (r.block_of c v at) (is_name v) Ends Each m
alive_block c m (key w.return_) at = alive_with_last c false m
alive_block c m (key w.break_) at = alive_with_last c false m
alive_block c m (key w.do_) at = alive_with_stat c false m
alive_block c m (key w.while_) at = alive_with_stat c false m
alive_block c m (key w.repeat_) at = alive_with_stat c false m
alive_block c m (key w.if_) at = alive_with_stat c false m
alive_block c m (key w.for_) at = alive_with_stat c false m
alive_block c m (key w.function_) at = alive_with_stat c false m
alive_block c m (key w.local_) at = alive_with_stat c false m
alive_block c m (w.name x) at = alive_with_stat c true m
alive_block c m (key w.open_paren) at = alive_with_stat c false m
alive_block c m v at = tt

alive_semi : (m : Needs) (v : Word) (at : Spot) → alive a_semi (r.semi_of v at) (is_name v) Ends Each m
alive_semi m (key w.semicolon) at = alive_token a_semi _ _ false Ends Each m tt
alive_semi m v at = tt

alive_loop_block : (k : ℕ) (c : Counts) (b : Bool) (m : Needs) → alive a_block (program (r.loop_block k c)) b Any Each m
alive_loop_block k c b m = λ at. let n = both m free in (closed_to_end a_block (r.in_loop k c) _ Any false n, λ d. alive_to_end a_block (r.in_loop k c) _ Any d n)

abbrev closed_arm : (c : Counts) (e : Expr) (d : Bool) (n : Needs) → Closed some_arms (then (r.block (down c)) (λ b. then (r.more_arms c) (λ xs. give (arm_and e b xs)))) Any Each d n
closed_arm c e d n =
    close_then some_arms a_block (r.block (down c)) _ Any Each d n (closed_block (down c) d n)
    (record { closed = closes_give some_arms some_arms (r.more_arms c) _ d Any Each n (λ us i. tt) (λ a. tt) (closed_more_arms c d n); stands = λ us i. tt })

alive_arms : (c : Counts) (b : Bool) (m : Needs) → alive some_arms (program (r.arms c)) b Any Each m
alive_arms c b m = (
  tt,
  λ d n e l u cost i g. shut_key some_arms w.then_ free _ BehindExp Any Each d n (free_within d n) (closed_arm c e d n) (λ us. (tt, tt)),
  λ e l d cost at.
      let n = both (both m l) free in (
        closed_arm c e false n,
        λ d. (
          tt,
          λ d o b k u cost i g. record { closed = closes_give some_arms some_arms (r.more_arms c) _ d Any Each o (λ us i. tt) (λ a. tt) (closed_more_arms c d o); stands = λ us i. tt },
          λ b k d cost2. alive_give some_arms some_arms (r.more_arms c) _ d Any Each (both n k) (has_read 0 c e l (both n k) (omega arith) cost (omega arith)) (λ us i. tt) (λ a. tt),
        ),
      ),
)

alive_more_arms : (c : Counts) (m : Needs) → Has c m → (v : Word) (at : Spot)
    → alive some_arms (r.more_arms_of c v at) (is_name v) Any Each m
alive_more_arms c m h (key w.elseif) at =
    let n = both m free in
    (shut_last some_arms (r.arms c) Any Each false n (λ us i. i) (λ a i. tt) (closed_arms c false n (has_up c m n h (up_left m free))), λ d. alive_last some_arms (r.arms c) d Any Each n tt (λ us i. i) (λ a i. tt))
alive_more_arms c m h (key w.else_) at = let n = both m free in (closed_to_end some_arms (down c) _ Any false n, λ d. alive_to_end some_arms (down c) _ Any d n)
alive_more_arms c m h (key w.end_) at = alive_token some_arms _ _ false Any Each m tt
alive_more_arms c m h v at = tt

-- the chunk
empty_ends : (us : List Tok) → us ≡ [] → Ends us
empty_ends us h = subst Ends (sym h) tt

at_end : (b : Block) (us : List Tok) → us ≡ [] → Comes a_block (at_last b) us b us free
at_end b us h = subst (λ us. Comes a_block (at_last b) us b us free) (sym h) is_last

alive_chunk : (b : Bool) (m : Needs) → alive a_block (program r.chunk) b (Behind r.chunk) Each m
alive_chunk b m = (
  tt,
  λ d n a l u cost i g. record { closed = record { tokens = []; value = a; log = free; comes = λ us h. at_end a us h; good = tt; within = λ x h. omega arith }; stands = empty_ends },
  λ a l d cost. tt,
)

all_alive : AllAlive
all_alive s (r.expr p c) b m h = alive_expr p c b m
all_alive s (r.more p c a) b m h = λ v at. alive_more p c a m v at
all_alive s (r.first c) b m h = λ v at. alive_first c m v at
all_alive s (r.prefix k c) b m h = λ v at. alive_prefix k c m v at
all_alive s (r.suffixes k c a) b m h = λ v at. alive_suffixes k c a m v at
all_alive s (r.args n c) b m h = λ v at. alive_args n c m v at
all_alive s (r.paren_args l c) b m h = λ v at. alive_paren_args l c m v at
all_alive s (r.exprs c) b m h = alive_exprs c b m
all_alive s (r.more_exprs c) b m h = λ v at. alive_more_exprs c m h v at
all_alive s (r.fields c) b m h = λ v at. alive_fields c m v at
all_alive s (r.more_fields c) b m h = λ v at. alive_more_fields c m v at
all_alive s (r.name_field l x c) b m h = λ v at. alive_name_field l x c m h v at
all_alive s (r.func_body l hidden c) b m h = alive_func_body l hidden c b m
all_alive s (r.params n) b m h = λ v at. alive_params n m v at
all_alive s (r.next_param n) b m h = λ v at. alive_next_param n m v at
all_alive s (r.more_params n) b m h = λ v at. alive_more_params n m v at
all_alive s (r.more_names n) b m h = λ v at. alive_more_names n m v at
all_alive s r.chunk b m h = alive_chunk b m
all_alive s (r.block c) b m h = λ v at. alive_block c m v at
all_alive s r.semi b m h = λ v at. alive_semi m v at
all_alive s (r.loop_block k c) b m h = alive_loop_block k c b m
all_alive s (r.stat c) b m h = λ v at. alive_stat c m v at
all_alive s (r.prefix_stat l c e) b m h = alive_prefix_stat l c e (shape e) b m h
all_alive s (r.for_rest l x c) b m h = λ v at. alive_for_rest l x c m h v at
all_alive s (r.num_for_rest l x a e c) b m h = λ v at. alive_num_for_rest l x a e c m h v at
all_alive s (r.local_rest l c) b m h = λ v at. alive_local_rest l c m v at
all_alive s (r.last c) b m h = λ v at. alive_last_stat c m v at
all_alive s (r.return_rest l c) b m h = λ v at. alive_return_rest l c m v at
all_alive s (r.more_targets c) b m h = λ v at. alive_more_targets c m h v at
all_alive s (r.init c) b m h = λ v at. alive_init c m v at
all_alive s (r.arms c) b m h = alive_arms c b m
all_alive s (r.more_arms c) b m h = λ v at. alive_more_arms c m h v at
all_alive s (r.func_name c a) b m h = λ v at. alive_func_name c a m v at

-- behind each token that is taken, some tokens bring the chunk to its end, and make nothing more unavoidable; of locals
-- this is said behind a name alone
pub viable : AllSound → (pre : List Tok) (t : Tok) (l : Needs) → Partly a_block (program r.chunk) pre t l
    → (more : List Tok) × (b : Block) × (m : Needs) × Comes a_block (program r.chunk) (pre ++ t ∷ more) b [] m × ((x : Limit) → Counted (is_name (word_in t)) x → m x ≤ l x)
viable so pre t l d =
    let k = done all_alive so a_block (program r.chunk) pre t l d (is_name (word_of (pre ++ t ∷ []))) (Behind r.chunk) Each free refl (alive_chunk (is_name (word_of (pre ++ t ∷ []))) free) in
    (k.tokens ++ [], k.value, k.log, k.comes [] refl, λ x h. let y = k.within x h in omega (arith, y))
