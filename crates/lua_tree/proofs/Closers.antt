-- The tokens that close each rule.
use Rattle.std.proofs.Common.{ℕ, suc, ◌+◌, ◌≤◌, ◌≡◌, refl, sym, ap, subst, List, [], ◌∷◌, ◌++◌, Bool, true, false, arith, append_assoc}
use Rattle.lua_tree.specs.Tree.{Bytes, Expr, nil, name, call, index, str, no_exprs, expr_and, no_fields, no_stats, return_stat, no_else}
use Rattle.lua_tree.specs.Words as w
use Rattle.lua_tree.specs.Words.{Word, Key, key, Spot, Tok, tok, nowhere, word_in, word_of, spot_of}
use Rattle.lua_tree.specs.Grammar.{NotOpen}
use Rattle.lua_tree.specs.Attributes.{Limit, breaks, varargs, nodes, locals, calls, Counts, height}
use Rattle.lua_tree.specs.Reading as r
use Rattle.lua_tree.specs.Reading.{Sort, Value, Rule, Needs, Prog, Place, in_expr, leading, targeted, Shape, a_var, a_call, a_paren, give, fail, take, look, expect, expect_name, at_last, then, free, deep, many, opening, held, down, shape, unfinished, program, an_expr, an_args, some_exprs, some_fields, a_func, a_block, a_stat, some_arms, some_names, some_params, a_target, some_targets, a_semi}
use Rattle.lua_tree.proofs.Comes as cm
use Rattle.lua_tree.proofs.Comes.{Comes, both}
use Rattle.lua_tree.proofs.Follow.{Stops, NotComma, EndsBlock, NotSuffix, NotFrom}
use Rattle.lua_tree.proofs.Counting.{one_deep}
use Rattle.lua_tree.proofs.Alive.{Within, BehindExp, BehindList, IsAssign, IsOpen, Behind, Good, Has, Closed, Shut}

-- ---- ends are put together

abbrev pub close_give : (s : Sort) (a : Value s) (F : List Tok → Type 0) (G : Value s → Type 0) (b : Bool) (m : Needs) → G a → Closed s (give a) F G b m
close_give s a F G b m g = record { tokens = []; value = a; log = free; comes = λ us h. cm.gives; good = g; within = λ x h. omega arith }

abbrev pub close_take : (s : Sort) (n : Needs) (p : Prog s) (t : Tok) (f : Word → Spot → Prog s) (F : List Tok → Type 0) (G : Value s → Type 0) (b : Bool) (m : Needs)
    → f (word_in t) (w.spot_in t) ≡ take n p → Within b n m → Closed s p F G b m → Closed s (look f) F G b m
close_take s n p t f F G b m e h k =
    record {
      tokens = t ∷ k.tokens;
      value = k.value;
      log = both n k.log;
      good = k.good;
      within = λ x i. let y = h x i in let z = k.within x i in omega (arith, y, z);
      comes = λ us i. cm.looks (subst (λ q. Comes s q (t ∷ (k.tokens ++ us)) k.value us (both n k.log)) (sym e) (cm.takes (k.comes us i)));
    }

abbrev pub close_key : (s : Sort) (k : Key) (n : Needs) (f : Spot → Prog s) (F : List Tok → Type 0) (G : Value s → Type 0) (b : Bool) (m : Needs)
    → Within b n m → Closed s (f nowhere) F G b m → Closed s (expect k n f) F G b m
close_key s k n f F G b m h d =
    record {
      tokens = tok (key k) nowhere ∷ d.tokens;
      value = d.value;
      log = both n d.log;
      good = d.good;
      within = λ x i. let y = h x i in let z = d.within x i in omega (arith, y, z);
      comes = λ us i. cm.expects (d.comes us i);
    }

abbrev pub close_name : (s : Sort) (n : Needs) (f : Bytes → Spot → Prog s) (F : List Tok → Type 0) (G : Value s → Type 0) (b : Bool) (m : Needs)
    → Within b n m → Closed s (f [] nowhere) F G b m → Closed s (expect_name n f) F G b m
close_name s n f F G b m h d =
    record {
      tokens = tok (w.name []) nowhere ∷ d.tokens;
      value = d.value;
      log = both n d.log;
      good = d.good;
      within = λ x i. let y = h x i in let z = d.within x i in omega (arith, y, z);
      comes = λ us i. cm.expects_name (d.comes us i);
    }

abbrev pub close_then : (s q : Sort) (r : Rule q) (f : Value q → Prog s) (F : List Tok → Type 0) (G : Value s → Type 0) (b : Bool) (m : Needs)
    → (d : Closed q (program r) (Behind r) (Good r) b m) → Shut s (f d.value) (Behind r) F G b m → Closed s (then r f) F G b m
close_then s q r f F G b m d k =
    record {
      tokens = d.tokens ++ k.closed.tokens;
      value = k.closed.value;
      log = both d.log k.closed.log;
      good = k.closed.good;
      within = λ x h. let y = d.within x h in let z = k.closed.within x h in omega (arith, y, z);
      comes = λ us h. subst (λ ts. Comes s (then r f) ts k.closed.value us (both d.log k.closed.log)) (sym (append_assoc d.tokens k.closed.tokens us))
          (cm.thens (d.comes (k.closed.tokens ++ us) (k.stands us h)) (k.closed.comes us h));
    }

-- a program that only gives
abbrev pub shut_give : (s : Sort) (a : Value s) (E F : List Tok → Type 0) (G : Value s → Type 0) (b : Bool) (m : Needs) → ((us : List Tok) → F us → E us) → G a → Shut s (give a) E F G b m
shut_give s a E F G b m i g = record { closed = close_give s a F G b m g; stands = i }

abbrev pub shut_key : (s : Sort) (k : Key) (n : Needs) (f : Spot → Prog s) (E F : List Tok → Type 0) (G : Value s → Type 0) (b : Bool) (m : Needs)
    → Within b n m → Closed s (f nowhere) F G b m → ((us : List Tok) → E (tok (key k) nowhere ∷ us)) → Shut s (expect k n f) E F G b m
shut_key s k n f E F G b m h d e = record { closed = close_key s k n f F G b m h d; stands = λ us i. e ((d.tokens) ++ us) }

-- where anything may stand behind the rule before
abbrev pub shut_any : (s : Sort) (p : Prog s) (F : List Tok → Type 0) (G : Value s → Type 0) (b : Bool) (m : Needs) → Closed s p F G b m → Shut s p (λ us. Unit {0}) F G b m
shut_any s p F G b m d = record { closed = d; stands = λ us h. tt }

-- a rule that is the last one
abbrev pub shut_last : (s : Sort) (r : Rule s) (F : List Tok → Type 0) (G : Value s → Type 0) (b : Bool) (m : Needs) → ((us : List Tok) → F us → Behind r us) → ((a : Value s) → Good r a → G a)
    → Closed s (program r) (Behind r) (Good r) b m → Closed s (then r give) F G b m
shut_last s r F G b m i g d = close_then s s r give F G b m d (shut_give s d.value (Behind r) F G b m i (g d.value d.good))

pub free_within : (b : Bool) (m : Needs) → Within b free m
free_within b m = λ x h. omega arith

-- ---- expressions

pub behind_from : (p : ℕ) (v : Word) → Stops v → NotFrom p v
behind_from p (w.op o) h = absurd h
behind_from p v h = tt

pub behind_suffix : (v : Word) → Stops v → NotOpen v → NotSuffix v
behind_suffix (key w.open_bracket) h o = h
behind_suffix (key w.dot) h o = h
behind_suffix (key w.colon) h o = h
behind_suffix (key w.open_paren) h o = o
behind_suffix (key w.open_brace) h o = h
behind_suffix (w.str x) h o = h
behind_suffix v h o = tt

pub more_comes : (p : ℕ) (c : Counts) (e : Expr) (us : List Tok) → BehindExp us
    → Comes an_expr (program (r.more p c e)) us e us free
more_comes p c e [] h = cm.looks cm.gives
more_comes p c e (tok (w.op o) s ∷ us) h = absurd h.0
more_comes p c e (tok v s ∷ us) h = cm.looks cm.gives

pub suffixes_come : (k : Place) (c : Counts) (e : Expr) (us : List Tok) → NotSuffix (word_of us)
    → Comes an_expr (program (r.suffixes k c e)) us e us free
suffixes_come k c e [] h = cm.looks cm.gives
suffixes_come k c e (tok (key w.open_bracket) s ∷ us) h = absurd h
suffixes_come k c e (tok (key w.dot) s ∷ us) h = absurd h
suffixes_come k c e (tok (key w.colon) s ∷ us) h = absurd h
suffixes_come k c e (tok (key w.open_paren) s ∷ us) h = absurd h
suffixes_come k c e (tok (key w.open_brace) s ∷ us) h = absurd h
suffixes_come k c e (tok (w.str x) s ∷ us) h = absurd h
suffixes_come k c e (tok v s ∷ us) h = cm.looks cm.gives

pub has_deep : (c : Counts) (b : Bool) (m : Needs) → Has c m → Within b (deep (suc (c nodes))) m
has_deep c b m h = λ x i. let y = h x in let z = one_deep x c in omega (arith, y, z)

abbrev pub closed_more : (p : ℕ) (c : Counts) (e : Expr) (b : Bool) (m : Needs) → Closed an_expr (program (r.more p c e)) BehindExp (λ v. Unit {0}) b m
closed_more p c e b m = record { tokens = []; value = e; log = free; comes = λ us h. more_comes p c e us h; good = tt; within = λ x h. omega arith }

abbrev pub closed_first : (c : Counts) (b : Bool) (m : Needs) → Has c m → Closed an_expr (program (r.first c)) BehindExp (λ v. Unit {0}) b m
closed_first c b m h = close_take an_expr (deep (suc (c nodes))) (give (nil 1)) (tok (key w.nil_) nowhere) (r.first_of c) BehindExp (λ v. Unit {0}) b m refl (has_deep c b m h)
    (close_give an_expr (nil 1) BehindExp (λ v. Unit {0}) b m tt)

abbrev pub closed_expr : (p : ℕ) (c : Counts) (b : Bool) (m : Needs) → Has c m → Closed an_expr (program (r.expr p c)) BehindExp (λ v. Unit {0}) b m
closed_expr p c b m h =
    close_then an_expr an_expr (r.first c) (λ a. then (r.more p c a) give) BehindExp (λ v. Unit {0}) b m (closed_first c b m h)
    (record { closed = shut_last an_expr (r.more p c (nil 1)) BehindExp (λ v. Unit {0}) b m (λ us i. i) (λ a i. tt) (closed_more p c (nil 1) b m); stands = λ us i. i })

pub ends_comma : (v : Word) → EndsBlock v → NotComma v
ends_comma (key w.comma) h = absurd h
ends_comma v h = tt

pub ends_stop : (v : Word) → EndsBlock v → Stops v
ends_stop (w.op o) h = absurd h
ends_stop (key w.open_bracket) h = absurd h
ends_stop (key w.dot) h = absurd h
ends_stop (key w.colon) h = absurd h
ends_stop (key w.open_brace) h = absurd h
ends_stop (w.str x) h = absurd h
ends_stop v h = tt

pub ends_open : (v : Word) → EndsBlock v → NotOpen v
ends_open (key w.open_paren) h = absurd h
ends_open v h = tt

-- ends by their tokens
abbrev pub ends : (s : Sort) (p : Prog s) (F : List Tok → Type 0) (G : Value s → Type 0) (b : Bool) (m : Needs) (ts : List Tok) (a : Value s) {l : Needs}
    → ((us : List Tok) → F us → Comes s p (ts ++ us) a us l) → G a → Within b l m → Closed s p F G b m
ends s p F G b m ts a {l = l} d g h = record { tokens = ts; value = a; log = l; comes = d; good = g; within = h }

abbrev pub Any : List Tok → Type 0
Any us = Unit {0}

abbrev pub Each : {A : Type 0} → A → Type 0
Each a = Unit {0}

-- a word that stands nowhere in particular
abbrev pub at : Key → Tok
at k = tok (key k) nowhere

abbrev pub a_name : Tok
a_name = tok (w.name []) nowhere

-- ---- prefix expressions

pub deep_within : (b : Bool) (n : ℕ) (m : Needs) → n ≤ m nodes → Within b (deep n) m
deep_within b n m h breaks i = omega arith
deep_within b n m h varargs i = omega arith
deep_within b n m h nodes i = h
deep_within b n m h locals i = omega arith
deep_within b n m h calls i = omega arith

pub opening_deep : (x : Limit) (n : ℕ) → opening n 1 x ≡ deep n x
opening_deep breaks n = refl
opening_deep varargs n = refl
opening_deep nodes n = refl
opening_deep locals n = refl
opening_deep calls n = refl

abbrev pub closed_args : (n : ℕ) (c : Counts) (b : Bool) (m : Needs) → Within b (deep n) m → Closed an_args (program (r.args n c)) Any Each b m
closed_args n c b m h =
    ends an_args (program (r.args n c)) Any Each b m (at w.open_paren ∷ at w.close_paren ∷ []) (1, no_exprs)
    (λ us i. cm.looks (cm.takes (cm.thens (cm.looks (cm.takes cm.gives)) cm.gives))) tt (λ x i. let y = h x i in let z = opening_deep x n in omega (arith, y, z))

abbrev pub Finished : Place → Expr → Type 0
Finished k e = unfinished k (shape e) ≡ false

pub finished : (k : Place) (c : Counts) (a : Expr) (b : Bool) (m : Needs) → Finished k a
    → Closed an_expr (program (r.suffixes k c a)) BehindExp (Finished k) b m
finished k c a b m g = ends an_expr (program (r.suffixes k c a)) BehindExp (Finished k) b m [] a (λ us h. suffixes_come k c a us (behind_suffix (word_of us) h.0 h.1)) g (λ x h. omega arith)

-- by one more index
indexed : (c : Counts) (a : Expr) (b : Bool) (m : Needs) → suc (c nodes) + height a ≤ m nodes
    → Closed an_expr (program (r.suffixes targeted c a)) BehindExp (Finished targeted) b m
indexed c a b m h =
    ends an_expr (program (r.suffixes targeted c a)) BehindExp (Finished targeted) b m (at w.dot ∷ a_name ∷ []) (index 1 a (str 1 []))
    (λ us i. cm.looks (cm.takes (cm.expects_name (cm.thens (suffixes_come targeted c (index 1 a (str 1 [])) us (behind_suffix (word_of us) i.0 i.1)) cm.gives)))) refl
    (λ x i. let y = deep_within b (suc (c nodes) + height a) m h x i in omega (arith, y))

-- by a call
invoked : (c : Counts) (a : Expr) (b : Bool) (m : Needs) → suc (c nodes) + height a ≤ m nodes
    → Closed an_expr (program (r.suffixes leading c a)) BehindExp (Finished leading) b m
invoked c a b m h =
    ends an_expr (program (r.suffixes leading c a)) BehindExp (Finished leading) b m (at w.open_paren ∷ at w.close_paren ∷ []) (call 1 a no_exprs)
    (λ us i. cm.looks (cm.thens (cm.looks (cm.takes (cm.thens (cm.looks (cm.takes cm.gives)) cm.gives))) (cm.thens (suffixes_come leading c (call 1 a no_exprs) us (behind_suffix (word_of us) i.0 i.1)) cm.gives))) refl
    (λ x i. let y = deep_within b (suc (c nodes) + height a) m h x i in let v = opening_deep x (suc (c nodes) + height a) in omega (arith, y, v))

by_shape : (k : Place) (sh : Shape) (c : Counts) (a : Expr) (b : Bool) (m : Needs) → shape a ≡ sh
    → held (unfinished k sh) c nodes + height a ≤ m nodes
    → Closed an_expr (program (r.suffixes k c a)) BehindExp (Finished k) b m
by_shape k a_var c a b m e h = finished k c a b m (ap (unfinished k) e)
by_shape in_expr a_call c a b m e h = finished in_expr c a b m (ap (unfinished in_expr) e)
by_shape leading a_call c a b m e h = finished leading c a b m (ap (unfinished leading) e)
by_shape targeted a_call c a b m e h = indexed c a b m h
by_shape in_expr a_paren c a b m e h = finished in_expr c a b m (ap (unfinished in_expr) e)
by_shape leading a_paren c a b m e h = invoked c a b m h
by_shape targeted a_paren c a b m e h = indexed c a b m h

-- ... where the nodes of what was read so far were unavoidable
pub closed_suffixes : (k : Place) (c : Counts) (a : Expr) (b : Bool) (m : Needs)
    → held (unfinished k (shape a)) c nodes + height a ≤ m nodes
    → Closed an_expr (program (r.suffixes k c a)) BehindExp (Finished k) b m
closed_suffixes k c a b m h = by_shape k (shape a) c a b m refl h

pub closed_prefix : (k : Place) (c : Counts) (b : Bool) (m : Needs) → Has c m
    → Closed an_expr (program (r.prefix k c)) BehindExp (Finished k) b m
closed_prefix k c b m h =
    ends an_expr (program (r.prefix k c)) BehindExp (Finished k) b m (a_name ∷ []) (name 1 [])
    (λ us i. cm.looks (cm.takes (cm.thens (suffixes_come k c (name 1 []) us (behind_suffix (word_of us) i.0 i.1)) cm.gives))) refl
    (λ x i. let y = has_deep c b m h x i in omega (arith, y))

-- ---- lists and fields

pub exprs_come : (c : Counts) (us : List Tok) → NotComma (word_of us)
    → Comes some_exprs (program (r.more_exprs c)) us no_exprs us free
exprs_come c [] h = cm.looks cm.gives
exprs_come c (tok (key w.comma) s ∷ us) h = absurd h
exprs_come c (tok v s ∷ us) h = cm.looks cm.gives

abbrev pub closed_more_exprs : (c : Counts) (b : Bool) (m : Needs) → Closed some_exprs (program (r.more_exprs c)) BehindList Each b m
closed_more_exprs c b m = ends some_exprs (program (r.more_exprs c)) BehindList Each b m [] no_exprs (λ us h. exprs_come c us h.2) tt (λ x h. omega arith)

pub closed_exprs : (c : Counts) (b : Bool) (m : Needs) → Has c m → Closed some_exprs (program (r.exprs c)) BehindList Each b m
closed_exprs c b m h =
    ends some_exprs (program (r.exprs c)) BehindList Each b m (at w.nil_ ∷ []) (expr_and (nil 1) no_exprs)
    (λ us i. cm.thens (cm.thens (cm.looks (cm.takes cm.gives)) (cm.thens (more_comes 0 c (nil 1) us (i.0, i.1)) cm.gives)) (cm.thens (exprs_come c us i.2) cm.gives)) tt
    (λ x i. let y = has_deep c b m h x i in omega (arith, y))

abbrev pub closed_paren_args : (l : ℕ) (c : Counts) (b : Bool) (m : Needs) → Closed an_args (program (r.paren_args l c)) Any Each b m
closed_paren_args l c b m = ends an_args (program (r.paren_args l c)) Any Each b m (at w.close_paren ∷ []) (l, no_exprs) (λ us i. cm.looks (cm.takes cm.gives)) tt (λ x i. omega arith)

abbrev pub closed_fields : (c : Counts) (b : Bool) (m : Needs) → Closed some_fields (program (r.fields c)) Any Each b m
closed_fields c b m = ends some_fields (program (r.fields c)) Any Each b m (at w.close_brace ∷ []) no_fields (λ us i. cm.looks (cm.takes cm.gives)) tt (λ x i. omega arith)

abbrev pub closed_more_fields : (c : Counts) (b : Bool) (m : Needs) → Closed some_fields (program (r.more_fields c)) Any Each b m
closed_more_fields c b m = ends some_fields (program (r.more_fields c)) Any Each b m (at w.close_brace ∷ []) no_fields (λ us i. cm.looks (cm.takes cm.gives)) tt (λ x i. omega arith)

abbrev pub closed_name_field : (l : ℕ) (n : Bytes) (c : Counts) (b : Bool) (m : Needs) → Closed some_fields (program (r.name_field l n c)) Any Each b m
closed_name_field l n c b m =
    ends some_fields (program (r.name_field l n c)) Any Each b m (at w.close_brace ∷ []) _
    (λ us i. cm.looks (cm.thens (cm.looks cm.gives) (cm.thens (cm.looks cm.gives) (cm.thens (cm.looks (cm.takes cm.gives)) cm.gives)))) tt (λ x i. omega arith)

-- ---- functions

abbrev pub closed_params : (n : ℕ) (b : Bool) (m : Needs) → Closed some_params (program (r.params n)) Any Each b m
closed_params n b m = ends some_params (program (r.params n)) Any Each b m (at w.close_paren ∷ []) ([], false) (λ us i. cm.looks (cm.takes cm.gives)) tt (λ x i. omega arith)

abbrev pub closed_next_param : (n : ℕ) (b : Bool) (m : Needs) → Closed some_params (program (r.next_param n)) Any Each b m
closed_next_param n b m = ends some_params (program (r.next_param n)) Any Each b m (at w.dots ∷ at w.close_paren ∷ []) ([], true) (λ us i. cm.looks (cm.takes (cm.expects cm.gives))) tt (λ x i. omega arith)

abbrev pub closed_more_params : (n : ℕ) (b : Bool) (m : Needs) → Closed some_params (program (r.more_params n)) Any Each b m
closed_more_params n b m = ends some_params (program (r.more_params n)) Any Each b m (at w.close_paren ∷ []) ([], false) (λ us i. cm.looks (cm.takes cm.gives)) tt (λ x i. omega arith)

abbrev pub closed_func_body : (l : ℕ) (hidden : List Bytes) (c : Counts) (b : Bool) (m : Needs) → Closed a_func (program (r.func_body l hidden c)) Any Each b m
closed_func_body l hidden c b m =
    ends a_func (program (r.func_body l hidden c)) Any Each b m (at w.open_paren ∷ at w.close_paren ∷ at w.end_ ∷ []) _
    (λ us i. cm.expects (cm.thens (cm.looks (cm.takes cm.gives)) (cm.thens (cm.looks cm.gives) (cm.expects cm.gives)))) tt (λ x i. omega arith)

pub name_comes : (c : Counts) (a : Expr) (us : List Tok) → IsOpen (word_of us)
    → Comes a_target (program (r.func_name c a)) us (a, []) us free
name_comes c a [] h = absurd h
name_comes c a (tok (key w.open_paren) s ∷ us) h = cm.looks cm.gives
name_comes c a (tok v s ∷ us) h = absurd h

abbrev pub closed_func_name : (c : Counts) (a : Expr) (b : Bool) (m : Needs) → Closed a_target (program (r.func_name c a)) (Behind (r.func_name c a)) Each b m
closed_func_name c a b m = ends a_target (program (r.func_name c a)) (Behind (r.func_name c a)) Each b m [] (a, []) (λ us h. name_comes c a us h) tt (λ x h. omega arith)

-- ---- blocks and statements

pub block_comes : (c : Counts) (us : List Tok) → EndsBlock (word_of us) → Comes a_block (program (r.block c)) us no_stats us free
block_comes c [] h = cm.looks cm.gives
block_comes c (tok (key w.end_) s ∷ us) h = cm.looks cm.gives
block_comes c (tok (key w.else_) s ∷ us) h = cm.looks cm.gives
block_comes c (tok (key w.elseif) s ∷ us) h = cm.looks cm.gives
block_comes c (tok (key w.until) s ∷ us) h = cm.looks cm.gives
block_comes c (tok w.the_end s ∷ us) h = cm.looks cm.gives
block_comes c (tok v s ∷ us) h = absurd h

pub semi_comes : (us : List Tok) → EndsBlock (word_of us) → Comes a_semi (program r.semi) us tt us free
semi_comes [] h = cm.looks cm.gives
semi_comes (tok (key w.semicolon) s ∷ us) h = absurd h
semi_comes (tok v s ∷ us) h = cm.looks cm.gives

pub init_comes : (c : Counts) (us : List Tok) → EndsBlock (word_of us) → Comes some_exprs (program (r.init c)) us no_exprs us free
init_comes c [] h = cm.looks cm.gives
init_comes c (tok (key w.assign) s ∷ us) h = absurd h
init_comes c (tok v s ∷ us) h = cm.looks cm.gives

pub return_comes : (l : ℕ) (c : Counts) (us : List Tok) → EndsBlock (word_of us)
    → Comes a_stat (program (r.return_rest l c)) us (return_stat l no_exprs) us free
return_comes l c [] h = cm.looks cm.gives
return_comes l c (tok (key w.end_) s ∷ us) h = cm.looks cm.gives
return_comes l c (tok (key w.else_) s ∷ us) h = cm.looks cm.gives
return_comes l c (tok (key w.elseif) s ∷ us) h = cm.looks cm.gives
return_comes l c (tok (key w.until) s ∷ us) h = cm.looks cm.gives
return_comes l c (tok w.the_end s ∷ us) h = cm.looks cm.gives
return_comes l c (tok v s ∷ us) h = absurd h

pub names_come : (n : ℕ) (us : List Tok) → NotComma (word_of us) → Comes some_names (program (r.more_names n)) us [] us free
names_come n [] h = cm.looks cm.gives
names_come n (tok (key w.comma) s ∷ us) h = absurd h
names_come n (tok v s ∷ us) h = cm.looks cm.gives

pub targets_come : (c : Counts) (us : List Tok) → IsAssign (word_of us)
    → Comes some_targets (program (r.more_targets c)) us no_exprs us free
targets_come c [] h = absurd h
targets_come c (tok (key w.assign) s ∷ us) h = cm.looks cm.gives
targets_come c (tok v s ∷ us) h = absurd h

abbrev pub Ends : List Tok → Type 0
Ends us = EndsBlock (word_of us)

abbrev pub closed_block : (c : Counts) (b : Bool) (m : Needs) → Closed a_block (program (r.block c)) Ends Each b m
closed_block c b m = ends a_block (program (r.block c)) Ends Each b m [] no_stats (λ us h. block_comes c us h) tt (λ x h. omega arith)

abbrev pub closed_semi : (b : Bool) (m : Needs) → Closed a_semi (program r.semi) Ends Each b m
closed_semi b m = ends a_semi (program r.semi) Ends Each b m [] tt (λ us h. semi_comes us h) tt (λ x h. omega arith)

abbrev pub closed_init : (c : Counts) (b : Bool) (m : Needs) → Closed some_exprs (program (r.init c)) Ends Each b m
closed_init c b m = ends some_exprs (program (r.init c)) Ends Each b m [] no_exprs (λ us h. init_comes c us h) tt (λ x h. omega arith)

abbrev pub closed_return_rest : (l : ℕ) (c : Counts) (b : Bool) (m : Needs) → Closed a_stat (program (r.return_rest l c)) Ends Each b m
closed_return_rest l c b m = ends a_stat (program (r.return_rest l c)) Ends Each b m [] _ (λ us h. return_comes l c us h) tt (λ x h. omega arith)

abbrev pub BehindNames : List Tok → Type 0
BehindNames us = NotComma (word_of us)

abbrev pub closed_more_names : (n : ℕ) (b : Bool) (m : Needs) → Closed some_names (program (r.more_names n)) BehindNames Each b m
closed_more_names n b m = ends some_names (program (r.more_names n)) BehindNames Each b m [] [] (λ us h. names_come n us h) tt (λ x h. omega arith)

abbrev pub Assigns : List Tok → Type 0
Assigns us = IsAssign (word_of us)

abbrev pub closed_more_targets : (c : Counts) (b : Bool) (m : Needs) → Closed some_targets (program (r.more_targets c)) Assigns Each b m
closed_more_targets c b m = ends some_targets (program (r.more_targets c)) Assigns Each b m [] no_exprs (λ us h. targets_come c us h) tt (λ x h. omega arith)

abbrev pub closed_loop_block : (k : ℕ) (c : Counts) (b : Bool) (m : Needs) → Closed a_block (program (r.loop_block k c)) Any Each b m
closed_loop_block k c b m =
    ends a_block (program (r.loop_block k c)) Any Each b m (at w.do_ ∷ at w.end_ ∷ []) no_stats (λ us i. cm.expects (cm.thens (cm.looks cm.gives) (cm.expects cm.gives))) tt (λ x i. omega arith)

abbrev pub closed_more_arms : (c : Counts) (b : Bool) (m : Needs) → Closed some_arms (program (r.more_arms c)) Any Each b m
closed_more_arms c b m = ends some_arms (program (r.more_arms c)) Any Each b m (at w.end_ ∷ []) no_else (λ us i. cm.looks (cm.takes cm.gives)) tt (λ x i. omega arith)

pub closed_arms : (c : Counts) (b : Bool) (m : Needs) → Has c m → Closed some_arms (program (r.arms c)) Any Each b m
closed_arms c b m h =
    ends some_arms (program (r.arms c)) Any Each b m (at w.nil_ ∷ at w.then_ ∷ at w.end_ ∷ []) _
    (λ us i. cm.thens (cm.thens (cm.looks (cm.takes cm.gives)) (cm.thens (cm.looks cm.gives) cm.gives)) (cm.expects (cm.thens (cm.looks cm.gives) (cm.thens (cm.looks (cm.takes cm.gives)) cm.gives)))) tt
    (λ x i. let y = has_deep c b m h x i in omega (arith, y))

abbrev pub closed_num_for_rest : (l : ℕ) (n : Bytes) (a e : Expr) (c : Counts) (b : Bool) (m : Needs) → Closed a_stat (program (r.num_for_rest l n a e c)) Ends Each b m
closed_num_for_rest l n a e c b m =
    ends a_stat (program (r.num_for_rest l n a e c)) Ends Each b m (at w.do_ ∷ at w.end_ ∷ []) _
    (λ us i. cm.looks (cm.thens (cm.expects (cm.thens (cm.looks cm.gives) (cm.expects cm.gives))) cm.gives)) tt (λ x i. omega arith)

pub closed_for_rest : (l : ℕ) (n : Bytes) (c : Counts) (b : Bool) (m : Needs) → Has c m
    → Closed a_stat (program (r.for_rest l n c)) Ends Each b m
closed_for_rest l n c b m h =
    ends a_stat (program (r.for_rest l n c)) Ends Each b m (at w.in_ ∷ at w.nil_ ∷ at w.do_ ∷ at w.end_ ∷ []) _
    (λ us i. cm.looks (cm.thens (cm.looks cm.gives) (cm.expects (cm.thens (cm.thens (cm.thens (cm.looks (cm.takes cm.gives)) (cm.thens (cm.looks cm.gives) cm.gives)) (cm.thens (cm.looks cm.gives) cm.gives))
    (cm.thens (cm.expects (cm.thens (cm.looks cm.gives) (cm.expects cm.gives))) cm.gives))))) tt
    (λ x i. let y = has_deep c b m h x i in omega (arith, y))

pub many_false : (n : ℕ) (m : Needs) → Within false (many n) m
many_false n m breaks h = omega arith
many_false n m varargs h = omega arith
many_false n m nodes h = omega arith
many_false n m locals h = absurd h
many_false n m calls h = omega arith

pub closed_local_rest : (l : ℕ) (c : Counts) (m : Needs) → Closed a_stat (program (r.local_rest l c)) Ends Each false m
closed_local_rest l c m =
    ends a_stat (program (r.local_rest l c)) Ends Each false m (a_name ∷ []) _
    (λ us i. cm.looks (cm.expects_name (cm.thens (names_come (suc (c locals)) us (ends_comma (word_of us) i)) (cm.thens (init_comes c us i) cm.gives)))) tt
    (λ x i. let y = many_false (suc (c locals)) m x i in omega (arith, y))
