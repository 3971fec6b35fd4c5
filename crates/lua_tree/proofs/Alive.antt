-- What is to be shown of each rule, so that wherever a program stands, some tokens bring it to an end and make nothing more
-- unavoidable than what it has taken.
use Rattle.std.proofs.Common.{suc, ◌≤◌, ◌≡◌, refl, sym, subst, max, List, [], ◌∷◌, ◌++◌, Bool, true, false, arith, append_assoc}
use Rattle.std.proofs.lemmas.List.{append_cancel_right}
use Rattle.lua_tree.specs.Tree.{Bytes}
use Rattle.lua_tree.specs.Words as w
use Rattle.lua_tree.specs.Words.{Word, Key, key, Spot, Tok, tok, nowhere, word_in, word_of, spot_of}
use Rattle.lua_tree.specs.Grammar.{unary_level, NotOpen}
use Rattle.lua_tree.specs.Attributes.{Limit, nodes, locals, Counts, node, most, most_exprs}
use Rattle.lua_tree.specs.Reading as r
use Rattle.lua_tree.specs.Reading.{Sort, Value, Rule, Needs, Prog, give, fail, take, look, expect, expect_name, at_last, then, free, opening, held, shape, unfinished, program}
use Rattle.lua_tree.proofs.Comes as c
use Rattle.lua_tree.proofs.Comes.{Comes, both}
use Rattle.lua_tree.proofs.Follow.{Stops, NotComma, EndsBlock}
use Rattle.lua_tree.proofs.Runs.{Alike, took}
use Rattle.lua_tree.proofs.Posts.{Post, AllSound}
use Rattle.lua_tree.proofs.Holds.{holds}
use Rattle.lua_tree.proofs.Partly.{Partly, now, later, looking, key_now, key_later, name_now, name_later, inside, behind, front_word, front_spot}

-- ---- what is counted, behind a name and behind another token

-- locals are counted behind a name alone: behind a `local` one more is to come
abbrev pub Counted : Bool → Limit → Type 0
Counted false locals = ⊥
Counted b x = Unit {0}

abbrev pub is_name : Word → Bool
is_name (w.name x) = true
is_name v = false

abbrev pub Within : Bool → Needs → Needs → Type 0
Within b l m = (x : Limit) → Counted b x → l x ≤ m x

abbrev pub Up : Needs → Needs → Type 0
Up m n = (x : Limit) → m x ≤ n x

-- ---- what a rule is given and gives

-- what stands behind the tokens that end a rule
abbrev pub BehindExp : List Tok → Type 0
BehindExp us = Stops (word_of us) × NotOpen (word_of us)

abbrev pub BehindList : List Tok → Type 0
BehindList us = Stops (word_of us) × NotOpen (word_of us) × NotComma (word_of us)

abbrev pub IsAssign : Word → Type 0
IsAssign (key w.assign) = Unit {0}
IsAssign v = ⊥

abbrev pub IsOpen : Word → Type 0
IsOpen (key w.open_paren) = Unit {0}
IsOpen v = ⊥

abbrev pub Behind : {s : Sort} → Rule s → List Tok → Type 0
Behind (r.expr p c) us = BehindExp us
Behind (r.more p c a) us = BehindExp us
Behind (r.first c) us = BehindExp us
Behind (r.prefix k c) us = BehindExp us
Behind (r.suffixes k c a) us = BehindExp us
Behind (r.exprs c) us = BehindList us
Behind (r.more_exprs c) us = BehindList us
Behind (r.more_names n) us = NotComma (word_of us)
Behind r.chunk us = us ≡ []
Behind (r.block c) us = EndsBlock (word_of us)
Behind r.semi us = EndsBlock (word_of us)
Behind (r.stat c) us = EndsBlock (word_of us)
Behind (r.prefix_stat l c e) us = EndsBlock (word_of us)
Behind (r.for_rest l x c) us = EndsBlock (word_of us)
Behind (r.num_for_rest l x a b c) us = EndsBlock (word_of us)
Behind (r.local_rest l c) us = EndsBlock (word_of us)
Behind (r.last c) us = EndsBlock (word_of us)
Behind (r.return_rest l c) us = EndsBlock (word_of us)
Behind (r.init c) us = EndsBlock (word_of us)
Behind (r.more_targets c) us = IsAssign (word_of us)
Behind (r.func_name c a) us = IsOpen (word_of us)
Behind _ us = Unit {0}

-- something that stands there
abbrev pub some_behind : {s : Sort} → Rule s → List Tok
some_behind (r.more_targets c) = tok (key w.assign) nowhere ∷ []
some_behind (r.func_name c a) = tok (key w.open_paren) nowhere ∷ []
some_behind _ = []

-- what the value is then: a prefix expression has the suffix that it needs
abbrev pub Good : {s : Sort} → Rule s → Value s → Type 0
Good (r.prefix k c) e = unfinished k (shape e) ≡ false
Good (r.suffixes k c a) e = unfinished k (shape e) ≡ false
Good _ v = Unit {0}

-- an expression may stand here
abbrev pub Has : Counts → Needs → Type 0
Has c m = (x : Limit) → node x (c x) ≤ m x

-- what was unavoidable before the rule
abbrev pub Base : {s : Sort} → Rule s → Needs → Type 0
Base (r.more_exprs c) m = Has c m
Base (r.name_field l x c) m = Has c m
Base (r.more_arms c) m = Has c m
Base (r.more_targets c) m = Has c m
Base (r.for_rest l x c) m = Has c m
Base (r.num_for_rest l x a b c) m = Has c m
Base (r.prefix_stat l c e) m = Has c m
Base _ m = Unit {0}

-- what its value tells of what it made unavoidable
abbrev pub Cost : {s : Sort} → Rule s → Value s → Needs → Type 0
Cost (r.expr p c) e l = p ≤ unary_level → (x : Limit) → l x ≡ most x (c x) e
Cost (r.prefix k c) e l = (x : Limit) → l x ≡ most x (held (unfinished k (shape e)) c x) e
Cost (r.args n c) v l = suc (c nodes) ≤ n → (x : Limit) → l x ≡ max (opening n v.0 x) (most_exprs x (c x) v.1)
Cost _ v l = Unit {0}

-- ---- ends

-- tokens that bring a program to its end, in front of all that may stand behind it
pub record Closed (s : Sort) (p : Prog s) (F : List Tok → Type 0) (G : Value s → Type 0) (b : Bool) (m : Needs) : Type 0 where
  pub tokens : List Tok
  pub value : Value s
  pub log : Needs
  pub comes : (us : List Tok) → F us → Comes s p (tokens ++ us) value us log
  pub good : G value
  pub within : Within b log m

-- ... behind a rule
pub record Shut (s : Sort) (p : Prog s) (E F : List Tok → Type 0) (G : Value s → Type 0) (b : Bool) (m : Needs) : Type 0 where
  pub closed : Closed s p F G b m
  pub stands : (us : List Tok) → F us → E (closed.tokens ++ us)

-- what is to be shown of a program: behind each token that it takes it can be closed
abbrev pub alive : (s : Sort) → Prog s → Bool → (List Tok → Type 0) → (Value s → Type 0) → Needs → Type 0
alive s (give a) b F G m = Unit {0}
alive s fail b F G m = Unit {0}
alive s (take n p) b F G m = Closed s p F G b (both m n) × ((d : Bool) → alive s p d F G (both m n))
alive s (look f) b F G m = (v : Word) (at : Spot) → alive s (f v at) (is_name v) F G m
alive s (expect k n f) b F G m = (at : Spot) → Closed s (f at) F G false (both m n) × ((d : Bool) → alive s (f at) d F G (both m n))
alive s (expect_name n f) b F G m = (x : Bytes) (at : Spot) → Closed s (f x at) F G true (both m n) × ((d : Bool) → alive s (f x at) d F G (both m n))
alive s (at_last a) b F G m = Unit {0}
alive s (then {q = q} r f) b F G m =
    Base r m
    × ((d : Bool) (n : Needs) (a : Value q) (l : Needs) → Up m n → Cost r a l → Within d l n → Good r a → Shut s (f a) (Behind r) F G d n)
    × ((a : Value q) (l : Needs) (d : Bool) → Cost r a l → alive s (f a) d F G (both m l))

abbrev pub AllAlive : Type 0
AllAlive = (s : Sort) (r : Rule s) (b : Bool) (m : Needs) → Base r m → alive s (program r) b (Behind r) (Good r) m

-- ---- wherever a program stands, it comes to an end so

pub record Done (s : Sort) (p : Prog s) (pre : List Tok) (t : Tok) (F : List Tok → Type 0) (G : Value s → Type 0) (m l : Needs) : Type 0 where
  pub tokens : List Tok
  pub value : Value s
  pub log : Needs
  pub comes : (us : List Tok) → F us → Comes s p (pre ++ t ∷ (tokens ++ us)) value us log
  pub good : G value
  pub within : Within (is_name (word_in t)) log (both m l)

cost_of : (s : Sort) (r : Rule s) (ts us : List Tok) (a : Value s) (l : Needs) → Post s r ts a us l → Cost r a l
cost_of s (r.expr p c) ts us a l h = λ i. let x = h i in x.2
cost_of s (r.prefix k c) ts us a l h = h.2
cost_of s (r.args n c) ts us a l h = h.1
cost_of s r ts us a l h = tt

behind_some : {s : Sort} (r : Rule s) → Behind r (some_behind r)
behind_some (r.expr p c) = (tt, tt)
behind_some (r.more p c a) = (tt, tt)
behind_some (r.first c) = (tt, tt)
behind_some (r.prefix k c) = (tt, tt)
behind_some (r.suffixes k c a) = (tt, tt)
behind_some (r.exprs c) = (tt, tt, tt)
behind_some (r.more_exprs c) = (tt, tt, tt)
behind_some r.chunk = refl
behind_some _ = tt

done_now : (s : Sort) (p : Prog s) (t : Tok) (n : Needs) (b : Bool) (F : List Tok → Type 0) (G : Value s → Type 0) (m : Needs)
    → b ≡ is_name (word_in t) → Closed s p F G b (both m n) → Done s (take n p) [] t F G m n
done_now s p t n b F G m e k =
    record {
      tokens = k.tokens;
      value = k.value;
      log = both n k.log;
      comes = λ us f. c.takes (k.comes us f);
      good = k.good;
      within = λ x h. let y = k.within x (subst (λ d. Counted d x) (sym e) h) in omega (arith, y);
    }

done_key : (s : Sort) (k : Key) (n : Needs) (f : Spot → Prog s) (at : Spot) (F : List Tok → Type 0) (G : Value s → Type 0) (m : Needs)
    → Closed s (f at) F G false (both m n) → Done s (expect k n f) [] (tok (key k) at) F G m n
done_key s k n f at F G m d =
    record { tokens = d.tokens; value = d.value; log = both n d.log; comes = λ us h. c.expects (d.comes us h); good = d.good; within = λ x h. let y = d.within x h in omega (arith, y) }

done_name : (s : Sort) (n : Needs) (f : Bytes → Spot → Prog s) (b : Bytes) (at : Spot) (F : List Tok → Type 0) (G : Value s → Type 0) (m : Needs)
    → Closed s (f b at) F G true (both m n) → Done s (expect_name n f) [] (tok (w.name b) at) F G m n
done_name s n f b at F G m d =
    record { tokens = d.tokens; value = d.value; log = both n d.log; comes = λ us h. c.expects_name (d.comes us h); good = d.good; within = λ x h. let y = d.within x h in omega (arith, y) }

done_look : (s : Sort) (f : Word → Spot → Prog s) (pre : List Tok) (t : Tok) (l : Needs) (F : List Tok → Type 0) (G : Value s → Type 0) (m : Needs)
    → Done s (f (word_of (pre ++ t ∷ [])) (spot_of (pre ++ t ∷ []))) pre t F G m l → Done s (look f) pre t F G m l
done_look s f pre t l F G m d =
    record {
      tokens = d.tokens;
      value = d.value;
      log = d.log;
      good = d.good;
      within = d.within;
      comes = λ us h. c.looks (subst (λ v. Comes s (f v (spot_of (pre ++ t ∷ (d.tokens ++ us)))) (pre ++ t ∷ (d.tokens ++ us)) d.value us d.log) (sym (front_word pre t (d.tokens ++ us)))
          (subst (λ at. Comes s (f (word_of (pre ++ t ∷ [])) at) (pre ++ t ∷ (d.tokens ++ us)) d.value us d.log) (sym (front_spot pre t (d.tokens ++ us))) (d.comes us h)));
    }

done_inside : (s q : Sort) (r : Rule q) (f : Value q → Prog s) (pre : List Tok) (t : Tok) (l : Needs) (F : List Tok → Type 0) (G : Value s → Type 0) (m : Needs)
    → (d : Done q (program r) pre t (Behind r) (Good r) m l) → Shut s (f d.value) (Behind r) F G (is_name (word_in t)) (both m l) → Done s (then r f) pre t F G m l
done_inside s q r f pre t l F G m d k =
    record {
      tokens = d.tokens ++ k.closed.tokens;
      value = k.closed.value;
      log = both d.log k.closed.log;
      good = k.closed.good;
      within = λ x h. let y = d.within x h in let z = k.closed.within x h in omega (arith, y, z);
      comes = λ us h. subst (λ ts. Comes s (then r f) (pre ++ t ∷ ts) k.closed.value us (both d.log k.closed.log)) (sym (append_assoc d.tokens k.closed.tokens us))
          (c.thens (d.comes (k.closed.tokens ++ us) (k.stands us h)) (k.closed.comes us h));
    }

back : (post : List Tok) (t : Tok) (vs : List Tok) → Alike (post ++ t ∷ []) (post ++ t ∷ vs)
back [] t vs = refl
back (u ∷ post) t vs = refl

done_behind : (s q : Sort) (r : Rule q) (f : Value q → Prog s) (a : Value q) (pre post : List Tok) (t : Tok) (l n : Needs) (F : List Tok → Type 0) (G : Value s → Type 0) (m : Needs)
    → Comes q (program r) (pre ++ (post ++ t ∷ [])) a (post ++ t ∷ []) l → Done s (f a) post t F G (both m l) n → Done s (then r f) (pre ++ post) t F G m (both l n)
done_behind s q r f a pre post t l n F G m d k =
    record {
      tokens = k.tokens;
      value = k.value;
      log = both l k.log;
      good = k.good;
      within = λ x h. let y = k.within x h in omega (arith, y);
      comes = λ us h. subst (λ ts. Comes s (then r f) ts k.value us (both l k.log)) (sym (append_assoc pre post (t ∷ (k.tokens ++ us)))) (c.thens (again (k.tokens ++ us)) (k.comes us h));
    }
  where
    again : (vs : List Tok) → Comes q (program r) (pre ++ (post ++ t ∷ vs)) a (post ++ t ∷ vs) l
    again vs =
        let x = took q (program r) (pre ++ (post ++ t ∷ [])) (post ++ t ∷ []) a l d in
        subst (λ ps. Comes q (program r) (ps ++ (post ++ t ∷ vs)) a (post ++ t ∷ vs) l) (sym (append_cancel_right pre x.pre (post ++ t ∷ []) x.parts)) (x.again (post ++ t ∷ vs) (back post t vs))

pub done : AllAlive → AllSound → (s : Sort) (p : Prog s) (pre : List Tok) (t : Tok) (l : Needs) → Partly s p pre t l
    → (b : Bool) (F : List Tok → Type 0) (G : Value s → Type 0) (m : Needs) → b ≡ is_name (word_of (pre ++ t ∷ [])) → alive s p b F G m → Done s p pre t F G m l
done al so s p pre t l (now {n = n} {p = q}) b F G m e h = done_now s q t n b F G m e h.0
done al so s p pre t l (later {n = n} {l = l2} {p = q} {u = u} {pre = pre2} d) b F G m e h =
    let k = done al so s q pre2 t l2 d (is_name (word_of (pre2 ++ t ∷ []))) F G (both m n) refl (h.1 (is_name (word_of (pre2 ++ t ∷ [])))) in
    record { tokens = k.tokens; value = k.value; log = both n k.log; comes = λ us f. c.takes (k.comes us f); good = k.good; within = λ x i. let y = k.within x i in omega (arith, y) }
done al so s p pre t l (looking {f = f} d) b F G m e h =
    done_look s f pre t l F G m (done al so s (f (word_of (pre ++ t ∷ [])) (spot_of (pre ++ t ∷ []))) pre t l d (is_name (word_of (pre ++ t ∷ []))) F G m refl (h (word_of (pre ++ t ∷ [])) (spot_of (pre ++ t ∷ []))))
done al so s p pre t l (key_now {k = k} {n = n} {f = f} {at = at}) b F G m e h = let x = h at in done_key s k n f at F G m x.0
done al so s p pre t l (key_later {k = k} {n = n} {l = l2} {f = f} {at = at} {pre = pre2} d) b F G m e h =
    let x = h at in
    let z = done al so s (f at) pre2 t l2 d (is_name (word_of (pre2 ++ t ∷ []))) F G (both m n) refl (x.1 (is_name (word_of (pre2 ++ t ∷ [])))) in
    record { tokens = z.tokens; value = z.value; log = both n z.log; comes = λ us f. c.expects (z.comes us f); good = z.good; within = λ x i. let y = z.within x i in omega (arith, y) }
done al so s p pre t l (name_now {n = n} {f = f} {x = b2} {at = at}) b F G m e h = let x = h b2 at in done_name s n f b2 at F G m x.0
done al so s p pre t l (name_later {n = n} {l = l2} {f = f} {x = b2} {at = at} {pre = pre2} d) b F G m e h =
    let x = h b2 at in
    let z = done al so s (f b2 at) pre2 t l2 d (is_name (word_of (pre2 ++ t ∷ []))) F G (both m n) refl (x.1 (is_name (word_of (pre2 ++ t ∷ [])))) in
    record { tokens = z.tokens; value = z.value; log = both n z.log; comes = λ us f. c.expects_name (z.comes us f); good = z.good; within = λ x i. let y = z.within x i in omega (arith, y) }
done al so s p pre t l (inside {q = q} {r = rule} {f = f} d) b F G m e h =
    let k = done al so q (program rule) pre t l d b (Behind rule) (Good rule) m e (al q rule b m h.0) in
    let us = some_behind rule in
    let post = holds so q (program rule) (pre ++ t ∷ (k.tokens ++ us)) us k.value k.log (Post q rule (pre ++ t ∷ (k.tokens ++ us))) (k.comes us (behind_some rule)) (so q rule (pre ++ t ∷ (k.tokens ++ us))) in
    let cost = cost_of q rule (pre ++ t ∷ (k.tokens ++ us)) us k.value k.log post in
    done_inside s q rule f pre t l F G m k (h.1 (is_name (word_in t)) (both m l) k.value k.log (λ x. omega arith) cost k.within k.good)
done al so s p pre t l (behind {q = q} {r = rule} {f = f} {a = a} pre2 post {l = l2} {m = n} d d2) b F G m e h =
    let us = post ++ t ∷ [] in
    let known = holds so q (program rule) (pre2 ++ us) us a l2 (Post q rule (pre2 ++ us)) d (so q rule (pre2 ++ us)) in
    let cost = cost_of q rule (pre2 ++ us) us a l2 known in
    done_behind s q rule f a pre2 post t l2 n F G m d
    (done al so s (f a) post t n d2 (is_name (word_of (post ++ t ∷ []))) F G (both m l2) refl (h.2 a l2 (is_name (word_of (post ++ t ∷ []))) cost))
