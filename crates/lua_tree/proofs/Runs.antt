-- Laws of programs, whatever they are: there is one outcome, nothing behind the next token is looked at, and where reading is
-- stuck, nothing that begins so comes to an end within the limits.
use Rattle.std.proofs.Common.{◌≤◌, ◌<◌, ◌≡◌, refl, sym, ap, ◌∙◌, subst, List, [], ◌∷◌, ◌++◌, arith, append_assoc}
use Rattle.lua_tree.specs.Tree.{Bytes}
use Rattle.lua_tree.specs.Words as w
use Rattle.lua_tree.specs.Words.{Word, Key, key, Spot, Tok, tok, word_in, spot_in, word_of, spot_of}
use Rattle.lua_tree.specs.Attributes.{Limit}
use Rattle.lua_tree.specs.Reading.{Sort, Value, Rule, Needs, Limits, Keeps, Prog, give, fail, take, look, expect, expect_name, at_last, then, free, program, Fault, unexpected, over, Answer, got, stuck, Reads, gives, fails, takes, passes, none_left, looks, expects, not_that, expects_name, no_name, is_last, not_last, thens, stops}
use Rattle.lua_tree.proofs.Comes as c
use Rattle.lua_tree.proofs.Comes.{Comes, both}

-- ---- what a program that comes to an end did first

pub record Out (s : Sort) : Type 0 where
  pub value : Value s
  pub rest : List Tok
  pub log : Needs

abbrev pub Outs : (s : Sort) → Prog s → List Tok → Out s → Type 0
Outs s p ts o = Comes s p ts o.value o.rest o.log

abbrev pub out : (s : Sort) → Value s → List Tok → Needs → Out s
out s a us l = record { value = a; rest = us; log = l }

abbrev pub Did : (s : Sort) → Prog s → List Tok → Out s → Type 0
Did s (give a) ts o = out s a ts free ≡ o
Did s fail ts o = ⊥
Did s (take n p) [] o = ⊥
Did s (take n p) (t ∷ ts) o = (l : Needs) × Comes s p ts o.value o.rest l × (both n l ≡ o.log)
Did s (look f) ts o = Comes s (f (word_of ts) (spot_of ts)) ts o.value o.rest o.log
Did s (expect k n f) ts o = (at : Spot) × (us : List Tok) × (l : Needs) × (ts ≡ tok (key k) at ∷ us) × Comes s (f at) us o.value o.rest l × (both n l ≡ o.log)
Did s (expect_name n f) ts o = (x : Bytes) × (at : Spot) × (us : List Tok) × (l : Needs) × (ts ≡ tok (w.name x) at ∷ us) × Comes s (f x at) us o.value o.rest l × (both n l ≡ o.log)
Did s (at_last a) ts o = (ts ≡ []) × (out s a [] free ≡ o)
Did s (then {q = q} r f) ts o = (a : Value q) × (us : List Tok) × (l : Needs) × (m : Needs) × Comes q (program r) ts a us l × Comes s (f a) us o.value o.rest m × (both l m ≡ o.log)

pub did : (s : Sort) (p : Prog s) (ts us : List Tok) (a : Value s) (l : Needs) → Comes s p ts a us l → Did s p ts (out s a us l)
did s p ts us a l c.gives = refl
did s p ts us a l (c.takes {l = l2} d) = (l2, d, refl)
did s p ts us a l (c.looks d) = d
did s p ts us a l (c.expects {l = l2} {at = at} {ts = ts2} d) = (at, ts2, l2, refl, d, refl)
did s p ts us a l (c.expects_name {l = l2} {x = x} {at = at} {ts = ts2} d) = (x, at, ts2, l2, refl, d, refl)
did s p ts us a l c.is_last = (refl, refl)
did s p ts us a l (c.thens {a = b} {us = vs} {l = l2} {m = m} d e) = (b, vs, l2, m, d, e, refl)

-- ---- one outcome

abbrev with_log : (s : Sort) → Needs → Out s → Out s
with_log s n o = record { value = o.value; rest = o.rest; log = both n o.log }

abbrev tail_of : List Tok → List Tok
tail_of [] = []
tail_of (t ∷ ts) = ts

abbrev name_in : Word → Bytes
name_in (w.name x) = x
name_in v = []

pub one : (s : Sort) (p : Prog s) (ts us : List Tok) (a : Value s) (l : Needs) (o : Out s) → Comes s p ts a us l → Outs s p ts o
    → out s a us l ≡ o
one s p ts us a l o c.gives e = did s p ts o.rest o.value o.log e
one s p ts us a l o (c.takes {n = n} {l = l2} {p = p2} {ts = ts2} d) e =
    let x = did s p ts o.rest o.value o.log e in
    ap (with_log s n) (one s p2 ts2 us a l2 (out s o.value o.rest x.0) d x.1) ∙ ap (λ m. out s o.value o.rest m) x.2
one s p ts us a l o (c.looks {f = f} d) e = one s (f (word_of ts) (spot_of ts)) ts us a l o d (did s p ts o.rest o.value o.log e)
one s p ts us a l o (c.expects {n = n} {l = l2} {f = f} {at = at} {ts = ts2} d) e =
    let x = did s p ts o.rest o.value o.log e in
    let y = subst (λ at. Comes s (f at) x.1 o.value o.rest x.2) (sym (ap spot_of x.3)) (x.4) in
    ap (with_log s n) (one s (f at) ts2 us a l2 (out s o.value o.rest x.2) d (subst (λ vs. Comes s (f at) vs o.value o.rest x.2) (sym (ap tail_of x.3)) y)) ∙ ap (λ m. out s o.value o.rest m) x.5
one s p ts us a l o (c.expects_name {n = n} {l = l2} {f = f} {x = z} {at = at} {ts = ts2} d) e =
    let x = did s p ts o.rest o.value o.log e in
    let y = subst (λ at. Comes s (f x.0 at) x.2 o.value o.rest x.3) (sym (ap spot_of x.4)) (x.5) in
    let v = subst (λ z. Comes s (f z at) x.2 o.value o.rest x.3) (sym (ap (λ ts. name_in (word_of ts)) x.4)) y in
    ap (with_log s n) (one s (f z at) ts2 us a l2 (out s o.value o.rest x.3) d (subst (λ vs. Comes s (f z at) vs o.value o.rest x.3) (sym (ap tail_of x.4)) v)) ∙ ap (λ m. out s o.value o.rest m) x.6
one s p ts us a l o c.is_last e = let x = did s p ts o.rest o.value o.log e in x.1
one s p ts us a l o (c.thens {q = q} {r = r} {f = f} {a = b} {us = vs} {l = l2} {m = m} d d2) e =
    let x = did s p ts o.rest o.value o.log e in
    let same = one q (program r) ts vs b l2 (out q x.0 x.1 x.2) d x.4 in
    let e2 = subst (λ i. Comes s (f i.value) i.rest o.value o.rest x.3) (sym same) x.5 in
    ap (with_log s l2) (one s (f b) vs us a m (out s o.value o.rest x.3) d2 e2) ∙ (ap (λ i. out s o.value o.rest (both i.log x.3)) same ∙ ap (λ m. out s o.value o.rest m) x.6)

-- ---- nothing behind the next token is looked at

-- both begin with the same token, or both are at an end
abbrev pub Alike : List Tok → List Tok → Type 0
Alike [] [] = Unit {0}
Alike [] (u ∷ us) = ⊥
Alike (t ∷ ts) [] = ⊥
Alike (t ∷ ts) (u ∷ us) = t ≡ u

pub alike : (ts : List Tok) → Alike ts ts
alike [] = tt
alike (t ∷ ts) = refl

pub alike_front : (pre us vs : List Tok) → Alike us vs → Alike (pre ++ us) (pre ++ vs)
alike_front [] us vs h = h
alike_front (t ∷ pre) us vs h = refl

pub alike_word : (us vs : List Tok) → Alike us vs → word_of us ≡ word_of vs
alike_word [] [] h = refl
alike_word [] (u ∷ us) h = absurd h
alike_word (t ∷ ts) [] h = absurd h
alike_word (t ∷ ts) (u ∷ us) h = ap word_in h

pub alike_spot : (us vs : List Tok) → Alike us vs → spot_of us ≡ spot_of vs
alike_spot [] [] h = refl
alike_spot [] (u ∷ us) h = absurd h
alike_spot (t ∷ ts) [] h = absurd h
alike_spot (t ∷ ts) (u ∷ us) h = ap spot_in h

-- what a program took, and that it takes it in front of anything alike
pub record Took (s : Sort) (p : Prog s) (ts us : List Tok) (a : Value s) (l : Needs) : Type 0 where
  pub pre : List Tok
  pub parts : ts ≡ pre ++ us
  pub again : (vs : List Tok) → Alike us vs → Comes s p (pre ++ vs) a vs l

looks_alike : (s : Sort) (f : Word → Spot → Prog s) (ts vs ws : List Tok) (a : Value s) (l : Needs) → Alike ts vs
    → Comes s (f (word_of ts) (spot_of ts)) vs a ws l → Comes s (look f) vs a ws l
looks_alike s f ts vs ws a l h d =
    c.looks (subst (λ v. Comes s (f v (spot_of vs)) vs a ws l) (alike_word ts vs h) (subst (λ at. Comes s (f (word_of ts) at) vs a ws l) (alike_spot ts vs h) d))

pub took : (s : Sort) (p : Prog s) (ts us : List Tok) (a : Value s) (l : Needs) → Comes s p ts a us l → Took s p ts us a l
took s p ts us a l c.gives = record { pre = []; parts = refl; again = λ vs h. c.gives }
took s p ts us a l (c.takes {l = l2} {p = p2} {t = t} {ts = ts2} d) =
    let x = took s p2 ts2 us a l2 d in record { pre = t ∷ x.pre; parts = ap (λ vs. t ∷ vs) x.parts; again = λ vs h. c.takes (x.again vs h) }
took s p ts us a l (c.looks {f = f} d) =
    let x = took s (f (word_of ts) (spot_of ts)) ts us a l d in
    record { pre = x.pre; parts = x.parts; again = λ vs h. looks_alike s f ts (x.pre ++ vs) vs a l (subst (λ ts. Alike ts (x.pre ++ vs)) (sym x.parts) (alike_front x.pre us vs h)) (x.again vs h) }
took s p ts us a l (c.expects {k = k} {l = l2} {f = f} {at = at} {ts = ts2} d) =
    let x = took s (f at) ts2 us a l2 d in record { pre = tok (key k) at ∷ x.pre; parts = ap (λ vs. tok (key k) at ∷ vs) x.parts; again = λ vs h. c.expects (x.again vs h) }
took s p ts us a l (c.expects_name {l = l2} {f = f} {x = z} {at = at} {ts = ts2} d) =
    let x = took s (f z at) ts2 us a l2 d in record { pre = tok (w.name z) at ∷ x.pre; parts = ap (λ vs. tok (w.name z) at ∷ vs) x.parts; again = λ vs h. c.expects_name (x.again vs h) }
took s p ts us a l c.is_last = record { pre = []; parts = refl; again = λ vs h. last_alike s a vs h }
  where
    last_alike : (s : Sort) (a : Value s) (vs : List Tok) → Alike [] vs → Comes s (at_last a) vs a vs free
    last_alike s a [] h = c.is_last
    last_alike s a (t ∷ vs) h = absurd h
took s p ts us a l (c.thens {q = q} {r = r} {f = f} {a = b} {us = vs} {l = l2} {m = m} d e) =
    let x = took q (program r) ts vs b l2 d in
    let y = took s (f b) vs us a m e in
    record {
      pre = x.pre ++ y.pre;
      parts = x.parts ∙ (ap (λ vs. x.pre ++ vs) y.parts ∙ sym (append_assoc x.pre y.pre us));
      again = λ ws h. subst (λ ts. Comes s (then r f) ts a ws (both l2 m)) (sym (append_assoc x.pre y.pre ws)) (c.thens (x.again (y.pre ++ ws) (subst (λ vs. Alike vs (y.pre ++ ws)) (sym y.parts) (alike_front y.pre us ws h))) (y.again ws h));
    }

-- ---- reading within limits

abbrev pub rest_of : (s : Sort) → Answer (Value s) → List Tok
rest_of s (got a us) = us
rest_of s (stuck x us) = us

-- what comes to an end keeps the limits
pub record Kept (limit : Limits) (s : Sort) (p : Prog s) (ts us : List Tok) (a : Value s) : Type 0 where
  pub log : Needs
  pub comes : Comes s p ts a us log
  pub keeps : Keeps limit log

keeps_both : (limit : Limits) (n l : Needs) → Keeps limit n → Keeps limit l → Keeps limit (both n l)
keeps_both limit n l h i = λ x. let a = h x in let b = i x in omega (arith, a, b)

-- what is told of an answer: it came to its end so; or whatever begins alike and comes to an end passes the limit, or nothing does
abbrev pub Blames : Limits → Fault → Needs → Type 0
Blames limit unexpected l = ⊥
Blames limit (over x) l = limit x < l x

abbrev pub Told : Limits → (s : Sort) → Prog s → List Tok → Answer (Value s) → Type 0
Told limit s p ts (got a us) = Kept limit s p ts us a
Told limit s p ts (stuck x us) =
    (pre : List Tok) × (ts ≡ pre ++ us) × ((vs : List Tok) → Alike us vs → (o : Out s) → Outs s p (pre ++ vs) o → Blames limit x o.log)

blames_more : (limit : Limits) (x : Fault) (l m : Needs) → ((y : Limit) → l y ≤ m y) → Blames limit x l → Blames limit x m
blames_more limit unexpected l m h b = b
blames_more limit (over x) l m h b = let i = h x in omega (arith, i, b)

left_in : (n l m : Needs) → both n l ≡ m → (y : Limit) → n y ≤ m y
left_in n l m e y = subst (λ m. n y ≤ m y) e (omega arith)

right_in : (n l m : Needs) → both n l ≡ m → (y : Limit) → l y ≤ m y
right_in n l m e y = subst (λ m. l y ≤ m y) e (omega arith)

told_take : (limit : Limits) (s : Sort) (n : Needs) (p : Prog s) (t : Tok) (ts : List Tok) (r : Answer (Value s)) → Keeps limit n
    → Told limit s p ts r → Told limit s (take n p) (t ∷ ts) r
told_take limit s n p t ts (got a us) k x = record { log = both n x.log; comes = c.takes x.comes; keeps = keeps_both limit n x.log k x.keeps }
told_take limit s n p t ts (stuck x us) k h = (
  t ∷ h.0,
  ap (λ vs. t ∷ vs) h.1,
  λ vs i o e.
      let y = did s (take n p) (t ∷ (h.0 ++ vs)) o.rest o.value o.log e in
      blames_more limit x y.0 o.log (right_in n y.0 o.log y.2) (h.2 vs i (out s o.value o.rest y.0) y.1),
)

told_passes : (limit : Limits) (s : Sort) (n : Needs) (p : Prog s) (x : Limit) (t : Tok) (ts vs : List Tok) (o : Out s)
    → limit x < n x → Alike (t ∷ ts) vs → Outs s (take n p) vs o → limit x < o.log x
told_passes limit s n p x t ts [] o h i e = absurd i
told_passes limit s n p x t ts (u ∷ vs) o h i e = let y = did s (take n p) (u ∷ vs) o.rest o.value o.log e in let z = left_in n y.0 o.log y.2 x in omega (arith, h, z)

told_none : (limit : Limits) (s : Sort) (n : Needs) (p : Prog s) (vs : List Tok) (o : Out s) → Alike [] vs
    → Outs s (take n p) vs o → ⊥
told_none limit s n p [] o i e = did s (take n p) [] o.rest o.value o.log e
told_none limit s n p (u ∷ vs) o i e = i

told_look : (limit : Limits) (s : Sort) (f : Word → Spot → Prog s) (ts : List Tok) (r : Answer (Value s))
    → Told limit s (f (word_of ts) (spot_of ts)) ts r → Told limit s (look f) ts r
told_look limit s f ts (got a us) x = record { log = x.log; comes = c.looks x.comes; keeps = x.keeps }
told_look limit s f ts (stuck x us) h = (
  h.0,
  h.1,
  λ vs i o e.
      let like : Alike ts (h.0 ++ vs) = subst (λ ts. Alike ts (h.0 ++ vs)) (sym h.1) (alike_front h.0 us vs i) in
      let y = did s (look f) (h.0 ++ vs) o.rest o.value o.log e in
      h.2 vs i o (subst (λ v. Comes s (f v (spot_of ts)) (h.0 ++ vs) o.value o.rest o.log) (sym (alike_word ts (h.0 ++ vs) like)) (subst (λ at. Comes s (f (word_of (h.0 ++ vs)) at) (h.0 ++ vs) o.value o.rest o.log) (sym (alike_spot ts (h.0 ++ vs) like)) y)),
)

-- a token that had to stand there, taken
taken_key : (s : Sort) (k : Key) (n : Needs) (f : Spot → Prog s) (at : Spot) (ts : List Tok) (o : Out s) → at ≡ spot_of ts
    → Outs s (expect k n f) ts o → Outs s (take n (f at)) ts o
taken_key s k n f at ts o i e =
    let y = did s (expect k n f) ts o.rest o.value o.log e in
    let j : at ≡ y.0 = i ∙ ap spot_of y.3 in
    subst (λ ts. Outs s (take n (f at)) ts o) (sym y.3) (subst (λ l. Comes s (take n (f at)) (tok (key k) y.0 ∷ y.1) o.value o.rest l) y.5 (c.takes (subst (λ at. Comes s (f at) y.1 o.value o.rest y.2) (sym j) y.4)))

told_key : (limit : Limits) (s : Sort) (k : Key) (n : Needs) (f : Spot → Prog s) (at : Spot) (ts : List Tok) (r : Answer (Value s))
    → Told limit s (take n (f at)) (tok (key k) at ∷ ts) r → Told limit s (expect k n f) (tok (key k) at ∷ ts) r
told_key limit s k n f at ts (got a us) x =
    let y = did s (take n (f at)) (tok (key k) at ∷ ts) us a x.log x.comes in
    record { log = x.log; comes = subst (λ l. Comes s (expect k n f) (tok (key k) at ∷ ts) a us l) y.2 (c.expects y.1); keeps = x.keeps }
told_key limit s k n f at ts (stuck x us) h = (
  h.0,
  h.1,
  λ vs i o e.
      let like : Alike (tok (key k) at ∷ ts) (h.0 ++ vs) = subst (λ ts. Alike ts (h.0 ++ vs)) (sym h.1) (alike_front h.0 us vs i) in
      h.2 vs i o (taken_key s k n f at (h.0 ++ vs) o (alike_spot (tok (key k) at ∷ ts) (h.0 ++ vs) like) e),
)

told_not_that : (limit : Limits) (s : Sort) (k : Key) (n : Needs) (f : Spot → Prog s) (ts vs : List Tok) (o : Out s)
    → (word_of ts ≡ key k → ⊥) → Alike ts vs → Outs s (expect k n f) vs o → ⊥
told_not_that limit s k n f ts vs o h i e = let y = did s (expect k n f) vs o.rest o.value o.log e in h (alike_word ts vs i ∙ ap word_of y.3)

taken_name : (s : Sort) (n : Needs) (f : Bytes → Spot → Prog s) (x : Bytes) (at : Spot) (ts : List Tok) (o : Out s)
    → w.name x ≡ word_of ts → at ≡ spot_of ts → Outs s (expect_name n f) ts o → Outs s (take n (f x at)) ts o
taken_name s n f x at ts o g i e =
    let y = did s (expect_name n f) ts o.rest o.value o.log e in
    let j : at ≡ y.1 = i ∙ ap spot_of y.4 in
    let m : x ≡ y.0 = ap name_in (g ∙ ap word_of y.4) in
    subst (λ ts. Outs s (take n (f x at)) ts o) (sym y.4)
    (subst (λ l. Comes s (take n (f x at)) (tok (w.name y.0) y.1 ∷ y.2) o.value o.rest l) y.6 (c.takes (subst (λ x. Comes s (f x at) y.2 o.value o.rest y.3) (sym m) (subst (λ at. Comes s (f y.0 at) y.2 o.value o.rest y.3) (sym j) y.5))))

told_name : (limit : Limits) (s : Sort) (n : Needs) (f : Bytes → Spot → Prog s) (z : Bytes) (at : Spot) (ts : List Tok) (r : Answer (Value s))
    → Told limit s (take n (f z at)) (tok (w.name z) at ∷ ts) r → Told limit s (expect_name n f) (tok (w.name z) at ∷ ts) r
told_name limit s n f z at ts (got a us) x =
    let y = did s (take n (f z at)) (tok (w.name z) at ∷ ts) us a x.log x.comes in
    record { log = x.log; comes = subst (λ l. Comes s (expect_name n f) (tok (w.name z) at ∷ ts) a us l) y.2 (c.expects_name y.1); keeps = x.keeps }
told_name limit s n f z at ts (stuck x us) h = (
  h.0,
  h.1,
  λ vs i o e.
      let like : Alike (tok (w.name z) at ∷ ts) (h.0 ++ vs) = subst (λ ts. Alike ts (h.0 ++ vs)) (sym h.1) (alike_front h.0 us vs i) in
      h.2 vs i o (taken_name s n f z at (h.0 ++ vs) o (alike_word (tok (w.name z) at ∷ ts) (h.0 ++ vs) like) (alike_spot (tok (w.name z) at ∷ ts) (h.0 ++ vs) like) e),
)

told_no_name : (limit : Limits) (s : Sort) (n : Needs) (f : Bytes → Spot → Prog s) (ts vs : List Tok) (o : Out s)
    → ((x : Bytes) → word_of ts ≡ w.name x → ⊥) → Alike ts vs → Outs s (expect_name n f) vs o → ⊥
told_no_name limit s n f ts vs o h i e = let y = did s (expect_name n f) vs o.rest o.value o.log e in h y.0 (alike_word ts vs i ∙ ap word_of y.4)

told_not_last : (s : Sort) (a : Value s) (t : Tok) (ts vs : List Tok) (o : Out s) → Alike (t ∷ ts) vs → Outs s (at_last a) vs o
    → ⊥
told_not_last s a t ts vs o i e = let y = did s (at_last a) vs o.rest o.value o.log e in subst (λ vs. Alike (t ∷ ts) vs) y.0 i

told_then : (limit : Limits) (s q : Sort) (r : Rule q) (f : Value q → Prog s) (a : Value q) (ts us : List Tok) (b : Answer (Value s))
    → Kept limit q (program r) ts us a → Told limit s (f a) us b → Told limit s (then r f) ts b
told_then limit s q r f a ts us (got b vs) x y = record { log = both x.log y.log; comes = c.thens x.comes y.comes; keeps = keeps_both limit x.log y.log x.keeps y.keeps }
told_then limit s q r f a ts us (stuck z vs) x h =
    let t = took q (program r) ts us a x.log x.comes in (
      t.pre ++ h.0,
      t.parts ∙ (ap (λ vs. t.pre ++ vs) h.1 ∙ sym (append_assoc t.pre h.0 vs)),
      λ ws i o e.
          let like : Alike us (h.0 ++ ws) = subst (λ us. Alike us (h.0 ++ ws)) (sym h.1) (alike_front h.0 vs ws i) in
          let y = did s (then r f) ((t.pre ++ h.0) ++ ws) o.rest o.value o.log e in
          let d = subst (λ ts. Comes q (program r) ts y.0 y.1 y.2) (append_assoc t.pre h.0 ws) y.4 in
          let same = one q (program r) (t.pre ++ (h.0 ++ ws)) (h.0 ++ ws) a x.log (out q y.0 y.1 y.2) (t.again (h.0 ++ ws) like) d in
          let e2 = subst (λ i. Comes s (f i.value) i.rest o.value o.rest y.3) (sym same) y.5 in
          blames_more limit z y.3 o.log (right_in y.2 y.3 o.log y.6) (h.2 ws i (out s o.value o.rest y.3) e2),
    )

told_stop : (limit : Limits) (s q : Sort) (r : Rule q) (f : Value q → Prog s) (x : Fault) (ts us : List Tok)
    → Told limit q (program r) ts (stuck x us) → Told limit s (then r f) ts (stuck x us)
told_stop limit s q r f x ts us h = (
  h.0,
  h.1,
  λ vs i o e.
      let y = did s (then r f) (h.0 ++ vs) o.rest o.value o.log e in
      blames_more limit x y.2 o.log (left_in y.2 y.3 o.log y.6) (h.2 vs i (out q y.0 y.1 y.2) y.4),
)

pub told : (limit : Limits) (s : Sort) (p : Prog s) (ts : List Tok) (r : Answer (Value s)) → Reads limit s p ts r
    → Told limit s p ts r
told limit s p ts r gives = record { log = free; comes = c.gives; keeps = λ x. omega arith }
told limit s p ts r fails = ([], refl, λ vs h o e. did s fail vs o.rest o.value o.log e)
told limit s p ts r (takes {n = n} {p = p2} {t = t} {ts = ts2} k d) = told_take limit s n p2 t ts2 r k (told limit s p2 ts2 r d)
told limit s p ts r (passes {n = n} {p = p2} {x = x} {t = t} {ts = ts2} h) = ([], refl, λ vs i o e. told_passes limit s n p2 x t ts2 vs o h.0 i e)
told limit s p ts r (none_left {n = n} {p = p2}) = ([], refl, λ vs i o e. told_none limit s n p2 vs o i e)
told limit s p ts r (looks {f = f} d) = told_look limit s f ts r (told limit s (f (word_of ts) (spot_of ts)) ts r d)
told limit s p ts r (expects {k = k} {n = n} {f = f} {at = at} {ts = ts2} d) = told_key limit s k n f at ts2 r (told limit s (take n (f at)) ts r d)
told limit s p ts r (not_that {k = k} {n = n} {f = f} h) = ([], refl, λ vs i o e. told_not_that limit s k n f ts vs o h i e)
told limit s p ts r (expects_name {n = n} {f = f} {x = x} {at = at} {ts = ts2} d) = told_name limit s n f x at ts2 r (told limit s (take n (f x at)) ts r d)
told limit s p ts r (no_name {n = n} {f = f} h) = ([], refl, λ vs i o e. told_no_name limit s n f ts vs o h i e)
told limit s p ts r is_last = record { log = free; comes = c.is_last; keeps = λ x. omega arith }
told limit s p ts r (not_last {a = a} {t = t} {ts = ts2}) = ([], refl, λ vs i o e. told_not_last s a t ts2 vs o i e)
told limit s p ts r (thens {q = q} {r = r2} {f = f} {a = a} {us = us} d e) = told_then limit s q r2 f a ts us r (told limit q (program r2) ts (got a us) d) (told limit s (f a) us r e)
told limit s p ts r (stops {q = q} {r = r2} {f = f} {x = x} {us = us} d) = told_stop limit s q r2 f x ts us (told limit q (program r2) ts (stuck x us) d)
