-- A program that has taken some tokens and hasn't come to an end.
use Rattle.std.proofs.Common.{◌⊎◌, inl, inr, ◌≤◌, ◌<◌, ◌≡◌, refl, sym, ap, ◌∙◌, subst, List, [], ◌∷◌, ◌++◌, arith, append_assoc}
use Rattle.std.proofs.lemmas.List.{append_cancel_right}
use Rattle.lua_tree.specs.Tree.{Bytes}
use Rattle.lua_tree.specs.Words as w
use Rattle.lua_tree.specs.Words.{Word, Key, key, Spot, Tok, tok, word_in, word_of, spot_of}
use Rattle.lua_tree.specs.Attributes.{Limit}
use Rattle.lua_tree.specs.Reading as r
use Rattle.lua_tree.specs.Reading.{Sort, Value, Rule, Needs, Limits, Keeps, Passes, Prog, give, fail, take, look, expect, expect_name, at_last, then, free, program, Fault, unexpected, over, fault_number, Answer, got, stuck, Reads}
use Rattle.lua_tree.proofs.Comes.{Comes, both}
use Rattle.lua_tree.proofs.Runs.{Alike, Took, took, Kept, told, rest_of}

-- The program takes these tokens and then this one, whatever follows; they make so much unavoidable, that one's needs
-- included.
pub data Partly : (s : Sort) → Prog s → List Tok → Tok → Needs → Type 0 where
  now : {s : Sort} {n : Needs} {p : Prog s} {t : Tok} → Partly s (take n p) [] t n
  later : {s : Sort} {n l : Needs} {p : Prog s} {u t : Tok} {pre : List Tok} → Partly s p pre t l
      → Partly s (take n p) (u ∷ pre) t (both n l)
  looking : {s : Sort} {l : Needs} {f : Word → Spot → Prog s} {t : Tok} {pre : List Tok}
      → Partly s (f (word_of (pre ++ t ∷ [])) (spot_of (pre ++ t ∷ []))) pre t l → Partly s (look f) pre t l
  key_now : {s : Sort} {k : Key} {n : Needs} {f : Spot → Prog s} {at : Spot} → Partly s (expect k n f) [] (tok (key k) at) n
  key_later : {s : Sort} {k : Key} {n l : Needs} {f : Spot → Prog s} {at : Spot} {t : Tok} {pre : List Tok}
      → Partly s (f at) pre t l → Partly s (expect k n f) (tok (key k) at ∷ pre) t (both n l)
  name_now : {s : Sort} {n : Needs} {f : Bytes → Spot → Prog s} {x : Bytes} {at : Spot}
      → Partly s (expect_name n f) [] (tok (w.name x) at) n
  name_later : {s : Sort} {n l : Needs} {f : Bytes → Spot → Prog s} {x : Bytes} {at : Spot} {t : Tok} {pre : List Tok}
      → Partly s (f x at) pre t l
      → Partly s (expect_name n f) (tok (w.name x) at ∷ pre) t (both n l)
  inside : {s q : Sort} {r : Rule q} {f : Value q → Prog s} {t : Tok} {pre : List Tok} {l : Needs} → Partly q (program r) pre t l
      → Partly s (then r f) pre t l
  behind : {s q : Sort} {r : Rule q} {f : Value q → Prog s} {a : Value q} {t : Tok} (pre post : List Tok) {l m : Needs}
      → Comes q (program r) (pre ++ (post ++ t ∷ [])) a (post ++ t ∷ []) l → Partly s (f a) post t m → Partly s (then r f) (pre ++ post) t (both l m)

-- a token is among those that were taken: the program was so far when it had taken it, within the limits
pub record Taken (limit : Limits) (s : Sort) (p : Prog s) (pre : List Tok) (t : Tok) : Type 0 where
  pub log : Needs
  pub partly : Partly s p pre t log
  pub keeps : Keeps limit log

-- what was taken, each token of it within the limits
pub record Walked (limit : Limits) (s : Sort) (p : Prog s) (ts us : List Tok) : Type 0 where
  pub taken : List Tok
  pub parts : ts ≡ taken ++ us
  pub each : (pre : List Tok) (t : Tok) (more : List Tok) → taken ≡ pre ++ t ∷ more → Taken limit s p pre t

-- ---- lists

abbrev head_or : Tok → List Tok → Tok
head_or t [] = t
head_or t (u ∷ ts) = u

abbrev tail_of : List Tok → List Tok
tail_of [] = []
tail_of (t ∷ ts) = ts

pub empty_split : (pre : List Tok) (t : Tok) (more : List Tok) → [] ≡ pre ++ t ∷ more → ⊥
empty_split [] t more h = grind (arith, h)
empty_split (u ∷ pre) t more h = grind (arith, h)

-- where a token of two lists stands: in the first one or in the second one
abbrev pub Stands : List Tok → List Tok → List Tok → Tok → List Tok → Type 0
Stands xs ys pre t more = ((m : List Tok) × (xs ≡ pre ++ t ∷ m)) ⊎ ((post : List Tok) × (pre ≡ xs ++ post) × (ys ≡ post ++ t ∷ more))

stands_more : (x : Tok) (xs ys pre : List Tok) (t : Tok) (more : List Tok) → Stands xs ys pre t more
    → Stands (x ∷ xs) ys (x ∷ pre) t more
stands_more x xs ys pre t more (inl h) = inl (h.0, ap (λ vs. x ∷ vs) h.1)
stands_more x xs ys pre t more (inr h) = inr (h.0, ap (λ vs. x ∷ vs) h.1, h.2)

pub stands : (xs ys pre : List Tok) (t : Tok) (more : List Tok) → xs ++ ys ≡ pre ++ t ∷ more → Stands xs ys pre t more
stands [] ys pre t more h = inr (pre, refl, h)
stands (x ∷ xs) ys [] t more h = inl (xs, ap (λ u. u ∷ xs) (ap (head_or x) h))
stands (x ∷ xs) ys (u ∷ pre) t more h =
    subst (λ v. Stands (x ∷ xs) ys (v ∷ pre) t more) (ap (head_or x) h) (stands_more x xs ys pre t more (stands xs ys pre t more (ap tail_of h)))

pub front_word : (pre : List Tok) (t : Tok) (more : List Tok) → word_of (pre ++ t ∷ more) ≡ word_of (pre ++ t ∷ [])
front_word [] t more = refl
front_word (u ∷ pre) t more = refl

pub front_spot : (pre : List Tok) (t : Tok) (more : List Tok) → spot_of (pre ++ t ∷ more) ≡ spot_of (pre ++ t ∷ [])
front_spot [] t more = refl
front_spot (u ∷ pre) t more = refl

pub front_alike : (post : List Tok) (t : Tok) (more : List Tok) → Alike (post ++ t ∷ more) (post ++ t ∷ [])
front_alike [] t more = refl
front_alike (u ∷ post) t more = refl

-- ---- what reading has taken

nothing : (limit : Limits) (s : Sort) (p : Prog s) (ts : List Tok) → Walked limit s p ts ts
nothing limit s p ts = record { taken = []; parts = refl; each = λ pre t more h. absurd (empty_split pre t more h) }

keeps_both : (limit : Limits) (n l : Needs) → Keeps limit n → Keeps limit l → Keeps limit (both n l)
keeps_both limit n l h i = λ x. let a = h x in let b = i x in omega (arith, a, b)

-- behind a token, by the ways in which one is taken
taken_on : (limit : Limits) (s : Sort) (p q : Prog s) (n : Needs) (u : Tok) (ts us : List Tok) → Keeps limit n → Partly s p [] u n
    → ((pre : List Tok) (t : Tok) (l : Needs) → Partly s q pre t l → Partly s p (u ∷ pre) t (both n l)) → Walked limit s q ts us → Walked limit s p (u ∷ ts) us
taken_on limit s p q n u ts us k first on w =
    record { taken = u ∷ w.taken; parts = ap (λ vs. u ∷ vs) w.parts; each = λ pre t more h. on_each pre t more h }
  where
    on_each : (pre : List Tok) (t : Tok) (more : List Tok) → u ∷ w.taken ≡ pre ++ t ∷ more → Taken limit s p pre t
    on_each [] t more h = subst (λ v. Taken limit s p [] v) (ap (head_or u) h) (record { log = n; partly = first; keeps = k })
    on_each (v ∷ pre) t more h =
        let x = w.each pre t more (ap tail_of h) in
        subst (λ v. Taken limit s p (v ∷ pre) t) (ap (head_or u) h) (record { log = both n x.log; partly = on pre t x.log x.partly; keeps = keeps_both limit n x.log k x.keeps })

looked_on : (limit : Limits) (s : Sort) (f : Word → Spot → Prog s) (ts us : List Tok)
    → Walked limit s (f (word_of ts) (spot_of ts)) ts us → Walked limit s (look f) ts us
looked_on limit s f ts us w = record { taken = w.taken; parts = w.parts; each = λ pre t more h. on_each pre t more h }
  where
    on_each : (pre : List Tok) (t : Tok) (more : List Tok) → w.taken ≡ pre ++ t ∷ more → Taken limit s (look f) pre t
    on_each pre t more h =
        let x = w.each pre t more h in
        let whole : ts ≡ pre ++ t ∷ (more ++ us) = w.parts ∙ (ap (λ vs. vs ++ us) h ∙ append_assoc pre (t ∷ more) us) in
        let same_word = ap word_of whole ∙ front_word pre t (more ++ us) in
        let same_spot = ap spot_of whole ∙ front_spot pre t (more ++ us) in
        record { log = x.log; partly = looking (subst (λ v. Partly s (f v (spot_of (pre ++ t ∷ []))) pre t x.log) same_word (subst (λ at. Partly s (f (word_of ts) at) pre t x.log) same_spot x.partly)); keeps = x.keeps }

then_inside : (limit : Limits) (s q : Sort) (r : Rule q) (f : Value q → Prog s) (ts us : List Tok)
    → Walked limit q (program r) ts us → Walked limit s (then r f) ts us
then_inside limit s q r f ts us w =
    record { taken = w.taken; parts = w.parts; each = λ pre t more h. let x = w.each pre t more h in record { log = x.log; partly = inside x.partly; keeps = x.keeps } }

then_behind : (limit : Limits) (s q : Sort) (r : Rule q) (f : Value q → Prog s) (a : Value q) (ts us vs : List Tok)
    → Walked limit q (program r) ts us → Kept limit q (program r) ts us a
    → Walked limit s (f a) us vs → Walked limit s (then r f) ts vs
then_behind limit s q r f a ts us vs w k x =
    record { taken = c.pre ++ x.taken; parts = c.parts ∙ (ap (λ ws. c.pre ++ ws) x.parts ∙ sym (append_assoc c.pre x.taken vs)); each = λ pre t more h. on_each pre t more h }
  where
    c : Took q (program r) ts us a k.log
    c = took q (program r) ts us a k.log k.comes

    first : (pre : List Tok) (t : Tok) (m : List Tok) → c.pre ≡ pre ++ t ∷ m → w.taken ≡ c.pre → Taken limit s (then r f) pre t
    first pre t m h e = let y = w.each pre t m (e ∙ h) in record { log = y.log; partly = inside y.partly; keeps = y.keeps }

    second : (pre : List Tok) (t : Tok) (more post : List Tok) → pre ≡ c.pre ++ post → x.taken ≡ post ++ t ∷ more
        → Taken limit s (then r f) pre t
    second pre t more post e h =
        let y = x.each post t more h in
        let whole : us ≡ post ++ t ∷ (more ++ vs) = x.parts ∙ (ap (λ ws. ws ++ vs) h ∙ append_assoc post (t ∷ more) vs) in
        let like : Alike us (post ++ t ∷ []) = subst (λ ws. Alike ws (post ++ t ∷ [])) (sym whole) (front_alike post t (more ++ vs)) in
        subst (λ p. Taken limit s (then r f) p t) (sym e)
        (record { log = both k.log y.log; partly = behind c.pre post (c.again (post ++ t ∷ []) like) y.partly; keeps = keeps_both limit k.log y.log k.keeps y.keeps })

    pick : (pre : List Tok) (t : Tok) (more : List Tok) → w.taken ≡ c.pre → Stands c.pre x.taken pre t more
        → Taken limit s (then r f) pre t
    pick pre t more e (inl h) = first pre t h.0 h.1 e
    pick pre t more e (inr h) = second pre t more h.0 h.1 h.2

    on_each : (pre : List Tok) (t : Tok) (more : List Tok) → c.pre ++ x.taken ≡ pre ++ t ∷ more → Taken limit s (then r f) pre t
    on_each pre t more h = pick pre t more (append_cancel_right w.taken c.pre us (sym w.parts ∙ c.parts)) (stands c.pre x.taken pre t more h)

key_taken : (s : Sort) (k : Key) (n : Needs) (f : Spot → Prog s) (at : Spot) (pre : List Tok) (t : Tok) (l : Needs)
    → Partly s (take n (f at)) pre t l
    → tok (key k) at ≡ head_or t pre → Partly s (expect k n f) pre t l
key_taken s k n f at pre t l now h = subst (λ u. Partly s (expect k n f) [] u n) h key_now
key_taken s k n f at pre t l (later {l = m} {u = u} {pre = post} d) h = subst (λ u. Partly s (expect k n f) (u ∷ post) t (both n m)) h (key_later d)

name_taken : (s : Sort) (n : Needs) (f : Bytes → Spot → Prog s) (x : Bytes) (at : Spot) (pre : List Tok) (t : Tok) (l : Needs)
    → Partly s (take n (f x at)) pre t l
    → tok (w.name x) at ≡ head_or t pre → Partly s (expect_name n f) pre t l
name_taken s n f x at pre t l now h = subst (λ u. Partly s (expect_name n f) [] u n) h name_now
name_taken s n f x at pre t l (later {l = m} {u = u} {pre = post} d) h = subst (λ u. Partly s (expect_name n f) (u ∷ post) t (both n m)) h (name_later d)

front_head : (u : Tok) (pre : List Tok) (t : Tok) (more : List Tok) → head_or u (pre ++ t ∷ more) ≡ head_or t pre
front_head u [] t more = refl
front_head u (v ∷ pre) t more = refl

-- another program that takes the same tokens, where it begins with the token that it begins with
taken_as : (limit : Limits) (s : Sort) (p q : Prog s) (u : Tok) (ts us : List Tok)
    → ((pre : List Tok) (t : Tok) (l : Needs) → Partly s p pre t l → u ≡ head_or t pre → Partly s q pre t l)
    → Walked limit s p (u ∷ ts) us → Walked limit s q (u ∷ ts) us
taken_as limit s p q u ts us on w = record { taken = w.taken; parts = w.parts; each = λ pre t more h. on_each pre t more h }
  where
    on_each : (pre : List Tok) (t : Tok) (more : List Tok) → w.taken ≡ pre ++ t ∷ more → Taken limit s q pre t
    on_each pre t more h =
        let x = w.each pre t more h in
        let whole : u ∷ ts ≡ pre ++ t ∷ (more ++ us) = w.parts ∙ (ap (λ vs. vs ++ us) h ∙ append_assoc pre (t ∷ more) us) in
        record { log = x.log; partly = on pre t x.log x.partly (ap (head_or u) whole ∙ front_head u pre t (more ++ us)); keeps = x.keeps }

pub walked : (limit : Limits) (s : Sort) (p : Prog s) (ts : List Tok) (r : Answer (Value s)) → Reads limit s p ts r
    → Walked limit s p ts (rest_of s r)
walked limit s p ts a r.gives = nothing limit s p ts
walked limit s p ts a r.fails = nothing limit s p ts
walked limit s p ts a (r.takes {n = n} {p = q} {t = t} {ts = us} k d) = taken_on limit s p q n t us (rest_of s a) k now (λ pre t l x. later x) (walked limit s q us a d)
walked limit s p ts a (r.passes h) = nothing limit s p ts
walked limit s p ts a r.none_left = nothing limit s p ts
walked limit s p ts a (r.looks {f = f} d) = looked_on limit s f ts (rest_of s a) (walked limit s (f (word_of ts) (spot_of ts)) ts a d)
walked limit s p ts a (r.expects {k = k} {n = n} {f = f} {at = at} {ts = us} d) =
    taken_as limit s (take n (f at)) (expect k n f) (tok (key k) at) us (rest_of s a) (key_taken s k n f at) (walked limit s (take n (f at)) ts a d)
walked limit s p ts a (r.not_that h) = nothing limit s p ts
walked limit s p ts a (r.expects_name {n = n} {f = f} {x = x} {at = at} {ts = us} d) =
    taken_as limit s (take n (f x at)) (expect_name n f) (tok (w.name x) at) us (rest_of s a) (name_taken s n f x at) (walked limit s (take n (f x at)) ts a d)
walked limit s p ts a (r.no_name h) = nothing limit s p ts
walked limit s p ts a r.is_last = nothing limit s p ts
walked limit s p ts a r.not_last = nothing limit s p ts
walked limit s p ts a (r.thens {q = q} {r = rule} {f = f} {a = b} {us = us} d e) =
    then_behind limit s q rule f b ts us (rest_of s a) (walked limit q (program rule) ts (got b us) d) (told limit q (program rule) ts (got b us) d) (walked limit s (f b) us a e)
walked limit s p ts a (r.stops {q = q} {r = rule} {f = f} {x = x} {us = us} d) = then_inside limit s q rule f ts us (walked limit q (program rule) ts (stuck x us) d)

-- ---- where a limit is passed

-- the token at which reading stops passes a limit: it is taken, and of the limits with lower numbers none is passed
pub record Passed (limit : Limits) (s : Sort) (p : Prog s) (ts : List Tok) (x : Limit) (us : List Tok) : Type 0 where
  pub taken : List Tok
  pub token : Tok
  pub rest : List Tok
  pub log : Needs
  pub parts : ts ≡ taken ++ us
  pub stops_at : us ≡ token ∷ rest
  pub partly : Partly s p taken token log
  pub passes : limit x < log x
  pub lower : (y : Limit) → fault_number y < fault_number x → log y ≤ limit y

passed_on : (limit : Limits) (s : Sort) (p q : Prog s) (n : Needs) (u : Tok) (ts : List Tok) (x : Limit) (us : List Tok)
    → Keeps limit n
    → ((pre : List Tok) (t : Tok) (l : Needs) → Partly s q pre t l → Partly s p (u ∷ pre) t (both n l)) → Passed limit s q ts x us → Passed limit s p (u ∷ ts) x us
passed_on limit s p q n u ts x us k on w =
    record {
      taken = u ∷ w.taken;
      token = w.token;
      rest = w.rest;
      log = both n w.log;
      parts = ap (λ vs. u ∷ vs) w.parts;
      stops_at = w.stops_at;
      partly = on w.taken w.token w.log w.partly;
      passes = let h = w.passes in omega (arith, h);
      lower = λ y h. let a = k y in let b = w.lower y h in omega (arith, a, b);
    }

passed_look : (limit : Limits) (s : Sort) (f : Word → Spot → Prog s) (ts : List Tok) (x : Limit) (us : List Tok)
    → Passed limit s (f (word_of ts) (spot_of ts)) ts x us → Passed limit s (look f) ts x us
passed_look limit s f ts x us w =
    let whole : ts ≡ w.taken ++ w.token ∷ w.rest = w.parts ∙ ap (λ vs. w.taken ++ vs) w.stops_at in
    let same_word = ap word_of whole ∙ front_word w.taken w.token w.rest in
    let same_spot = ap spot_of whole ∙ front_spot w.taken w.token w.rest in
    record {
      taken = w.taken;
      token = w.token;
      rest = w.rest;
      log = w.log;
      parts = w.parts;
      stops_at = w.stops_at;
      partly = looking (subst (λ v. Partly s (f v (spot_of (w.taken ++ w.token ∷ []))) w.taken w.token w.log) same_word
          (subst (λ at. Partly s (f (word_of ts) at) w.taken w.token w.log) same_spot w.partly));
      passes = w.passes;
      lower = w.lower;
    }

passed_as : (limit : Limits) (s : Sort) (p q : Prog s) (u : Tok) (ts : List Tok) (x : Limit) (us : List Tok)
    → ((pre : List Tok) (t : Tok) (l : Needs) → Partly s p pre t l → u ≡ head_or t pre → Partly s q pre t l)
    → Passed limit s p (u ∷ ts) x us → Passed limit s q (u ∷ ts) x us
passed_as limit s p q u ts x us on w =
    let whole : u ∷ ts ≡ w.taken ++ w.token ∷ w.rest = w.parts ∙ ap (λ vs. w.taken ++ vs) w.stops_at in
    record {
      taken = w.taken;
      token = w.token;
      rest = w.rest;
      log = w.log;
      parts = w.parts;
      stops_at = w.stops_at;
      partly = on w.taken w.token w.log w.partly (ap (head_or u) whole ∙ front_head u w.taken w.token w.rest);
      passes = w.passes;
      lower = w.lower;
    }

passed_inside : (limit : Limits) (s q : Sort) (r : Rule q) (f : Value q → Prog s) (ts : List Tok) (x : Limit) (us : List Tok)
    → Passed limit q (program r) ts x us → Passed limit s (then r f) ts x us
passed_inside limit s q r f ts x us w =
    record { taken = w.taken; token = w.token; rest = w.rest; log = w.log; parts = w.parts; stops_at = w.stops_at; partly = inside w.partly; passes = w.passes; lower = w.lower }

passed_behind : (limit : Limits) (s q : Sort) (r : Rule q) (f : Value q → Prog s) (a : Value q) (ts us : List Tok) (x : Limit) (vs : List Tok)
    → Kept limit q (program r) ts us a
    → Passed limit s (f a) us x vs → Passed limit s (then r f) ts x vs
passed_behind limit s q r f a ts us x vs k w =
    let c = took q (program r) ts us a k.log k.comes in
    let whole : us ≡ w.taken ++ w.token ∷ w.rest = w.parts ∙ ap (λ ws. w.taken ++ ws) w.stops_at in
    let like : Alike us (w.taken ++ w.token ∷ []) = subst (λ ws. Alike ws (w.taken ++ w.token ∷ [])) (sym whole) (front_alike w.taken w.token w.rest) in
    record {
      taken = c.pre ++ w.taken;
      token = w.token;
      rest = w.rest;
      log = both k.log w.log;
      parts = c.parts ∙ (ap (λ ws. c.pre ++ ws) w.parts ∙ sym (append_assoc c.pre w.taken vs));
      stops_at = w.stops_at;
      partly = behind c.pre w.taken (c.again (w.taken ++ w.token ∷ []) like) w.partly;
      passes = let h = w.passes in omega (arith, h);
      lower = λ y h. let m = k.keeps y in let b = w.lower y h in omega (arith, m, b);
    }

pub passed : (limit : Limits) (s : Sort) (p : Prog s) (ts : List Tok) (x : Limit) (us : List Tok)
    → Reads limit s p ts (stuck (over x) us) → Passed limit s p ts x us
passed limit s p ts x us (r.takes {n = n} {p = q} {t = t} {ts = vs} k d) = passed_on limit s p q n t vs x us k (λ pre t l y. later y) (passed limit s q vs x us d)
passed limit s p ts x us (r.passes {n = n} {t = t} {ts = vs} h) =
    record { taken = []; token = t; rest = vs; log = n; parts = refl; stops_at = refl; partly = now; passes = h.0; lower = h.1 }
passed limit s p ts x us (r.looks {f = f} d) = passed_look limit s f ts x us (passed limit s (f (word_of ts) (spot_of ts)) ts x us d)
passed limit s p ts x us (r.expects {k = k} {n = n} {f = f} {at = at} {ts = vs} d) =
    passed_as limit s (take n (f at)) (expect k n f) (tok (key k) at) vs x us (key_taken s k n f at) (passed limit s (take n (f at)) ts x us d)
passed limit s p ts x us (r.expects_name {n = n} {f = f} {x = z} {at = at} {ts = vs} d) =
    passed_as limit s (take n (f z at)) (expect_name n f) (tok (w.name z) at) vs x us (name_taken s n f z at) (passed limit s (take n (f z at)) ts x us d)
passed limit s p ts x us (r.thens {q = q} {r = rule} {f = f} {a = b} {us = vs} d e) =
    passed_behind limit s q rule f b ts vs x us (told limit q (program rule) ts (got b vs) d) (passed limit s (f b) vs x us e)
passed limit s p ts x us (r.stops {q = q} {r = rule} {f = f} d) = passed_inside limit s q rule f ts x us (passed limit q (program rule) ts x us d)
