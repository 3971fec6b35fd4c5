-- What reading answers is exact, and nothing else is.
use Rattle.std.proofs.Common.{ℕ, ◌≤◌, ◌<◌, ◌≡◌, ◌⊎◌, inl, inr, refl, sym, ap, ◌∙◌, subst, List, [], ◌∷◌, ◌++◌, true, arith, append_assoc}
use Rattle.std.proofs.lemmas.List.{append_cancel_right}
use Rattle.lua_tree.specs.Tree.{Block}
use Rattle.lua_tree.specs.Words as w
use Rattle.lua_tree.specs.Words.{Word, key, Tok, tok, word_in}
use Rattle.lua_tree.specs.Grammar.{Spells}
use Rattle.lua_tree.specs.Attributes.{Limit, breaks, varargs, nodes, locals, calls, at_chunk, at_end, most_chunk}
use Rattle.lua_tree.specs.Reading.{Needs, Limits, Fault, unexpected, over, fault_number, got, stuck, ReadsChunk, a_block, chunk, program}
use Rattle.lua_tree.specs.Faults.{Begins, Tells, At, Clear, number_of, NoneLower}
use Rattle.lua_tree.specs.Laws.{OneChunk, ReadingIsExact, OneAnswer}
use Rattle.lua_tree.proofs.Comes.{Comes}
use Rattle.lua_tree.proofs.Runs.{out, one, Alike, Blames, told}
use Rattle.lua_tree.proofs.Posts.{Post}
use Rattle.lua_tree.proofs.Holds.{holds}
use Rattle.lua_tree.proofs.Sound.{all_sound}
use Rattle.lua_tree.proofs.Whole.{chunk_does}
use Rattle.lua_tree.proofs.Partly.{Taken, Walked, walked, Passed, passed}
use Rattle.lua_tree.proofs.Alive.{Counted, is_name}
use Rattle.lua_tree.proofs.Viable.{viable}
use Rattle.lua_tree.proofs.Names.{chunk_passed_at_name}

behind_all : (ts : List Tok) → ts ++ [] ≡ ts
behind_all [] = refl
behind_all (t ∷ ts) = ap (λ us. t ∷ us) (behind_all ts)

-- ---- what comes to an end

no_locals : (x : Limit) → at_end x (at_chunk x) ≡ 0
no_locals breaks = refl
no_locals varargs = refl
no_locals nodes = refl
no_locals locals = refl
no_locals calls = refl

-- a chunk that comes to an end is spelled, and what it made unavoidable is what is counted
record Spelled (b : Block) (ts us : List Tok) (l : Needs) : Type 0 where
  pub spells : Spells b ts
  pub whole : us ≡ []
  pub counts : (x : Limit) → l x ≡ most_chunk x b

spelled : (ts us : List Tok) (b : Block) (l : Needs) → Comes a_block (program chunk) ts b us l → Spelled b ts us l
spelled ts us b l d =
    let h = holds all_sound a_block (program chunk) ts us b l (Post a_block chunk ts) d (all_sound a_block chunk ts) in
    record { spells = h.0; whole = h.1; counts = λ x. let y = h.2 x in let z = no_locals x in omega (arith, y, z) }

counted : (x : Limit) (v : Word) → Tells x v → Counted (is_name v) x
counted breaks (w.name b) h = tt
counted breaks v h = tt
counted varargs (w.name b) h = tt
counted varargs v h = tt
counted nodes (w.name b) h = tt
counted nodes v h = tt
counted calls (w.name b) h = tt
counted calls v h = tt
counted locals (w.name b) h = tt
counted locals v h = absurd h

tells_name : (v : Word) → is_name v ≡ true → Tells locals v
tells_name (w.name b) h = tt
tells_name v h = absurd (grind (arith, h))

-- ---- a token that is taken is no fault

pub record Goes (pre : List Tok) (t : Tok) (l : Needs) : Type 0 where
  pub more : List Tok
  pub block : Block
  pub spells : Spells block (pre ++ t ∷ more)
  pub counts : (x : Limit) → Tells x (word_in t) → most_chunk x block ≤ l x

goes : (limit : Limits) (pre : List Tok) (t : Tok) (x : Taken limit a_block (program chunk) pre t) → Goes pre t x.log
goes limit pre t x =
    let v = viable all_sound pre t x.log x.partly in
    let s = spelled (pre ++ t ∷ v.0) [] v.1 v.2 v.3 in
    let within = v.4 in
    record { more = v.0; block = v.1; spells = s.spells; counts = λ y h. let a = s.counts y in let b = within y (counted y (word_in t) h) in omega (arith, a, b) }

goes_on : (pre : List Tok) (t : Tok) (l : Needs) → Goes pre t l → Begins (pre ++ t ∷ [])
goes_on pre t l g = (g.more, g.block, subst (λ ts. Spells g.block ts) (sym (append_assoc pre (t ∷ []) g.more)) g.spells)

-- no limit that is kept is passed, and the token isn't unexpected
no_fault : (limit : Limits) (pre : List Tok) (t : Tok) (q : List Tok) (l : Needs) (y : Fault) → Goes pre t l
    → ((x : Limit) → y ≡ over x → l x ≤ limit x) → At limit y pre (t ∷ q) → ⊥
no_fault limit pre t q l unexpected g k h = h (goes_on pre t l g)
no_fault limit pre (tok v s) q l (over x) g k h =
    let a = h.1 g.more g.block g.spells in let b = g.counts x h.0 in let c = k x refl in omega (arith, a, b, c)

-- ---- reading is exact

same_front : (ts a b us : List Tok) → ts ≡ a ++ us → ts ≡ b ++ us → a ≡ b
same_front ts a b us h i = append_cancel_right a b us (sym h ∙ i)

clear : (limit : Limits) (ts us : List Tok) (w : Walked limit a_block (program chunk) ts us) → Clear limit w.taken
clear limit ts us w p t q e y h = let x = w.each p t q e in no_fault limit p t q x.log y (goes limit p t x) (λ z i. x.keeps z) h

lowest : (y : Fault) → 2 ≤ number_of y
lowest unexpected = omega arith
lowest (over breaks) = omega arith
lowest (over varargs) = omega arith
lowest (over nodes) = omega arith
lowest (over locals) = omega arith
lowest (over calls) = omega arith

-- the token, or the end, at which reading is stuck is unexpected
at_unexpected : (limit : Limits) (ts us pre : List Tok)
    → ((vs : List Tok) → Alike us vs → (b : Block) (l : Needs) → Comes a_block (program chunk) (pre ++ vs) b [] l → ⊥)
    → At limit unexpected pre us
at_unexpected limit ts [] pre h = λ b d. let c = chunk_does b pre d in h [] tt b c.0 (subst (λ ts. Comes a_block (program chunk) ts b [] c.0) (sym (behind_all pre)) c.1)
at_unexpected limit ts (t ∷ us) pre h = λ d.
    let c = chunk_does d.1 (pre ++ t ∷ d.0) (subst (λ ts. Spells d.1 ts) (append_assoc pre (t ∷ []) d.0) d.2) in h (t ∷ d.0) refl d.1 c.0 c.1

at_over : (limit : Limits) (x : Limit) (pre : List Tok) (t : Tok) (us : List Tok) → Tells x (word_in t)
    → ((vs : List Tok) → Alike (t ∷ us) vs → (b : Block) (l : Needs) → Comes a_block (program chunk) (pre ++ vs) b [] l → limit x < l x) → At limit (over x) pre (t ∷ us)
at_over limit x pre (tok v s) us h i = (
  h,
  λ more b d.
      let c = chunk_does b (pre ++ tok v s ∷ more) d in
      let k = i (tok v s ∷ more) refl b c.0 c.1 in
      let y = (spelled (pre ++ tok v s ∷ more) [] b c.0 c.1).counts x in omega (arith, k, y),
)

-- what was told of an answer, of the tokens that were taken
told_of : (limit : Limits) (ts us : List Tok) (x : Fault) → ReadsChunk limit ts (stuck x us) → (pre : List Tok) → ts ≡ pre ++ us
    → (vs : List Tok) → Alike us vs → (b : Block) (l : Needs) → Comes a_block (program chunk) (pre ++ vs) b [] l → Blames limit x l
told_of limit ts us x d pre e vs like b l c =
    let h = told limit a_block (program chunk) ts (stuck x us) d in
    let blame = h.2 in
    blame vs like (out a_block b [] l) (subst (λ p. Comes a_block (program chunk) (p ++ vs) b [] l) (same_front ts pre h.0 us e h.1) c)

no_rest : (t : Tok) (ts : List Tok) → [] ≡ t ∷ ts → ⊥
no_rest t ts h = grind (arith, h)

at_stuck : (limit : Limits) (ts us : List Tok) (x : Fault) → ReadsChunk limit ts (stuck x us)
    → (w : Walked limit a_block (program chunk) ts us) → At limit x w.taken us
at_stuck limit ts us unexpected d w = at_unexpected limit ts us w.taken (told_of limit ts us unexpected d w.taken w.parts)
at_stuck limit ts us (over x) d w = over_here us (passed limit a_block (program chunk) ts x us d) d (told_of limit ts us (over x) d w.taken w.parts)
  where
    tells : (x : Limit) (t : Tok) (vs : List Tok) → ReadsChunk limit ts (stuck (over x) (t ∷ vs)) → Tells x (word_in t)
    tells breaks t vs d = tt
    tells varargs t vs d = tt
    tells nodes t vs d = tt
    tells calls t vs d = tt
    tells locals t vs d = tells_name (word_in t) (chunk_passed_at_name limit ts t vs d)

    over_here : (us : List Tok) → Passed limit a_block (program chunk) ts x us → ReadsChunk limit ts (stuck (over x) us)
        → ((vs : List Tok) → Alike us vs → (b : Block) (l : Needs) → Comes a_block (program chunk) (w.taken ++ vs) b [] l → limit x < l x) → At limit (over x) w.taken us
    over_here [] q d h = absurd (no_rest q.token q.rest q.stops_at)
    over_here (t ∷ vs) q d h = at_over limit x w.taken t vs (tells x t vs d) h

none_lower : (limit : Limits) (ts us : List Tok) (x : Fault) → ReadsChunk limit ts (stuck x us)
    → (w : Walked limit a_block (program chunk) ts us) → NoneLower limit x w.taken us
none_lower limit ts us unexpected d w = λ y h i. let a = lowest y in omega (arith, a, h)
none_lower limit ts us (over x) d w = λ y h i.
    let q = passed limit a_block (program chunk) ts x us d in
    let same = same_front ts w.taken q.taken us w.parts q.parts in
    let at : At limit y q.taken (q.token ∷ q.rest) = subst (λ pre. At limit y pre (q.token ∷ q.rest)) same (subst (λ us. At limit y w.taken us) q.stops_at i) in
    let v = viable all_sound q.taken q.token q.log q.partly in
    let s = spelled (q.taken ++ q.token ∷ v.0) [] v.1 v.2 v.3 in
    let within = v.4 in
    let g : Goes q.taken q.token q.log = record { more = v.0; block = v.1; spells = s.spells; counts = λ z j. let a = s.counts z in let b = within z (counted z (word_in q.token) j) in omega (arith, a, b) } in
    no_fault limit q.taken q.token q.rest q.log y g (λ z e. q.lower z (subst (λ y. number_of y < fault_number x) e h)) at

pub exact : ReadingIsExact
exact limit ts (got b us) d =
    let k = told limit a_block (program chunk) ts (got b us) d in
    let s = spelled ts us b k.log k.comes in
    (s.spells, s.whole, λ x. let a = s.counts x in let c = k.keeps x in omega (arith, a, c))
exact limit ts (stuck x us) d =
    let w = walked limit a_block (program chunk) ts (stuck x us) d in
    (w.taken, w.parts, clear limit ts us w, at_stuck limit ts us x d w, none_lower limit ts us x d w)

-- ---- one answer

pub one_chunk : OneChunk
one_chunk ts b c d e =
    let x = chunk_does b ts d in
    let y = chunk_does c ts e in
    ap (λ o. o.value) (one a_block (program chunk) ts [] b x.0 (out a_block c [] y.0) x.1 y.1)

-- what is spelled and keeps the limits has no fault
no_chunk : (limit : Limits) (b : Block) (x : Fault) (pre us : List Tok) → Spells b (pre ++ us)
    → ((x : Limit) → most_chunk x b ≤ limit x) → At limit x pre us → ⊥
no_chunk limit b unexpected pre [] s k h = h b (subst (λ ts. Spells b ts) (behind_all pre) s)
no_chunk limit b unexpected pre (t ∷ us) s k h = h (us, b, subst (λ ts. Spells b ts) (sym (append_assoc pre (t ∷ []) us)) s)
no_chunk limit b (over x) pre [] s k h = h
no_chunk limit b (over x) pre (tok v at ∷ us) s k h = let a = h.1 us b s in let c = k x in omega (arith, a, c)

-- of a token's faults the rest doesn't matter
at_head : (limit : Limits) (x : Fault) (pre : List Tok) (t : Tok) (us vs : List Tok) → At limit x pre (t ∷ us)
    → At limit x pre (t ∷ vs)
at_head limit unexpected pre t us vs h = h
at_head limit (over x) pre (tok v s) us vs h = h

-- two ways to part a list: alike, or one is longer in front
abbrev Parted : List Tok → List Tok → List Tok → List Tok → Type 0
Parted a us b vs = ((a ≡ b) × (us ≡ vs)) ⊎ (((t : Tok) × (q : List Tok) × (b ≡ a ++ t ∷ q) × (us ≡ t ∷ (q ++ vs))) ⊎ ((t : Tok) × (q : List Tok) × (a ≡ b ++ t ∷ q) × (vs ≡ t ∷ (q ++ us))))

abbrev head_or : Tok → List Tok → Tok
head_or t [] = t
head_or t (u ∷ ts) = u

abbrev tail_of : List Tok → List Tok
tail_of [] = []
tail_of (t ∷ ts) = ts

parted_more : (t : Tok) (a us b vs : List Tok) → Parted a us b vs → Parted (t ∷ a) us (t ∷ b) vs
parted_more t a us b vs (inl h) = inl (ap (λ ts. t ∷ ts) h.0, h.1)
parted_more t a us b vs (inr (inl h)) = inr (inl (h.0, h.1, ap (λ ts. t ∷ ts) h.2, h.3))
parted_more t a us b vs (inr (inr h)) = inr (inr (h.0, h.1, ap (λ ts. t ∷ ts) h.2, h.3))

parted : (a us b vs : List Tok) → a ++ us ≡ b ++ vs → Parted a us b vs
parted [] us [] vs h = inl (refl, h)
parted [] us (t ∷ b) vs h = inr (inl (t, b, refl, h))
parted (t ∷ a) us [] vs h = inr (inr (t, a, refl, sym h))
parted (t ∷ a) us (u ∷ b) vs h = subst (λ u. Parted (t ∷ a) us (u ∷ b) vs) (ap (head_or t) h) (parted_more t a us b vs (parted a us b vs (ap tail_of h)))

same_limit : (x y : Limit) → fault_number x ≡ fault_number y → x ≡ y
same_limit breaks breaks h = refl
same_limit varargs varargs h = refl
same_limit nodes nodes h = refl
same_limit locals locals h = refl
same_limit calls calls h = refl
same_limit x y h = absurd (omega (arith, h))

three_at_least : (x : Limit) → 3 ≤ fault_number x
three_at_least breaks = omega arith
three_at_least varargs = omega arith
three_at_least nodes = omega arith
three_at_least locals = omega arith
three_at_least calls = omega arith

same_number : (x y : Fault) → number_of x ≡ number_of y → x ≡ y
same_number unexpected unexpected h = refl
same_number unexpected (over y) h = let a = three_at_least y in absurd (omega (arith, a, h))
same_number (over x) unexpected h = let a = three_at_least x in absurd (omega (arith, a, h))
same_number (over x) (over y) h = ap (λ z. over z) (same_limit x y h)

-- an earlier fault stands at a token that is clear
earlier : (limit : Limits) (x : Fault) (a us b vs : List Tok)
    → ((t : Tok) × (q : List Tok) × (b ≡ a ++ t ∷ q) × (us ≡ t ∷ (q ++ vs))) → At limit x a us → Clear limit b → ⊥
earlier limit x a us b vs h i k = k a h.0 h.1 h.2 x (at_head limit x a h.0 (h.1 ++ vs) h.1 (subst (λ us. At limit x a us) h.3 i))

same_fault : (limit : Limits) (x y : Fault) (a us b vs : List Tok) → a ≡ b → us ≡ vs → At limit x a us → NoneLower limit x a us
    → At limit y b vs → NoneLower limit y b vs → x ≡ y
same_fault limit x y a us b vs e f h i j k =
    let at : At limit y a us = subst (λ us. At limit y a us) (sym f) (subst (λ a. At limit y a vs) (sym e) j) in
    let at2 : At limit x b vs = subst (λ us. At limit x b us) f (subst (λ a. At limit x a us) e h) in
    same_number x y (omega (arith, not_less (number_of y) (number_of x) (λ l. i y l at), not_less (number_of x) (number_of y) (λ l. k x l at2)))
  where
    not_less : (m n : ℕ) → (m < n → ⊥) → n ≤ m
    not_less m n h = grind (arith, h)

one_fault : (limit : Limits) (ts a us b vs : List Tok) (x y : Fault) → ts ≡ a ++ us → Clear limit a → At limit x a us
    → NoneLower limit x a us
    → ts ≡ b ++ vs → Clear limit b → At limit y b vs → NoneLower limit y b vs → Parted a us b vs → (x ≡ y) × (us ≡ vs)
one_fault limit ts a us b vs x y e c h i f d j k (inl p) = (same_fault limit x y a us b vs p.0 p.1 h i j k, p.1)
one_fault limit ts a us b vs x y e c h i f d j k (inr (inl p)) = absurd (earlier limit x a us b vs p h d)
one_fault limit ts a us b vs x y e c h i f d j k (inr (inr p)) = absurd (earlier limit y b vs a us p j c)

pub one_answer : OneAnswer
one_answer limit ts (got b us) (got c vs) h i = one_chunk ts b c h.0 i.0
one_answer limit ts (got b us) (stuck y vs) h i = no_chunk limit b y i.0 vs (subst (λ ts. Spells b ts) i.1 h.0) h.2 i.3
one_answer limit ts (stuck x us) (got c vs) h i = no_chunk limit c x h.0 us (subst (λ ts. Spells c ts) h.1 i.0) i.2 h.3
one_answer limit ts (stuck x us) (stuck y vs) h i =
    one_fault limit ts h.0 us i.0 vs x y h.1 h.2 h.3 h.4 i.1 i.2 i.3 i.4 (parted h.0 us i.0 vs (sym h.1 ∙ i.1))
