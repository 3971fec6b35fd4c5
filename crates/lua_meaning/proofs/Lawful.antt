-- Acts that add no ticks, whose asks and output only grow, and that more replies only extend; and what keeps acts so.
use Rattle.std.proofs.Common.{ℕ, zero, suc, ◌+◌, ◌*◌, ◌≤◌, ◌≡◌, refl, sym, ap, ◌∙◌, subst, List, [], ◌∷◌, ◌++◌, length, Bool, true, false, if◌then◌else◌, arith, append_assoc}
use Rattle.std.proofs.lemmas.List.{append-nil, length-append}
use Rattle.love_base.specs.Prefix.{IsPrefix}
use Rattle.lua_meaning.specs.Value.{Value}
use Rattle.lua_meaning.specs.Store.{Store, Closure}
use Rattle.lua_meaning.specs.Message.{Ask, Reply}
use Rattle.lua_meaning.specs.World.{World, Ends, gives, fails, out_of_steps, needs, Act, ◌>>>◌, ◌>>=◌, ◌>>◌, give, raise, take_tick, tick, look, look_around, change, keep_function, answered, asking, add_line, one, single, caught, catching}
use Rattle.lua_meaning.specs.Laws.{left}

-- ---- prefixes

pub same_prefix : {X : Type 0} (xs : List X) → IsPrefix xs xs
same_prefix xs = ([], sym (append-nil xs))

pub longer_prefix : {X : Type 0} (xs ys : List X) → IsPrefix xs (xs ++ ys)
longer_prefix xs ys = (ys, refl)

pub prefix_on : {X : Type 0} (xs ys zs : List X) → IsPrefix xs ys → IsPrefix ys zs → IsPrefix xs zs
prefix_on xs ys zs p q = (p.0 ++ q.0, q.1 ∙ ap (λ l. l ++ q.0) p.1 ∙ append_assoc xs p.0 q.0)

-- ---- what acts keep

-- asks that wait
abbrev pub pending : {A : Type 0} → Ends A → ℕ
pending (gives a w) = 0
pending (fails v w) = 0
pending (out_of_steps w) = 0
pending (needs ask w) = 1

-- from a world it comes to an end: no ticks are added, output and asks grow, and asks are paid by ticks, but for k
pub record Step (k : ℕ) {A : Type 0} (w : World) (e : Ends A) : Type 0 where
  pub ticks : (left e).ticks ≤ w.ticks
  pub output : IsPrefix w.output (left e).output
  pub asks : IsPrefix w.asks (left e).asks
  pub cost : length (left e).asks + pending e + 2 * (left e).ticks ≤ k +
      (length w.asks + 2 * w.ticks)

abbrev pub with_more : World → List Reply → World
with_more w rs = record w { replies = w.replies ++ rs }

abbrev pub Onward : World → World → Type 0
Onward w after = IsPrefix w.asks after.asks × IsPrefix w.output after.output

-- the same end with more replies: equal, or further on where a reply was needed
abbrev pub Extended : List Reply → {A : Type 0} → Ends A → Ends A → Type 0
Extended rs (gives a w) e = e ≡ gives a (with_more w rs)
Extended rs (fails v w) e = e ≡ fails v (with_more w rs)
Extended rs (out_of_steps w) e = e ≡ out_of_steps (with_more w rs)
Extended rs (needs ask w) e = Onward w (left e)

pub record Lawful (k : ℕ) {A : Type 0} (m : Act A) : Type 0 where
  pub step : (w : World) → Step k w (m w)
  pub more : (w : World) (rs : List Reply) → Extended rs (m w) (m (with_more w rs))

-- ---- one act behind another

step_then : (j k : ℕ) {A B : Type 0} (w : World) (e : Ends A) (f : A → Act B) → Step j w e →
    ((a : A) → Lawful k (f a)) → Step (j + k) w (e >>> f)
step_then j k w (gives a v) f s h = let t = (h a).step v in record {
  ticks = omega (arith, s.ticks, t.ticks);
  output = prefix_on w.output v.output (left (f a v)).output s.output t.output;
  asks = prefix_on w.asks v.asks (left (f a v)).asks s.asks t.asks;
  cost = omega (arith, s.cost, t.cost);
}
step_then j k w (fails v x) f s h =
    record { ticks = s.ticks; output = s.output; asks = s.asks; cost = omega (arith, s.cost) }
step_then j k w (out_of_steps x) f s h =
    record { ticks = s.ticks; output = s.output; asks = s.asks; cost = omega (arith, s.cost) }
step_then j k w (needs ask x) f s h =
    record { ticks = s.ticks; output = s.output; asks = s.asks; cost = omega (arith, s.cost) }

onward_then : (k : ℕ) {A B : Type 0} (w : World) (e : Ends A) (f : A → Act B) → Onward w (left e) →
    ((a : A) → Lawful k (f a)) → Onward w (left (e >>> f))
onward_then k w (gives a v) f o h =
    let t = (h a).step v in (
      prefix_on w.asks v.asks (left
          (f a v)).asks o.0 t.asks,
      prefix_on w.output v.output (left (f a v)).output o.1 t.output,
    )
onward_then k w (fails v x) f o h = o
onward_then k w (out_of_steps x) f o h = o
onward_then k w (needs ask x) f o h = o

extended_then : (k : ℕ) (rs : List Reply) {A B : Type 0} (e e' : Ends A) (f : A → Act B) →
    Extended rs e e' → ((a : A) → Lawful k (f a)) → Extended rs (e >>> f) (e' >>> f)
extended_then k rs (gives a v) e' f x h =
    subst (λ y. Extended rs (f a v) (y >>> f)) (sym x) ((h a).more v rs)
extended_then k rs (fails v w) e' f x h = ap (λ y. y >>> f) x
extended_then k rs (out_of_steps w) e' f x h = ap (λ y. y >>> f) x
extended_then k rs (needs ask w) e' f x h = onward_then k w e' f x h

pub chain : (j k : ℕ) {A B : Type 0} {m : Act A} {f : A → Act B} → Lawful j m → ((a : A) →
    Lawful k (f a)) → Lawful (j + k) (m >>= f)
chain j k {A} {B} {m} {f} l h = record {
  step = λ w. step_then j k w (m w) f (l.step w) h;
  more = λ w rs. extended_then k rs (m w) (m (with_more w rs)) f (l.more w rs) h;
}

-- what costs less costs no more
pub costs : (j k : ℕ) {A : Type 0} {m : Act A} → j ≤ k → Lawful j m → Lawful k m
costs j k le l = record {
  step = λ w. let s = l.step w in record {
    ticks =
        s.ticks;
    output = s.output;
    asks = s.asks;
    cost = omega (arith, le, s.cost);
  };
  more = l.more;
}

-- an act without cost, and what is behind it
pub followed : (k : ℕ) {A B : Type 0} {m : Act A} {f : A → Act B} → Lawful 0 m → ((a : A) →
    Lawful k (f a)) → Lawful k (m >>= f)
followed k {A} {B} {m} {f} l h = costs (0 + k) k (omega arith) (chain 0 k l h)

pub either : (k : ℕ) {A : Type 0} (c : Bool) {a b : Act A} → Lawful k a → Lawful k b →
    Lawful k (if c then a else b)
either k true x y = x
either k false x y = y

-- ---- single acts

-- an act that gives something and leaves ticks, asks and replies
pub gives_lawful : {A : Type 0} (a : A) → Lawful 0 (give a)
gives_lawful a = record {
  step = λ w. record {
    ticks =
        omega arith;
    output = same_prefix w.output;
    asks = same_prefix w.asks;
    cost = omega arith;
  };
  more = λ w rs. refl;
}

pub raises_lawful : {A : Type 0} (v : Value) → Lawful 0 (raise {A = A} v)
raises_lawful v = record {
  step = λ w. record {
    ticks =
        omega arith;
    output = same_prefix w.output;
    asks = same_prefix w.asks;
    cost = omega arith;
  };
  more = λ w rs. refl;
}

pub looks : {A : Type 0} (f : Store → A) → Lawful 0 (look f)
looks f = record {
  step = λ w. record {
    ticks =
        omega arith;
    output = same_prefix w.output;
    asks = same_prefix w.asks;
    cost = omega arith;
  };
  more = λ w rs. refl;
}

pub looks_around : {A : Type 0} (f : List Closure → Store → A) → Lawful 0 (look_around f)
looks_around f = record {
  step = λ w. record {
    ticks =
        omega arith;
    output = same_prefix w.output;
    asks = same_prefix w.asks;
    cost = omega arith;
  };
  more = λ w rs. refl;
}

pub keeps : (made : Closure) → Lawful 0 (keep_function made)
keeps made = record {
  step = λ w. record {
    ticks =
        omega arith;
    output = same_prefix w.output;
    asks = same_prefix w.asks;
    cost = omega arith;
  };
  more = λ w rs. refl;
}

pub changes : (f : Store → Store) → Lawful 0 (change f)
changes f = record {
  step = λ w. record {
    ticks =
        omega arith;
    output = same_prefix w.output;
    asks = same_prefix w.asks;
    cost = omega arith;
  };
  more = λ w rs. refl;
}

pub adds_line : (line : List ℕ) → Lawful 0 (add_line line)
adds_line line = record {
  step = λ w. record {
    ticks =
        omega arith;
    output = longer_prefix w.output line;
    asks = same_prefix w.asks;
    cost = omega
        arith;
  };
  more = λ w rs. refl;
}

-- ---- asks

ask_step : (ask : Ask) (replies : List Reply) (w : World) → Step 1 w (answered ask replies w)
ask_step ask [] w = record {
  ticks =
      omega arith;
  output = same_prefix w.output;
  asks = same_prefix w.asks;
  cost = omega arith;
}
ask_step ask (r ∷ replies) w = record {
  ticks = omega arith;
  output = same_prefix w.output;
  asks = longer_prefix w.asks (ask ∷ []);
  cost = omega (arith, length-append w.asks (ask ∷ []));
}

ask_onward : (ask : Ask) (replies : List Reply) (w : World) →
    Onward w (left (answered ask replies w))
ask_onward ask [] w = (same_prefix w.asks, same_prefix w.output)
ask_onward ask (r ∷ replies) w = (longer_prefix w.asks (ask ∷ []), same_prefix w.output)

ask_more : (ask : Ask) (replies : List Reply) (w : World) (rs : List Reply) →
    Extended rs (answered ask replies w) (answered ask (replies ++ rs) (with_more w rs))
ask_more ask [] w rs = ask_onward ask rs (with_more w rs)
ask_more ask (r ∷ replies) w rs = refl

pub asks : (ask : Ask) → Lawful 1 (asking ask)
asks ask = record {
  step =
      λ w. ask_step ask w.replies w;
  more = λ w rs. ask_more ask w.replies w rs;
}

-- ---- ticks

-- two asks are paid by a tick
tick_step : (k n : ℕ) {A : Type 0} (w : World) (f : Act A) → n ≡ w.ticks → Lawful (k + 2) f →
    Step k w (take_tick n w >>> λ x w. f w)
tick_step k zero w f e l =
    record {
      ticks = omega arith;
      output = same_prefix w.output;
      asks = same_prefix w.asks;
      cost =
          omega arith;
    }
tick_step k (suc n) w f e l = let s = l.step (record w { ticks = n }) in record {
  ticks = omega (arith, e, s.ticks);
  output = s.output;
  asks = s.asks;
  cost = omega (arith, e, s.cost);
}

tick_more : (k n : ℕ) (rs : List Reply) {A : Type 0} (w : World) (f : Act A) → Lawful (k + 2) f →
    Extended rs (take_tick n w >>> λ x w. f w) (take_tick n (with_more w rs) >>> λ x w. f w)
tick_more k zero rs w f l = refl
tick_more k (suc n) rs w f l = l.more (record w { ticks = n }) rs

pub ticked : (k : ℕ) {A : Type 0} {f : Act A} → Lawful (k + 2) f → Lawful k (tick >> f)
ticked k {A} {f} l = record {
  step = λ w. tick_step k w.ticks w f refl l;
  more = λ w rs. tick_more k w.ticks rs w f l;
}

-- ---- errors that are caught

catch_step : (k : ℕ) {A : Type 0} (w : World) (e : Ends A) → Step k w e → Step k w (caught e)
catch_step k w (gives a x) s =
    record { ticks = s.ticks; output = s.output; asks = s.asks; cost = s.cost }
catch_step k w (fails v x) s =
    record { ticks = s.ticks; output = s.output; asks = s.asks; cost = s.cost }
catch_step k w (out_of_steps x) s =
    record { ticks = s.ticks; output = s.output; asks = s.asks; cost = s.cost }
catch_step k w (needs ask x) s =
    record { ticks = s.ticks; output = s.output; asks = s.asks; cost = s.cost }

catch_onward : {A : Type 0} (w : World) (e : Ends A) → Onward w (left e) →
    Onward w (left (caught e))
catch_onward w (gives a x) o = o
catch_onward w (fails v x) o = o
catch_onward w (out_of_steps x) o = o
catch_onward w (needs ask x) o = o

catch_more : {A : Type 0} (rs : List Reply) (e e' : Ends A) → Extended rs e e' →
    Extended rs (caught e) (caught e')
catch_more rs (gives a w) e' x = ap caught x
catch_more rs (fails v w) e' x = ap caught x
catch_more rs (out_of_steps w) e' x = ap caught x
catch_more rs (needs ask w) e' x = catch_onward w e' x

pub catches : (k : ℕ) {A : Type 0} {m : Act A} → Lawful k m → Lawful k (catching m)
catches k {A} {m} l = record {
  step = λ w. catch_step k w (m w) (l.step w);
  more = λ w rs. catch_more rs (m w) (m (with_more w rs)) (l.more w rs);
}

-- ---- one value

pub ones : (k : ℕ) {m : Act (List Value)} → Lawful k m → Lawful k (one m)
ones k l = costs (k + 0) k (omega arith) (chain k 0 l (λ vs. gives_lawful _))

pub singles : (k : ℕ) {m : Act Value} → Lawful k m → Lawful k (single m)
singles k l = costs (k + 0) k (omega arith) (chain k 0 l (λ v. gives_lawful _))

-- an act without cost, and one behind it that takes nothing from it
pub behind : (k : ℕ) {A B : Type 0} {m : Act A} {n : Act B} → Lawful 0 m → Lawful k n →
    Lawful k (m >> n)
behind k {A} {B} {m} {n} l h = followed k {f = λ a. n} l (λ a. h)

-- an act without cost where two asks are paid
pub free : {A : Type 0} {m : Act A} → Lawful 0 m → Lawful 2 m
free l = costs 0 2 (omega arith) l

pub ruleset acts = (
  followed,
  behind,
  either,
  gives_lawful,
  raises_lawful,
  looks,
  changes,
  ones,
  singles,
)
