-- How programs that do something are put together.
use Rattle.std.proofs.Common.{ℕ, ◌≤◌, ◌<◌, ◌≡◌, arith, List, [], ◌∷◌, true, false}
use Rattle.std.specs.Prelude.{leb}
use Rattle.lua_tree.specs.Tree.{Bytes, Expr}
use Rattle.lua_tree.specs.Words as w
use Rattle.lua_tree.specs.Words.{Word, Key, key, Spot, Tok, tok, word_of, spot_of}
use Rattle.lua_tree.specs.Grammar.{level}
use Rattle.lua_tree.specs.Attributes.{Counts}
use Rattle.lua_tree.specs.Reading.{Sort, Value, Rule, Needs, Prog, give, take, look, expect, expect_name, then, free, program, an_expr, more, suffixes, Place}
use Rattle.lua_tree.proofs.Comes.{both, gives, takes, looks, expects, expects_name, thens, Does}
use Rattle.lua_tree.proofs.Follow.{NotFrom, NotSuffix, Stops}

pub does_give : {s : Sort} {a : Value s} {ts : List Tok} → Does s (give a) ts a ts
does_give = (free, gives)

pub does_take : {s : Sort} {n : Needs} {p : Prog s} {t : Tok} {ts us : List Tok} {a : Value s} → Does s p ts a us
    → Does s (take n p) (t ∷ ts) a us
does_take {n = n} d = (both n d.0, takes d.1)

pub does_look : {s : Sort} {f : Word → Spot → Prog s} {ts us : List Tok} {a : Value s}
    → Does s (f (word_of ts) (spot_of ts)) ts a us → Does s (look f) ts a us
does_look d = (d.0, looks d.1)

pub does_expect : {s : Sort} {k : Key} {n : Needs} {f : Spot → Prog s} {at : Spot} {ts us : List Tok} {a : Value s}
    → Does s (f at) ts a us → Does s (expect k n f) (tok (key k) at ∷ ts) a us
does_expect {n = n} d = (both n d.0, expects d.1)

pub does_expect_name : {s : Sort} {n : Needs} {f : Bytes → Spot → Prog s} {x : Bytes} {at : Spot} {ts us : List Tok} {a : Value s}
    → Does s (f x at) ts a us → Does s (expect_name n f) (tok (w.name x) at ∷ ts) a us
does_expect_name {n = n} d = (both n d.0, expects_name d.1)

pub does_then : {s q : Sort} {r : Rule q} {f : Value q → Prog s} {a : Value q} {ts us vs : List Tok} {b : Value s}
    → Does q (program r) ts a us → Does s (f a) us b vs → Does s (then r f) ts b vs
does_then d e = (both d.0 e.0, thens d.1 e.1)

-- a rule that ends with another one
pub does_last : {s : Sort} {r : Rule s} {a : Value s} {ts us : List Tok} → Does s (program r) ts a us
    → Does s (then r give) ts a us
does_last d = does_then d does_give

-- ---- what gives at once

pub leb_false : (p n : ℕ) → n < p → leb p n ≡ false
leb_false p n h = grind (arith, h)

pub leb_true : (p n : ℕ) → p ≤ n → leb p n ≡ true
leb_true p n h = grind (arith, h)

pub more_gives : (p : ℕ) (c : Counts) (e : Expr) (us : List Tok) → NotFrom p (word_of us)
    → Does an_expr (program (more p c e)) us e us
more_gives p c e [] h = does_look does_give
more_gives p c e (tok (w.op o) s ∷ us) h = does_look (rw (leb_false p (level o) h) does_give)
more_gives p c e (tok v s ∷ us) h = does_look does_give

pub suffixes_give : (k : Place) (c : Counts) (e : Expr) (us : List Tok) → NotSuffix (word_of us)
    → Does an_expr (program (suffixes k c e)) us e us
suffixes_give k c e [] h = does_look does_give
suffixes_give k c e (tok (key w.open_bracket) s ∷ us) h = absurd h
suffixes_give k c e (tok (key w.dot) s ∷ us) h = absurd h
suffixes_give k c e (tok (key w.colon) s ∷ us) h = absurd h
suffixes_give k c e (tok (key w.open_paren) s ∷ us) h = absurd h
suffixes_give k c e (tok (key w.open_brace) s ∷ us) h = absurd h
suffixes_give k c e (tok (w.str x) s ∷ us) h = absurd h
suffixes_give k c e (tok v s ∷ us) h = does_look does_give

pub stops_from : (p : ℕ) (v : Word) → Stops v → NotFrom p v
stops_from p (w.op o) h = absurd h
stops_from p v h = tt
