-- Steps of reading: what a token that is taken, a word that is looked for and a rule that is called come to.
use Rattle.std.proofs.Common.{◌≡◌, ℕ, suc, ◌+◌, ◌<◌, ◌≤◌, List, [], ◌∷◌, refl, sym, subst, arith}
use Rattle.lua_tree.specs.Words as w
use Rattle.lua_tree.specs.Words.{Word, Key, key, Spot, Tok, tok, word_of, spot_of}
use Rattle.lua_tree.specs.Attributes.{Limit, breaks, varargs, nodes, locals, calls, Counts}
use Rattle.lua_tree.specs.Tree.{Bytes}
use Rattle.lua_tree.specs.Reading.{Sort, Value, Rule, Prog, give, take, look, expect, expect_name, then, Needs, free, deep, many, Answer, got, stuck, over, fault_number, Keeps, Passes, Reads, gives, takes, passes, looks, expects, expects_name, thens, stops, program}
use Rattle.lua_tree.specs.Answer.{limits}

pub keeps_free : Keeps limits free
keeps_free x = omega arith

pub keeps_deep : (n : ℕ) → n ≤ 200 → Keeps limits (deep n)
keeps_deep n h breaks = omega arith
keeps_deep n h varargs = omega arith
keeps_deep n h nodes = h
keeps_deep n h locals = omega arith
keeps_deep n h calls = omega arith

pub keeps_many : (n : ℕ) → n ≤ 200 → Keeps limits (many n)
keeps_many n h breaks = omega arith
keeps_many n h varargs = omega arith
keeps_many n h nodes = omega arith
keeps_many n h locals = h
keeps_many n h calls = omega arith

lower_deep : (n : ℕ) (y : Limit) → fault_number y < fault_number nodes → deep n y ≤ limits y
lower_deep n breaks l = omega arith
lower_deep n varargs l = omega arith
lower_deep n nodes l = absurd (omega (arith, l))
lower_deep n locals l = absurd (omega (arith, l))
lower_deep n calls l = absurd (omega (arith, l))

pub passes_deep : (n : ℕ) → 200 < n → Passes limits (deep n) nodes
passes_deep n h = (h, lower_deep n)

lower_many : (n : ℕ) (y : Limit) → fault_number y < fault_number locals → many n y ≤ limits y
lower_many n breaks l = omega arith
lower_many n varargs l = omega arith
lower_many n nodes l = omega arith
lower_many n locals l = absurd (omega (arith, l))
lower_many n calls l = absurd (omega (arith, l))

pub passes_many : (n : ℕ) → 200 < n → Passes limits (many n) locals
passes_many n h = (h, lower_many n)

-- the next word is looked at
pub look_at : {s : Sort} {f : Word → Spot → Prog s} {v : Word} {at : Spot} {ts us : List Tok} {r : Answer (Value s)}
    → ts ≡ tok v at ∷ us → Reads limits s (f v at) ts r → Reads limits s (look f) ts r
look_at {s = s} {f = f} {v = v} {at = at} {ts = ts} {us = us} {r = r} e d =
    looks (subst (λ (xs : List Tok). Reads limits s (f (word_of xs) (spot_of xs)) ts r) (sym e) d)

-- a token is taken
pub take_at : {s : Sort} {n : Needs} {p : Prog s} {t : Tok} {ts us : List Tok} {r : Answer (Value s)}
    → ts ≡ t ∷ us → Keeps limits n → Reads limits s p us r → Reads limits s (take n p) ts r
take_at {s = s} {n = n} {p = p} {r = r} e k d = subst (λ (xs : List Tok). Reads limits s (take n p) xs r) (sym e) (takes k d)

-- a token passes a limit
pub passed_at : {s : Sort} {n : Needs} {p : Prog s} {x : Limit} {t : Tok} {ts us : List Tok}
    → ts ≡ t ∷ us → Passes limits n x → Reads limits s (take n p) ts (stuck (over x) ts)
passed_at {s = s} {n = n} {p = p} {x = x} e k = subst (λ (xs : List Tok). Reads limits s (take n p) xs (stuck (over x) xs)) (sym e) (passes k)

-- the word that is looked for stands next
pub expect_at : {s : Sort} {k : Key} {n : Needs} {f : Spot → Prog s} {at : Spot} {ts us : List Tok} {r : Answer (Value s)}
    → ts ≡ tok (key k) at ∷ us → Keeps limits n → Reads limits s (f at) us r → Reads limits s (expect k n f) ts r
expect_at {s = s} {k = k} {n = n} {f = f} {r = r} e m d = subst (λ (xs : List Tok). Reads limits s (expect k n f) xs r) (sym e) (expects (takes m d))

-- so does a name
pub name_at : {s : Sort} {n : Needs} {f : Bytes → Spot → Prog s} {x : Bytes} {at : Spot} {ts us : List Tok} {r : Answer (Value s)}
    → ts ≡ tok (w.name x) at ∷ us → Keeps limits n → Reads limits s (f x at) us r → Reads limits s (expect_name n f) ts r
name_at {s = s} {n = n} {f = f} {r = r} e m d = subst (λ (xs : List Tok). Reads limits s (expect_name n f) xs r) (sym e) (expects_name (takes m d))

-- a name passes a limit
pub name_passed : {s : Sort} {n : Needs} {f : Bytes → Spot → Prog s} {x : Bytes} {at : Spot} {y : Limit} {ts us : List Tok}
    → ts ≡ tok (w.name x) at ∷ us → Passes limits n y → Reads limits s (expect_name n f) ts (stuck (over y) ts)
name_passed {s = s} {n = n} {f = f} {y = y} e m = subst (λ (xs : List Tok). Reads limits s (expect_name n f) xs (stuck (over y) xs)) (sym e) (expects_name (passes m))

-- a rule whose value is given as it is
pub just : {s : Sort} {q : Rule s} {ts : List Tok} {r : Answer (Value s)} → Reads limits s (program q) ts r → Reads limits s (then q give) ts r
just {r = got a us} d = thens d gives
just {r = stuck x us} d = stops d
