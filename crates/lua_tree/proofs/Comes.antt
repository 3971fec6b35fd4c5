-- What a program reads without limits, and how much of what is limited its tokens make unavoidable.
use Rattle.std.proofs.Common.{max, List, [], ◌∷◌}
use Rattle.lua_tree.specs.Tree.{Bytes}
use Rattle.lua_tree.specs.Words as w
use Rattle.lua_tree.specs.Words.{Word, Key, key, Spot, Tok, tok, word_of, spot_of}
use Rattle.lua_tree.specs.Reading.{Sort, Value, Rule, Needs, Prog, give, take, look, expect, expect_name, at_last, then, free, program}

-- both make unavoidable so much
abbrev pub both : Needs → Needs → Needs
both n m x = max (n x) (m x)

-- the program reads this value from the front of the tokens, leaves the later ones, and what it takes makes so much unavoidable
pub data Comes : (s : Sort) → Prog s → List Tok → Value s → List Tok → Needs → Type 0 where
  gives : {s : Sort} {a : Value s} {ts : List Tok} → Comes s (give a) ts a ts free
  takes : {s : Sort} {n l : Needs} {p : Prog s} {t : Tok} {ts us : List Tok} {a : Value s} → Comes s p ts a us l
      → Comes s (take n p) (t ∷ ts) a us (both n l)
  looks : {s : Sort} {l : Needs} {f : Word → Spot → Prog s} {ts us : List Tok} {a : Value s}
      → Comes s (f (word_of ts) (spot_of ts)) ts a us l → Comes s (look f) ts a us l
  expects : {s : Sort} {k : Key} {n l : Needs} {f : Spot → Prog s} {at : Spot} {ts us : List Tok} {a : Value s}
      → Comes s (f at) ts a us l → Comes s (expect k n f) (tok (key k) at ∷ ts) a us (both n l)
  expects_name : {s : Sort} {n l : Needs} {f : Bytes → Spot → Prog s} {x : Bytes} {at : Spot} {ts us : List Tok} {a : Value s}
      → Comes s (f x at) ts a us l → Comes s (expect_name n f) (tok (w.name x) at ∷ ts) a us (both n l)
  is_last : {s : Sort} {a : Value s} → Comes s (at_last a) [] a [] free
  thens : {s q : Sort} {r : Rule q} {f : Value q → Prog s} {a : Value q} {ts us vs : List Tok} {b : Value s} {l m : Needs}
      → Comes q (program r) ts a us l → Comes s (f a) us b vs m → Comes s (then r f) ts b vs (both l m)

-- it reads so, whatever it makes unavoidable
abbrev pub Does : (s : Sort) → Prog s → List Tok → Value s → List Tok → Type 0
Does s p ts a us = (l : Needs) × Comes s p ts a us l

-- from these tokens it goes on as another program from those
abbrev pub Leads : (s : Sort) → Prog s → List Tok → Prog s → List Tok → Type 0
Leads s p ts q us = (a : Value s) (vs : List Tok) → Does s q us a vs → Does s p ts a vs
