-- Two texts that were put one behind the other.
use Rattle.std.proofs.Common.{◌≡◌, ◌+◌, ◌≤◌, [], ◌++◌, length, Bool, true, false, Option, Some, None, refl, sym, ap, ◌∙◌, arith}
use Rattle.std.specs.Prelude.{codes, nat_le}
use Rattle.std.proofs.lemmas.Bool.{cond-true, le-leb}
use Rattle.std.proofs.lemmas.List.{length-append}
use Rattle.lua_tree.specs.Tree.{Bytes}
use Rattle.lua_meaning.specs.Value.{Value, str}
use Rattle.lua_meaning.specs.Store.{Store}
use Rattle.lua_code.specs.Doing.{gives, faults, by_texts}
use Rattle.lua_operators.specs.Answers.{HasPut, concat_handled}

-- the second value has no text
pub second_bad : (s : Store) (a b : Value) (x y : Option Bytes) (p q : Bool) (first second third : Bytes) → HasPut x p first second → p ≡ true → HasPut y q second third → q ≡ false → by_texts s a b x y ≡ concat_handled s a b b
second_bad s a b None y p q first second third h is k not_is = cc
second_bad s a b (Some x) None p q first second third h is k not_is = refl
second_bad s a b (Some x) (Some y) p q first second third h is k not_is = let other = k.0 in cc

-- both have, and they aren't too long
pub joined : (s : Store) (a b : Value) (x y : Option Bytes) (p q : Bool) (first second third : Bytes) → first ≡ [] → HasPut x p first second → p ≡ true → HasPut y q second third → q ≡ true → length third ≤ 16777216 → by_texts s a b x y ≡ gives (str third)
joined s a b None y p q first second third empty h is k also le = cc
joined s a b (Some x) None p q first second third empty h is k also le = cc
joined s a b (Some x) (Some y) p q first second third empty h is k also le =
    let e : x ++ y ≡ third = sym (k.1 ∙ ap (λ (t : Bytes). t ++ y) (h.1 ∙ ap (λ (t : Bytes). t ++ x) empty)) in
    let size : length x + length y ≤ 16777216 = omega (arith, length-append x y, ap length e, le) in
    cond-true (nat_le (length x + length y) 16777216) (gives (str (x ++ y))) (faults (codes "string too long")) (le-leb (length x + length y) 16777216 size)
    ∙ ap (λ (t : Bytes). gives (str t)) e
