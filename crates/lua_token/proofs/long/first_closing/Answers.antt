use Rattle.std.proofs.Common.{◌≡◌, ◌≤◌, ℕ, List, length, drop, Some, inl, inr, arith}
use Rattle.std.proofs.lemmas.Bool.{cases_lt}
use Rattle.std.proofs.lemmas.List.{at_drop_all}
use Rattle.lua_token.specs.Long.{level}
use Rattle.lua_token.proofs.long.first_closing.Goals as goal

-- no bracket stands past the end
none_past : (body : List ℕ) (k n : ℕ) → length body ≤ k → level 93 (drop k body) ≡ Some n → ⊥
unfolding level
none_past body k n past at = let e = at_drop_all (level 93) body k past in cc

pub returns-clause-value : goal.returns-clause-value
returns-clause-value c = λ k at.
    elim (cases_lt k c.loop-at.at) [ inl before ↦ c.loop-at.invariant.none k before at | inr past ↦ none_past c.args.body.now k c.args.wanted (omega arith) at ]
