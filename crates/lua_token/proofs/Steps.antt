-- The tokens so far, step by step.
use Rattle.std.proofs.Common.{cond, ◌≡◌, ℕ, ◌+◌, ◌≤◌, List, ◌++◌, length, take, drop, Ok, refl, ap, ◌∙◌, arith}
use Rattle.std.specs.Prelude.{count_by, ◌==◌}
use Rattle.std.proofs.lemmas.List.{length-take}
use Rattle.std.proofs.lemmas.List.Sums.{sum_by-append, count_by-le-length}
use Rattle.std.proofs.Math.Seq.{take-add}
use Rattle.lua_token.specs.Place.{StandsAt, step_length}
use Rattle.lua_token.specs.Cuts.{line_of, Between, nothing, then_blank, then_token, tokens_of}
use Rattle.lua_token.specs.declared.token.Token.{Token}
use Rattle.lua_token.specs.declared.step.Step.{Step}
use Rattle.lua_token.specs.declared.step.Step.TheVariants.{Skip, Found}

pub and_then : {source : List ℕ} {a b c : ℕ} {ts us : List Token} → Between source a ts b → Between source b us c → Between source a (ts ++ us) c
and_then nothing k = k
and_then (then_blank n at h) k = then_blank n at (and_then h k)
and_then (then_token t start at h) k = then_token t start at (and_then h k)

one_step : (source : List ℕ) (place line : ℕ) (step : Step) → line ≡ line_of source place → StandsAt (drop place source) (Ok step) → place + step_length step ≤ length source → Between source place (tokens_of step place line) (place + step_length step)
one_step source place line (Skip n) e at within = then_blank n at nothing
one_step source place line (Found kind n) e at within =
    then_token (record { kind = kind; start = place; length = n; line = line }) refl (record { found = at; within = within; line = e }) nothing

-- the tokens so far, and those of the next step
pub extended : (source : List ℕ) (ts : List Token) (place line : ℕ) (step : Step) → Between source 0 ts place → line ≡ line_of source place
    → StandsAt (drop place source) (Ok step) → place + step_length step ≤ length source → Between source 0 (ts ++ tokens_of step place line) (place + step_length step)
extended source ts place line step h e at within = and_then h (one_step source place line step e at within)

-- the line behind n more bytes
pub line_more : (source : List ℕ) (place n line : ℕ) → line ≡ line_of source place → line + count_by (λ b. b == 10) (take n (drop place source)) ≡ line_of source (place + n)
line_more source place n line e =
    let both = ap (count_by (λ (b : ℕ). b == 10)) (take-add place n source) ∙ sum_by-append (λ (b : ℕ). cond (b == 10) 1 0) (take place source) (take n (drop place source)) in
    omega (arith, both, e)

pub line_bound : (source : List ℕ) (place : ℕ) → line_of source place ≤ 1 + length source
line_bound source place = omega (arith, count_by-le-length (λ (b : ℕ). b == 10) (take place source), length-take place source)

pub taken : (source : List ℕ) (ts us : List Token) (place line n : ℕ) (step : Step) → Between source 0 ts place → line ≡ line_of source place
    → StandsAt (drop place source) (Ok step) → place + step_length step ≤ length source → us ≡ ts ++ tokens_of step place line → n ≡ step_length step → Between source 0 us (place + n)
taken source ts us place line n step h e at within us_is n_is = rw (us_is, n_is) (extended source ts place line step h e at within)

-- whole steps so far, and one more
pub further : (source : List ℕ) (ts : List Token) (place n : ℕ) (step : Step) → Between source 0 ts place → StandsAt (drop place source) (Ok step)
    → place + step_length step ≤ length source → n ≡ step_length step → (us : List Token) × Between source 0 us (place + n)
further source ts place n step h at within n_is =
    (ts ++ tokens_of step place (line_of source place), rw n_is (extended source ts place (line_of source place) step h refl at within))
