use Rattle.std.proofs.Common.{◌≡◌, ℕ, Some, ap, ◌∙◌, drop, ◌-◌, ◌<◌, length, suc, arith, subst}
use Rattle.std.proofs.lemmas.Option.{slice_get-get_or}
use Rattle.std.specs.Prelude.{None}
use Rattle.lua_pattern.specs.Ways.{close}
use Rattle.lua_pattern.specs.declared.mark.Mark.TheVariants as marks
use Rattle.lua_pattern.proofs.WaysLemmas.{close-at}
use Rattle.lua_pattern.proofs.mark.last_open.Goals as goal

pub returns-in-Open : goal.returns-in-Open
returns-in-Open c =
    let ms = c.args.marks.now in
    let i = c.loop-i.i - 1 in
    let within : i < length ms = omega arith in
    let next : c.loop-i.i ≡ suc i = omega arith in
    let found = slice_get-get_or ms i (marks.Open 0) within ∙ ap (λ m. Some m) c.in-Open.is in
    (within, found, λ at. close-at ms i c.in-Open.start at found (subst (λ (k : ℕ). close at (drop k ms) ≡ None) next (c.loop-i.invariant.none_behind at)))
