use Rattle.std.proofs.Common.{◌≡◌, ◌<◌, length, ap, sym, ◌∙◌, subst, arith, List, []}
use Rattle.std.specs.Prelude.{slice_index, slice_set, true}
use Rattle.lua_pattern.specs.Class.{takes}
use Rattle.lua_pattern.specs.Ways.{ways}
use Rattle.lua_pattern.specs.declared.mark.Mark.{Mark}
use Rattle.lua_pattern.specs.declared.mark.Mark.TheVariants as marks
use Rattle.lua_pattern.proofs.WaysLemmas.{none-of, rising-on, close-none_after}
use Rattle.lua_pattern.proofs.matcher.+matcher.Goals as goal

pub nearest_first-loop-end-preserved : goal.nearest_first-loop-end-preserved
nearest_first-loop-end-preserved t c =
    let rest = c.args.rest.now in
    let text = c.args.text.now in
    let none = none-of _ _ _ _ c.in_default.not-Some c.follow.ensures in
    let within : c.loop-end.place < length text = omega arith in
    let here = subst (λ (ms : List Mark). ways rest text c.loop-end.place ms ≡ []) c.loop-end.invariant.same none.0 in
    let taken : takes c.args.class.now (slice_index text c.loop-end.place) ≡ true = sym c.takes.ensures ∙ c.if-not-takes.false in
    record {
      within = omega arith;
      same = none.1 ∙ c.loop-end.invariant.same;
      so_far = c.loop-end.invariant.so_far ∙ rising-on c.args.class.now rest text c.args.marks.now c.loop-end.place within taken here;
    }

pub follow_close-returns : goal.follow_close-returns
follow_close-returns t c =
    let rest = c.args.rest.now in
    let text = c.args.text.now in
    let i = c.in_ok-i.i in
    let start = c.in_ok-i.start in
    let none = none-of _ _ _ _ c.in_default.not-Some c.follow.ensures in
    let here = subst (λ (ms : List Mark). ways rest text c.args.at ms ≡ []) c.set.ensures none.0 in
    close-none_after rest text c.args.at c.args.marks.now c.set-2.new.self i start c.in_ok-i.ensures here
    (c.set-2.ensures ∙ ap (λ (ms : List Mark). slice_set ms i (marks.Open start)) (none.1 ∙ c.set.ensures))
