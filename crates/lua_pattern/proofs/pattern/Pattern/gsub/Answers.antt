use Rattle.std.proofs.Common.{ℕ, ◌+◌, ◌++◌, List, Option, false, sym, ap, ◌∙◌, subst, append_assoc, arith}
use Rattle.std.specs.Prelude.{slice_range}
use Rattle.lua_pattern.specs.Walk.{IsStep, whole}
use Rattle.lua_pattern.specs.Gsub.{Gsub, made_before, expanded}
use Rattle.lua_pattern.specs.declared.found.Match.{Match}
use Rattle.lua_pattern.specs.declared.walk.Walk.{Walk}
use Rattle.lua_pattern.proofs.GsubLemmas.{replaced_more, refused_at, copied_rest, left_falls}
use Rattle.lua_pattern.proofs.pattern.Pattern.gsub.Goals as goal

pub returns-in_default-clause-ok : goal.returns-in_default-clause-ok
returns-in_default-clause-ok c =
    let p = c.args.self.now in
    let text = c.args.text.now in
    let made = c.loop-made.made.items in
    let step = subst (λ (found : Option Match). IsStep p text c.loop-made.walk found c.next_match.new.walk) c.in_default.is c.in_ok-found.ensures.step in
    let all = c.from_vec.ensures ∙ c.in_ok-extend_from_slice.ensures.items ∙ ap (λ (bytes : List ℕ). made ++ bytes) c.between.ensures in
    copied_rest p text (expanded false c.args.replacement.now text) (whole c.args.limit) made c.from_vec.result c.loop-made.count c.loop-made.walk c.loop-made.invariant.so_far step.0 all

pub returns-in-Err-clause-fault : goal.returns-in-Err-clause-fault
returns-in-Err-clause-fault c =
    let p = c.args.self.now in
    let text = c.args.text.now in
    let step = subst (λ (found : Option Match). IsStep p text c.loop-made.walk found c.next_match.new.walk) c.in-Some.is c.in_ok-found.ensures.step in
    refused_at p text (expanded false c.args.replacement.now text) (whole c.args.limit) c.loop-made.made.items c.loop-made.count c.loop-made.walk c.in-Some.found c.in-Err.fault c.loop-made.invariant.so_far step.0 c.in-Err.ensures.fault

pub loop-made-preserved : goal.loop-made-preserved
loop-made-preserved c =
    let p = c.args.self.now in
    let text = c.args.text.now in
    let r = expanded false c.args.replacement.now text in
    let from = whole c.args.limit in
    let made = c.loop-made.made.items in
    let count = c.loop-made.count in
    let walk = c.loop-made.walk in
    let found = c.in-Some.found in
    let step = subst (λ (m : Option Match). IsStep p text walk m c.next_match.new.walk) c.in-Some.is c.in_ok-found.ensures.step in
    let puts = c.in-Ok.ensures.ok in
    let falls = left_falls p walk found step.0.0 in
    let left = ap (λ (w : Walk). w.left) step.1 in
    let more = replaced_more p text r from made count walk found puts.0 c.loop-made.invariant.so_far step.0 puts.1 in
    let copied = c.in_ok-extend_from_slice-2.ensures.items ∙ ap (λ (bytes : List ℕ). made ++ bytes) c.between-in-loop-made.ensures in
    let items = puts.2 ∙ ap (λ (bytes : List ℕ). bytes ++ puts.0) copied ∙ append_assoc made (slice_range text walk.passed found.start) puts.0 in
    record {
      few = omega (arith, falls, left, c.loop-made.invariant.few);
      so_far = λ rest h. subst (λ (bytes : List ℕ). Gsub p text r from (made_before bytes (count + 1) rest)) (sym items) (more rest (subst (λ (w : Walk). Gsub p text r w rest) step.1 h));
    }
