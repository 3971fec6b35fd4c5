use Rattle.std.proofs.Common.{◌≡◌, ℕ, List, [], length, Ok, Err, inl, inr, refl, subst, arith}
use Rattle.lua_token.specs.Answer.{too_long}
use Rattle.lua_token.specs.Place.{StandsAt}
use Rattle.lua_token.specs.Cuts.{Between, line_of, nothing}
use Rattle.lua_token.proofs.Parts.{rest_is}
use Rattle.lua_token.proofs.Steps.{further}
use Rattle.lua_token.proofs.laws.some_answer.Goals as goal

pub returns-then-source-gt-MAX_LENGTH : goal.returns-then-source-gt-MAX_LENGTH
returns-then-source-gt-MAX_LENGTH c = (Err too_long, inl (omega arith, refl))

pub loop-start-init : goal.loop-start-init
loop-start-init c = record {
  short = omega arith;
  within = omega arith;
  so_far = ([], nothing);
}

pub loop-start-preserved : goal.loop-start-preserved
loop-start-preserved c =
    let source = c.args.source.now in
    let place = c.loop-start.start in
    let at = subst (λ (text : List ℕ). StandsAt text (Ok c.in-Ok.counted.step)) (rest_is place source) c.in-Ok.ensures.value in
    record {
      short = c.loop-start.invariant.short;
      within = omega (arith, c.in-Ok.ensures.fits, c.length-start.ensures);
      so_far = further source c.loop-start.invariant.so_far.0 place c.length-start.result c.in-Ok.counted.step c.loop-start.invariant.so_far.1 at (omega (arith, c.in-Ok.ensures.fits)) c.length-start.ensures;
    }

pub returns-in-Err : goal.returns-in-Err
returns-in-Err c =
    let source = c.args.source.now in
    let place = c.loop-start.start in
    let so_far = c.loop-start.invariant in
    let at = subst (λ (text : List ℕ). StandsAt text (Err c.in-Err.field-0)) (rest_is place source) c.in-Err.ensures.value in
    (Err (record { line = line_of source place; what = c.in-Err.field-0 }), inr (so_far.short, (so_far.so_far.0, place, so_far.so_far.1, at, refl)))

pub returns : goal.returns
returns c =
    let source = c.args.source.now in
    let so_far = c.loop-start.invariant in
    let end : c.loop-start.start ≡ length source = omega arith in
    (Ok so_far.so_far.0, (so_far.short, subst (λ (place : ℕ). Between source 0 so_far.so_far.0 place) end so_far.so_far.1))
