use Rattle.std.proofs.Common.{ℕ, ◌+◌, List, Ok, refl, sym, ap, ◌∙◌, subst, arith}
use Rattle.lua_token.specs.Place.{CountsNewlines, StandsAt, step_length}
use Rattle.lua_token.specs.Cuts.{Between, line_of, nothing}
use Rattle.lua_token.specs.declared.token.Token.{Token}
use Rattle.lua_token.proofs.Parts.{rest_is}
use Rattle.lua_token.proofs.Steps.{taken, line_more}
use Rattle.lua_token.proofs.lexer.cut.Goals as goal

pub loop-start-init : goal.loop-start-init
loop-start-init c = record {
  short = omega arith;
  within = omega arith;
  line = refl;
  so_far = subst (λ (ts : List Token). Between c.args.source.now 0 ts 0) (sym c.new-tokens.ensures.items) nothing;
}

pub loop-start-preserved : goal.loop-start-preserved
loop-start-preserved c =
    let source = c.args.source.now in
    let place = c.loop-start.start in
    let line = c.loop-start.line in
    let so_far = c.loop-start.invariant in
    let step = c.in-Ok.field-0.step in
    let at = subst (λ (text : List ℕ). StandsAt text (Ok step)) (rest_is place source) c.in-Ok.ensures.value in
    let counted = subst (λ (text : List ℕ). CountsNewlines text c.in-Ok.field-0) (rest_is place source) c.in-Ok.ensures.lines in
    let behind = line_more source place (step_length step) line so_far.line ∙ ap (λ (n : ℕ). line_of source (place + n)) (sym c.length-start.ensures) in
    record {
      short = so_far.short;
      within = omega (arith, c.in-Ok.ensures.fits, c.length-start.ensures);
      line = ap (λ (k : ℕ). line + k) counted ∙ behind;
      so_far = taken source c.loop-start.tokens.items c.put.new.tokens.items place line c.length-start.result step so_far.so_far so_far.line at (omega (arith, c.in-Ok.ensures.fits)) c.in_ok-put-in-Ok.ensures c.length-start.ensures;
    }
