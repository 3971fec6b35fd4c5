use Rattle.std.proofs.Common.{◌≡◌, ℕ, ◌+◌, List, inr, refl, sym, ap, ◌∙◌, subst, take, drop, Some}
use Rattle.std.specs.List.{prefix_len}
use Rattle.lua_token.specs.Bytes.{is_of, newlines}
use Rattle.lua_token.specs.Long.{level, LongAt, SpanCounts}
use Rattle.lua_token.specs.declared.bytes.Class.TheVariants.{InLine}
use Rattle.lua_token.proofs.Lines.{behind_none, dashes_in_line, run_in_line}
use Rattle.lua_token.proofs.Parts.{rest_is}
use Rattle.lua_token.proofs.step.comment.Goals as goal

pub returns-in-None-clause-lines : goal.returns-in-None-clause-lines
returns-in-None-clause-lines c =
    let text = c.args.text.now in
    let run = c.run_length-length.ensures.value ∙ ap (prefix_len (is_of InLine)) (rest_is 2 text) in
    let all = behind_none 2 (prefix_len (is_of InLine) (drop 2 text)) text (dashes_in_line text c.requires.dashes) ∙ run_in_line InLine (drop 2 text) in
    sym (subst (λ (n : ℕ). newlines (take (2 + n) text) ≡ 0) (sym run) all)

pub returns-in-Some-long_span-clause-value : goal.returns-in-Some-long_span-clause-value
returns-in-Some-long_span-clause-value c =
    let body = rest_is 2 c.args.text.now in
    inr (
      c.in-Some.opened,
      Some c.in-Some-long_span.span.length,
      subst (λ (t : List ℕ). level 91 t ≡ Some c.in-Some.opened) body (sym c.in-Some.ensures.value),
      subst (λ (t : List ℕ). LongAt c.in-Some.opened t (Some c.in-Some-long_span.span.length)) body c.in-Some-long_span.ensures.value,
      refl,
    )

pub returns-in-Some-long_span-clause-lines : goal.returns-in-Some-long_span-clause-lines
returns-in-Some-long_span-clause-lines c =
    let text = c.args.text.now in
    let span = c.in-Some-long_span.span in
    let counted = subst (λ (t : List ℕ). SpanCounts t span) (rest_is 2 text) c.in-Some-long_span.ensures.lines in
    counted ∙ sym (behind_none 2 span.length text (dashes_in_line text c.requires.dashes))
