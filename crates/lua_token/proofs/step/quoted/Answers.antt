use Rattle.std.proofs.Common.{◌≡◌, ◌++◌, ◌∷◌, [], List, ℕ, ◌+◌, ◌-◌, sym, ap, ◌∙◌, subst, take, drop, get_or, arith}
use Rattle.std.proofs.lemmas.List.{drop-drop}
use Rattle.lua_token.specs.Bytes.{newlines}
use Rattle.lua_token.specs.declared.quoted.Character.TheVariants.{Byte, Closing}
use Rattle.lua_token.specs.Quoted.{Characters, character_at, nothing}
use Rattle.lua_token.proofs.Lines.{before_none, closing_in_line, first_none, newlines_add, newlines_bound, quote_is_none}
use Rattle.lua_token.proofs.Parts.{rest_is}
use Rattle.lua_token.proofs.Strings.{one_more}
use Rattle.lua_token.proofs.step.quoted.Goals as goal

pub loop-length-init : goal.loop-length-init
loop-length-init c = record {
  some = omega arith;
  within = omega arith;
  lines = sym (first_none c.args.text.now (quote_is_none c.args.text.now c.requires.quote));
  so_far = ([], nothing);
}

pub overflow_add-passed : goal.overflow_add-passed
overflow_add-passed c =
    let text = c.args.text.now in
    let place = c.loop-length.end in
    omega (arith, c.in-Byte.ensures.fits, c.loop-length.invariant.lines, newlines_bound place text, c.newlines-passed.ensures, newlines_bound (place + c.in-Byte.length - place) (drop place text))

pub loop-length-preserved : goal.loop-length-preserved
loop-length-preserved c =
    let text = c.args.text.now in
    let place = c.loop-length.end in
    let so_far = c.loop-length.invariant.so_far in
    let bytes = so_far.0 ++ c.in-Byte.field-0 ∷ [] in
    let next = subst (λ (rest : List ℕ). character_at (get_or text 0 0) rest ≡ Byte c.in-Byte.field-0 c.in-Byte.length) (rest_is place text) (sym c.in-Byte.ensures.value) in
    let more = one_more so_far.1 next in
    let n : place + c.in-Byte.length - place ≡ c.in-Byte.length = omega arith in
    let counted = c.newlines-passed.ensures ∙ ap (λ (k : ℕ). newlines (take k (drop place text))) n in
    record {
      some = omega (arith, c.in-Byte.ensures.fits);
      within = omega (arith, c.in-Byte.ensures.fits);
      lines = omega (arith, newlines_add place c.in-Byte.length text, counted, c.loop-length.invariant.lines);
      so_far = (bytes, subst (λ (rest : List ℕ). Characters (get_or text 0 0) (drop 1 text) bytes rest) (drop-drop c.in-Byte.length place text) more);
    }

pub returns-in-Closing-clause-lines : goal.returns-in-Closing-clause-lines
returns-in-Closing-clause-lines c =
    let text = c.args.text.now in
    let place = c.loop-length.end in
    let closing = subst (λ (rest : List ℕ). character_at (get_or text 0 0) rest ≡ Closing) (rest_is place text) (sym c.in-Closing.ensures.value) in
    let none = closing_in_line (get_or text 0 0) (drop place text) (quote_is_none text c.requires.quote) closing in
    c.loop-length.invariant.lines ∙ sym (before_none place 1 text none)
