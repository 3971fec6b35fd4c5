use Rattle.std.proofs.Common.{◌≡◌, ◌+◌, ap, ◌++◌, ◌∷◌, [], List, ℕ, sym, subst, drop, get_or, ◌∙◌, arith}
use Rattle.std.proofs.lemmas.List.{drop-drop}
use Rattle.lua_token.specs.declared.quoted.Character.TheVariants.{Byte}
use Rattle.lua_token.specs.Quoted.{Characters, character_at, nothing}
use Rattle.lua_token.proofs.Parts.{rest_is}
use Rattle.lua_token.proofs.Values.{closing_here}
use Rattle.lua_token.proofs.Strings.{one_more}
use Rattle.lua_token.proofs.value.quoted_bytes.Goals as goal

pub loop-byte-init : goal.loop-byte-init
loop-byte-init c = record {
  some = omega arith;
  within = omega arith;
  so_far = subst (λ (bytes : List ℕ). Characters (get_or c.args.text.now 0 0) (drop 1 c.args.text.now) bytes (drop 1 c.args.text.now)) (sym c.new-bytes.ensures.items) nothing;
}

pub loop-byte-preserved : goal.loop-byte-preserved
loop-byte-preserved c =
    let text = c.args.text.now in
    let quote = get_or text 0 0 in
    let next = subst (λ (rest : List ℕ). character_at quote rest ≡ Byte c.in-Byte.byte c.in-Byte.length) (rest_is c.loop-byte.end text) (sym c.in-Byte.ensures.value) in
    let more = subst (λ (rest : List ℕ). Characters quote (drop 1 text) (c.loop-byte.bytes.items ++ c.in-Byte.byte ∷ []) rest) (drop-drop c.in-Byte.length c.loop-byte.end text) (one_more c.loop-byte.invariant.so_far next) in
    record {
      some = omega (arith, c.in-Byte.ensures.fits);
      within = omega (arith, c.in-Byte.ensures.fits);
      so_far = subst (λ (bytes : List ℕ). Characters quote (drop 1 text) bytes (drop (c.loop-byte.end + c.in-Byte.length) text)) (sym c.in_ok-push.ensures.items) more;
    }

pub returns : goal.returns
returns c =
    let text = c.args.text.now in
    let quote = get_or text 0 0 in
    let closed = c.requires.closed.1 in
    let ends = λ (b n : ℕ) (e : character_at quote (drop c.loop-byte.end text) ≡ Byte b n). c.in_default.not-Byte b n (c.character_at.ensures.value ∙ ap (character_at quote) (rest_is c.loop-byte.end text) ∙ e) in
    (drop c.loop-byte.end text, c.loop-byte.invariant.so_far, closing_here quote c.loop-byte.invariant.so_far ends closed.1 closed.2)
