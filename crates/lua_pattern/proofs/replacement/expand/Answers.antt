use Rattle.std.proofs.Common.{ℕ, ◌+◌, ◌<◌, List, [], ◌++◌, drop, length, Ok, Bool, sym, ap, ◌∙◌, append_assoc, arith}
use Rattle.std.proofs.lemmas.List.{append-nil}
use Rattle.lua_pattern.specs.Gsub.{expanded, joined}
use Rattle.lua_pattern.proofs.GsubLemmas.{joined-none, expanded-more}
use Rattle.lua_pattern.proofs.replacement.expand.Goals as goal

pub loop-byte-init : goal.loop-byte-init
loop-byte-init c = ([], sym (append-nil _), sym (joined-none _))

pub loop-byte-preserved : goal.loop-byte-preserved
loop-byte-preserved c =
    let replacement = c.args.replacement.now in
    let text = c.args.text.now in
    let m = c.args.found.now in
    let i = c.loop-byte.byte-index in
    let before = c.loop-byte.invariant in
    let put = c.in_ok-put_byte.ensures.ok in
    let within : i < length replacement = omega arith in (
      before.0 ++ put.0,
      put.2 ∙ ap (λ (bytes : List ℕ). bytes ++ put.0) before.1 ∙ append_assoc c.args.made.now.items before.0 put.0,
      before.2 ∙ expanded-more c.loop-byte.percent replacement text m i before.0 put.0 within put.1
          ∙ ap (λ (percent : Bool). joined (Ok (before.0 ++ put.0)) (expanded percent (drop (i + 1) replacement) text m)) (sym c.is_escape-percent.ensures),
    )
