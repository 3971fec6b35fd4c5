use Rattle.std.proofs.Common.{◌≡◌, ◌+◌, ◌++◌, List, ℕ, true, false, drop, subst, sym, ap, ◌∙◌}
use Rattle.std.specs.Global.{Vec}
use Rattle.lua_token.specs.Value.{plain_lines, is_return_newline}
use Rattle.lua_token.proofs.Parts.{rest_is}
use Rattle.lua_token.proofs.Strings.{skips_return, keeps_byte}
use Rattle.lua_token.proofs.value.plain_lines.Goals as goal
use Rattle.lua_token.proofs.value.plain_lines.Goals.{then-not-is_return_newline+in_ok-push, else-not-is_return_newline}

pub loop-at-preserved : goal.loop-at-preserved
loop-at-preserved c =
    let text = c.args.text.now in
    let at = c.loop-at.at in
    let before = c.loop-at.bytes.items in
    let rest = rest_is at text in
    elim c.if-not-is_return_newline.branch [
      | then-not-is_return_newline+in_ok-push w ↦
          let kept = subst (λ (t : List ℕ). is_return_newline t ≡ false) rest (sym w.if-not-is_return_newline.ensures) in
          let items = ap (λ (v : Vec ℕ). v.items) w.bytes-is ∙ w.in_ok-push.ensures.items in
          ap (λ (bytes : List ℕ). bytes ++ plain_lines (drop (at + 1) text)) items ∙ keeps_byte text before (plain_lines text) at c.loop-at-test.true kept c.loop-at.invariant
      | else-not-is_return_newline w ↦
          let left_out = subst (λ (t : List ℕ). is_return_newline t ≡ true) rest (sym w.if-not-is_return_newline.ensures) in
          let items = ap (λ (v : Vec ℕ). v.items) w.bytes-is in
          ap (λ (bytes : List ℕ). bytes ++ plain_lines (drop (at + 1) text)) items ∙ skips_return text before (plain_lines text) at c.loop-at-test.true left_out c.loop-at.invariant
    ]
