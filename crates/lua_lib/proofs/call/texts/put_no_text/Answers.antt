use Rattle.std.proofs.Common.{◌≡◌, ℕ, List, ◌++◌, ap, ◌∙◌}
use Rattle.std.specs.Prelude.{codes}
use Rattle.std.specs.Fmt.{signed_decimal}
use Rattle.lua_lib.proofs.Texts.{five-put}
use Rattle.lua_lib.proofs.call.texts.put_no_text.Goals as goal

pub returns : goal.returns
returns c =
    let old = c.args.buffer.now.items in
    let got = c.args.got.now in
    let shown : c.as_bytes.result.now ≡ signed_decimal c.args.number = cc in
    five-put old c.put.new.buffer.items c.put-2.new.buffer.items c.put-3.new.buffer.items c.put-4.new.buffer.items c.put-5.new.buffer.items (codes "invalid value (") got (codes ") at index ")
    c.as_bytes.result.now (codes " in table for 'concat'") c.in_ok-put.ensures c.in_ok-put-2.ensures c.in_ok-put-3.ensures c.in_ok-put-4.ensures c.in_ok-put-5.ensures
    ∙ ap (λ (t : List ℕ). old ++ (codes "invalid value (" ++ (got ++ (codes ") at index " ++ (t ++ codes " in table for 'concat'"))))) shown
