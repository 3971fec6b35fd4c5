use Rattle.std.proofs.Common.{◌≡◌, ℕ, List, ◌++◌, ap, ◌∙◌}
use Rattle.std.specs.Prelude.{codes, decimal}
use Rattle.lua_lib.proofs.Texts.{five-put}
use Rattle.lua_lib.proofs.call.texts.put_bad.Goals as goal

pub returns : goal.returns
returns c =
    let old = c.args.buffer.now.items in
    let shown : c.as_bytes.result.now ≡ decimal c.args.argument = cc in
    five-put old c.put.new.buffer.items c.put-2.new.buffer.items c.put-3.new.buffer.items c.put-4.new.buffer.items c.put-5.new.buffer.items (codes "bad argument #") c.as_bytes.result.now (codes " to '")
    c.args.function.now (codes "' (") c.in_ok-put.ensures c.in_ok-put-2.ensures c.in_ok-put-3.ensures c.in_ok-put-4.ensures c.in_ok-put-5.ensures
    ∙ ap (λ (t : List ℕ). old ++ (codes "bad argument #" ++ (t ++ (codes " to '" ++ (c.args.function.now ++ codes "' ("))))) shown
