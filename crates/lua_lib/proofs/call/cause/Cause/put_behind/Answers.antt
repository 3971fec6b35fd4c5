use Rattle.std.proofs.Common.{ℕ, List, ◌++◌, ap, ◌∙◌}
use Rattle.lua_heap.specs.Native.{native_view}
use Rattle.lua_lib.specs.Texts.{cause_text}
use Rattle.lua_lib.proofs.Texts.{placed-put}
use Rattle.lua_lib.proofs.call.cause.Cause.put_behind.Goals as goal

pub returns : goal.returns
returns c =
    let text = cause_text (native_view c.args.native) c.args.self.now in
    c.in_ok-put_text.ensures
    ∙ (ap (λ (t : List ℕ). t ++ text) c.in_ok-put_place.ensures ∙ placed-put c.args.buffer.now.items c.args.file.now text c.args.line)
