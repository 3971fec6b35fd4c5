use Rattle.std.proofs.Common.{List, ℕ, ap, sym, ◌∙◌}
use Rattle.std.specs.Prelude.{codes}
use Rattle.lua_meaning.specs.Store.{handler}
use Rattle.lua_heap.specs.Value.{value_view}
use Rattle.lua_heap.specs.Heap.{store_of}
use Rattle.lua_heap.proofs.Callers.{value_view-later}
use Rattle.lua_lib.proofs.Reading.{text_at-is}
use Rattle.lua_lib.proofs.call.metatables.protection.Goals as goal

pub returns-clause-field : goal.returns-clause-field
returns-clause-field c =
    let h = c.args.heap.now in
    let k = c.intern.new.self in
    let v = c.args.value.now in
    c.handler.ensures.handler
    ∙ (ap (λ (t : List ℕ). handler (store_of k) (value_view k.texts v) t) (sym (text_at-is k.texts c.in_ok-name.name (codes "__metatable") c.in_ok-name.ensures.id))
    ∙ (ap (λ w. handler (store_of k) w (codes "__metatable")) (value_view-later h k c.intern.ensures.extends v c.requires)
    ∙ ap (λ s. handler s (value_view h.texts v) (codes "__metatable")) c.intern.ensures.store))
