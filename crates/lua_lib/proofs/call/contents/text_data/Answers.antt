use Rattle.std.proofs.Common.{ap, ◌∙◌}
use Rattle.lua_meaning.specs.Store.{add_contents}
use Rattle.lua_heap.specs.Heap.{store_of}
use Rattle.lua_lib.proofs.Parts.{contents-are}
use Rattle.lua_lib.proofs.Reading.{text_at-is}
use Rattle.lua_lib.proofs.call.contents.text_data.Goals as goal

pub returns-clause-store : goal.returns-clause-store
returns-clause-store c =
    let h = c.args.heap.now in
    c.in_ok-made.ensures.store.store
    ∙ ap (add_contents (store_of h)) (contents-are c.in_ok-data.data _ (c.in_ok-data.ensures.bytes ∙ text_at-is h.texts c.args.id c.string.result.now c.string.ensures.text) c.in_ok-data.ensures.name)
