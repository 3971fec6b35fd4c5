use Rattle.std.proofs.Common.{ap, ◌∙◌}
use Rattle.std.specs.Prelude.{codes}
use Rattle.lua_meaning.specs.Native.{love_thread, love_data, love_filesystem, love_event, on_shelf}
use Rattle.lua_heap.specs.Library.{with_functions, with_table}
use Rattle.lua_heap.proofs.heap.Heap.fill_modules.Goals as goal

pub returns-clause-store : goal.returns-clause-store
returns-clause-store c =
    c.in_ok-put_functions-4.ensures.store
    ∙ ap (λ s. with_functions 8 (on_shelf love_event) s) (c.in_ok-put_functions-3.ensures.store
    ∙ ap (λ s. with_functions 7 (on_shelf love_filesystem) s) (c.in_ok-put_functions-2.ensures.store
    ∙ ap (λ s. with_functions 6 (on_shelf love_data) s) (c.in_ok-put_functions.ensures.store
    ∙ ap (λ s. with_functions 5 (on_shelf love_thread) s) (c.in_ok-put_table-3.ensures.store
    ∙ ap (λ s. with_table 4 (codes "filesystem") 7 s) (c.in_ok-put_table-2.ensures.store
    ∙ ap (λ s. with_table 4 (codes "data") 6 s) (c.in_ok-put_table.ensures.store))))))
