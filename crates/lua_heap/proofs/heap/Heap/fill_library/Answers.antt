use Rattle.std.proofs.Common.{ap, ◌∙◌}
use Rattle.std.specs.Prelude.{codes}
use Rattle.lua_meaning.specs.Native.{table_table, math_table, on_shelf}
use Rattle.lua_heap.specs.Library.{with_functions, with_table}
use Rattle.lua_heap.proofs.heap.Heap.fill_library.Goals as goal

pub returns-clause-store : goal.returns-clause-store
returns-clause-store c =
    c.in_ok-put_table.ensures.store
    ∙ ap (λ s. with_table 9 (codes "__index") 1 s) (c.in_ok-put_functions-3.ensures.store
    ∙ ap (λ s. with_functions 3 (on_shelf math_table) s) (c.in_ok-put_functions-2.ensures.store
    ∙ ap (λ s. with_functions 2 (on_shelf table_table) s) (c.in_ok-put_functions.ensures.store)))
