use Rattle.std.proofs.Common.{ap, ◌∙◌}
use Rattle.std.specs.Prelude.{codes}
use Rattle.lua_heap.specs.Library.{with_table, with_text}
use Rattle.lua_heap.proofs.heap.Heap.fill_globals.Goals as goal

pub returns-clause-store : goal.returns-clause-store
returns-clause-store c =
    c.in_ok-put_table-5.ensures.store
    ∙ ap (λ s. with_table 0 (codes "love") 4 s) (c.in_ok-put_table-4.ensures.store
    ∙ ap (λ s. with_table 0 (codes "math") 3 s) (c.in_ok-put_table-3.ensures.store
    ∙ ap (λ s. with_table 0 (codes "table") 2 s) (c.in_ok-put_table-2.ensures.store
    ∙ ap (λ s. with_table 0 (codes "string") 1 s) (c.in_ok-put_text.ensures.store
    ∙ ap (λ s. with_text 0 (codes "_VERSION") (codes "Lua 5.1") s) (c.in_ok-put_table.ensures.store
    ∙ ap (λ s. with_table 0 (codes "_G") 0 s) (c.in_ok-put_functions.ensures.store))))))
