use Rattle.std.proofs.Common.{ap, ◌∙◌}
use Rattle.lua_heap.specs.Library.{with_globals, with_library, with_modules}
use Rattle.lua_heap.proofs.heap.Heap.new.Goals as goal

pub returns-clause-store : goal.returns-clause-store
returns-clause-store c =
    c.in_ok-fill_modules.ensures.store
    ∙ ap (λ s. with_modules s) (c.in_ok-fill_library.ensures.store
    ∙ ap (λ s. with_library s) (c.in_ok-fill_globals.ensures.store
    ∙ ap (λ s. with_globals s) (c.in_ok-heap.ensures.store)))
