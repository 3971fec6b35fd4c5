use Rattle.std.proofs.Common.{◌≡◌, ℕ, List, ap, ◌∙◌}
use Rattle.lua_meaning.specs.Arguments.{answers}
use Rattle.lua_heap.specs.Heap.{store_of}
use Rattle.lua_lib.specs.Causes.{one_text}
use Rattle.lua_lib.proofs.Running.{runs-ok}
use Rattle.lua_lib.proofs.call.answers.made_text.Goals as goal

pub returns-in-Ok-clause-calls : goal.returns-in-Ok-clause-calls
returns-in-Ok-clause-calls c = λ part runs.
    let h = c.args.heap.now in
    let same : c.in-Ok.made.items ≡ c.deref.result.now = cc in
    c.text.ensures.calls part
    (runs-ok _ h h part _ _ c.in-Ok.is runs ∙ ap (λ (t : List ℕ). answers (one_text t) (store_of h)) same)
