use Rattle.std.proofs.Common.{List, ℕ, [], ◌∷◌, ap, sym, ◌∙◌}
use Rattle.lua_meaning.specs.Value.{str}
use Rattle.lua_meaning.specs.Arguments.{answers}
use Rattle.lua_meaning.specs.Store.{Store}
use Rattle.lua_heap.specs.Heap.{store_of}
use Rattle.lua_lib.specs.Causes.{one_text}
use Rattle.lua_lib.proofs.Reading.{text_at-is}
use Rattle.lua_lib.proofs.call.answers.text.Goals as goal

pub returns-in-Ok-clause-calls : goal.returns-in-Ok-clause-calls
returns-in-Ok-clause-calls c = λ part runs.
    let after = c.intern.new.self in
    c.some.ensures.calls c.args.heap.now after part
    (runs ∙ (ap (λ (s : Store). answers (one_text c.args.given.now) s) (sym c.intern.ensures.store)
    ∙ ap (λ (t : List ℕ). answers (str t ∷ []) (store_of after)) (text_at-is after.texts c.in-Ok.id c.args.given.now c.in-Ok.ensures.id)))
