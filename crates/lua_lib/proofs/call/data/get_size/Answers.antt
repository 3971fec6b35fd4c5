use Rattle.std.proofs.Common.{ℕ, pos, [], ◌∷◌, length, ap, sym, ◌∙◌}
use Rattle.std.proofs.lemmas.Result.{err_from_is_err_and}
use Rattle.lua_meaning.specs.Value.{num}
use Rattle.lua_meaning.specs.Arguments.{answers}
use Rattle.lua_heap.specs.Heap.{store_of}
use Rattle.lua_lib.proofs.Scales.{kept-only}
use Rattle.lua_lib.proofs.Binding.{raises-first}
use Rattle.lua_lib.proofs.Running.{refuses-raised, then-at}
use Rattle.lua_lib.proofs.call.data.get_size.Goals as goal

pub returns-in_err-data : goal.returns-in_err-data
returns-in_err-data c =
    let p = err_from_is_err_and c.from_residual.result c.from_residual.ensures.1 in
    rw (p.1, p.2) (refuses-raised c.args.heap.now _ _ (raises-first _ _ _ c.in_err-data.ensures.taken))

pub returns-in-Some : goal.returns-in-Some
returns-in-Some c =
    let s = store_of c.args.heap.now in
    let is = kept-only (pos c.size.result) c.in-Some.size (sym c.in-Some.ensures) in
    then-at _ _ s c.in_ok-data.data _ (c.in_ok-data.ensures.taken s)
    (ap (λ z. answers (num z ∷ []) s) (ap (λ w. pos (length w.bytes)) (sym c.data_of.ensures.contents) ∙ (ap (λ (n : ℕ). pos n) (sym c.size.ensures) ∙ is.0)))
