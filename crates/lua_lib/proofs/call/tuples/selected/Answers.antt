use Rattle.std.proofs.Common.{List, map, ap, sym, ◌∙◌}
use Rattle.std.proofs.lemmas.Result.{err_from_is_err_and}
use Rattle.lua_meaning.specs.Arguments.{answers}
use Rattle.lua_heap.specs.declared.value.Value.{Value}
use Rattle.lua_heap.specs.Value.{value_view}
use Rattle.lua_lib.proofs.Tuples.{AreMade-part}
use Rattle.lua_lib.proofs.Binding.{gives-then, raises-first, raises-then}
use Rattle.lua_lib.proofs.call.tuples.selected.Goals as goal

pub returns-in_err-n-clause-given : goal.returns-in_err-n-clause-given
returns-in_err-n-clause-given c =
    let p = err_from_is_err_and c.from_residual.result c.from_residual.ensures.1 in
    rw (p.1, p.2) (raises-first _ _ _ c.in_err-n.ensures)

pub returns-in_err-selected-clause-given : goal.returns-in_err-selected-clause-given
returns-in_err-selected-clause-given c =
    let p = err_from_is_err_and c.from_residual-in_err-selected.result c.from_residual-in_err-selected.ensures.1 in
    rw (p.1, p.2) (raises-then _ _ _ _ c.in_ok-n.ensures (c.in_err-selected.ensures.fault (value_view c.args.heap.now.texts)))

pub returns-in_err-made-clause-given : goal.returns-in_err-made-clause-given
returns-in_err-made-clause-given c =
    let p = err_from_is_err_and c.from_residual-in_err-made.result c.from_residual-in_err-made.ensures.1 in
    rw (p.1, p.2) (tt)

pub returns-clause-given : goal.returns-clause-given
returns-clause-given c = gives-then _ _ _ _ c.in_ok-n.ensures (λ s. c.in_ok-selected.ensures.ok (value_view c.args.heap.now.texts) s ∙ ap (λ (vs : List Value). answers (map (value_view c.args.heap.now.texts) vs) s) (sym c.in_ok-made.ensures))

pub returns-clause-made : goal.returns-clause-made
returns-clause-made c =
    let last = c.in_ok-selected.ensures.last in
    AreMade-part c.args.heap.now last.0 c.args.values.now c.in_ok-made.made.items (c.in_ok-made.ensures ∙ last.1) c.requires.values
