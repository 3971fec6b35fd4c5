use Rattle.std.proofs.Common.{length, arith, sym, ◌∙◌}
use Rattle.std.proofs.lemmas.List.{length-map}
use Rattle.std.proofs.lemmas.Result.{err_from_is_err_and}
use Rattle.lua_meaning.specs.Math.{greatest, greater}
use Rattle.lua_heap.specs.Value.{value_view}
use Rattle.lua_lib.specs.Causes.{values_of}
use Rattle.lua_lib.proofs.Binding.{raises-first}
use Rattle.lua_lib.proofs.Outstanding.{outstanding-start, outstanding-next, outstanding-end, outstanding-raises}
use Rattle.lua_lib.proofs.call.math.max.Goals as goal

pub returns-in_err-greatest : goal.returns-in_err-greatest
returns-in_err-greatest c =
    let p = err_from_is_err_and c.from_residual.result c.from_residual.ensures.1 in
    rw (p.1, p.2) (raises-first _ _ _ c.in_err-greatest.ensures)

pub loop-n-init : goal.loop-n-init
loop-n-init c =
    outstanding-start greater (values_of c.args.heap.now c.args.args.now) c.in_ok-greatest.greatest (length c.args.args.now)
    (sym (length-map c.args.args.now (value_view c.args.heap.now.texts))) c.in_ok-greatest.ensures

pub loop-n-preserved : goal.loop-n-preserved
loop-n-preserved c = λ s.
    c.loop-n.invariant s
    ∙ outstanding-next greater (values_of c.args.heap.now c.args.args.now) c.loop-n.greatest c.in_ok-y.y c.max-greatest.result c.loop-n.n (length c.args.args.now)
    (omega arith) c.in_ok-y.ensures c.max-greatest.ensures s

pub returns-in_err-y : goal.returns-in_err-y
returns-in_err-y c =
    let p = err_from_is_err_and c.from_residual-in_err-y.result c.from_residual-in_err-y.ensures.1 in
    rw (p.1, p.2) (outstanding-raises greater (values_of c.args.heap.now c.args.args.now) (greatest (values_of c.args.heap.now c.args.args.now)) c.loop-n.greatest c.loop-n.n
    (length c.args.args.now) _ (omega arith) c.loop-n.invariant c.in_err-y.ensures)

pub returns : goal.returns
returns c = λ s.
    c.loop-n.invariant s
    ∙ outstanding-end greater (values_of c.args.heap.now c.args.args.now) c.loop-n.greatest c.loop-n.n (length c.args.args.now) (omega arith) s
