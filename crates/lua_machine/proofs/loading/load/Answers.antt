use Rattle.std.proofs.Common.{◌+◌, ◌∷◌, drop, sym, ap, ◌∙◌, subst}
use Rattle.std.proofs.lemmas.List.{drop_more}
use Rattle.lua_heap.proofs.Callers.{Extends-trans}
use Rattle.lua_machine.proofs.Loads.{AreLists, list_more}
use Rattle.lua_machine.proofs.loading.load.Goals as goal

pub returns-in_err-values-clause-extends : goal.returns-in_err-values-clause-extends
returns-in_err-values-clause-extends c = Extends-trans c.args.heap.now c.loop-proto.heap c.values_of.new.heap c.loop-proto.invariant.extends c.values_of.ensures.extends

pub returns-in_err-push-clause-extends : goal.returns-in_err-push-clause-extends
returns-in_err-push-clause-extends c = Extends-trans c.args.heap.now c.loop-proto.heap c.values_of.new.heap c.loop-proto.invariant.extends c.values_of.ensures.extends

pub loop-proto-preserved : goal.loop-proto-preserved
loop-proto-preserved c =
    let xs = c.protos-proto-items.result.now in
    let i = c.loop-proto.proto-index in
    let item = c.proto-item.result in
    let rest = drop (i + 1) xs in
    let more = drop_more xs i item c.loop-proto-test.true ∙ ap (λ x. x ∷ rest) (sym c.proto-item.is) in
    let so = subst (λ left. AreLists c.args.heap.now c.loop-proto.heap c.loop-proto.constants.items left xs) more c.loop-proto.invariant in
    subst (λ vs. AreLists c.args.heap.now c.values_of.new.heap vs rest xs) (sym c.in_ok-push.ensures.items)
    (list_more c.args.heap.now c.loop-proto.heap c.values_of.new.heap c.loop-proto.constants.items item rest xs c.in_ok-values.values so c.in_ok-values.ensures.values c.in_ok-values.ensures.made c.values_of.ensures.store c.values_of.ensures.functions c.values_of.ensures.extends)
