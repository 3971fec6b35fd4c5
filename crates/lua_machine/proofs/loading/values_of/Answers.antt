use Rattle.std.proofs.Common.{◌+◌, ◌∷◌, drop, sym, ap, ◌∙◌, subst}
use Rattle.std.proofs.lemmas.List.{drop_more}
use Rattle.lua_heap.proofs.Callers.{Extends-trans}
use Rattle.lua_machine.proofs.Loads.{AreValues, one_more}
use Rattle.lua_machine.proofs.loading.values_of.Goals as goal

pub returns-in_err-value-clause-extends : goal.returns-in_err-value-clause-extends
returns-in_err-value-clause-extends c = Extends-trans c.args.heap.now c.loop-constant.heap c.value_of.new.heap c.loop-constant.invariant.extends c.value_of.ensures.extends

pub loop-constant-preserved : goal.loop-constant-preserved
loop-constant-preserved c =
    let xs = c.constants-constant-items.result.now in
    let i = c.loop-constant.constant-index in
    let item = c.constant-item.result in
    let rest = drop (i + 1) xs in
    let more = drop_more xs i item c.loop-constant-test.true ∙ ap (λ x. x ∷ rest) (sym c.constant-item.is) in
    let so = subst (λ left. AreValues c.args.heap.now c.loop-constant.heap c.loop-constant.values.items left xs) more c.loop-constant.invariant in
    subst (λ vs. AreValues c.args.heap.now c.value_of.new.heap vs rest xs) (sym c.in_ok-push.ensures.items)
    (one_more c.args.heap.now c.loop-constant.heap c.value_of.new.heap c.loop-constant.values.items item rest xs c.in_ok-value.value so c.in_ok-value.ensures.value c.in_ok-value.ensures.made c.value_of.ensures.store c.value_of.ensures.functions c.value_of.ensures.extends)
