use Rattle.std.proofs.Common.{◌≡◌, ◌+◌, ◌≤◌, [], ◌∷◌, ◌++◌, List, length, take, sym, ap, ◌∙◌, subst, arith}
use Rattle.std.specs.Prelude.{map}
use Rattle.std.proofs.lemmas.List.{take_more, take_all, length-take-le}
use Rattle.lua_meaning.specs.Tables.{set_items}
use Rattle.lua_heap.specs.declared.value.Value.{Value}
use Rattle.lua_heap.specs.Value.{value_view}
use Rattle.lua_heap.specs.Heap.{Becomes}
use Rattle.lua_heap.proofs.Callers.{Extends-trans}
use Rattle.lua_machine.proofs.Filling.{HasItems, items_next}
use Rattle.lua_machine.proofs.items.put_items.Goals as goal

pub loop-value-preserved : goal.loop-value-preserved
loop-value-preserved c =
    let first = c.args.heap.now in
    let heap = c.loop-value.heap in
    let later = c.put_item.new.heap in
    let xs = c.args.values.now in
    let i = c.loop-value.value-index in
    let v = c.value-item.result in
    let lt = c.loop-value-test.true in
    let le : i ≤ length xs = omega (arith, lt) in
    let long = length-take-le i xs le in
    let more = take_more xs i v lt ∙ ap (λ (x : Value). take i xs ++ x ∷ []) (sym c.value-item.is) in
    let at : c.loop-value.number ≡ c.args.first + length (take i xs) = c.loop-value.invariant.1 ∙ ap (λ k. c.args.first + k) (sym long) in
    let becomes = subst (λ n. Becomes heap later (set_items c.args.id n (value_view heap.texts v ∷ []))) at c.in_ok-put_item.ensures.store in
    let so = items_next first heap later c.args.id c.args.first (take i xs) v c.loop-value.invariant.0 becomes (Extends-trans first heap later c.loop-value.invariant.0.extends c.put_item.ensures.extends) in
    (subst (HasItems first later c.args.id c.args.first) (sym more) so, let e = c.loop-value.invariant.1 in omega (arith, e))

pub returns-clause-store : goal.returns-clause-store
returns-clause-store c =
    let first = c.args.heap.now in
    let xs = c.args.values.now in
    let le = c.loop-value-test.false in
    subst (λ (vs : List Value). Becomes first c.loop-value.heap (set_items c.args.id c.args.first (map (value_view first.texts) vs))) (take_all c.loop-value.value-index xs (omega (arith, le))) c.loop-value.invariant.0.becomes
