use Rattle.std.proofs.Common.{arith, ap, refl, sym, ◌∙◌}
use Rattle.std.proofs.lemmas.List.{length-map}
use Rattle.lua_heap.specs.Value.{value_view}
use Rattle.lua_heap.specs.Heap.{store_of}
use Rattle.lua_heap.proofs.Callers.{Extends-same, Extends-trans, IsMade-later}
use Rattle.lua_lib.specs.Causes.{values_of}
use Rattle.lua_lib.proofs.Moved.{set-start, set-next, set-end}
use Rattle.lua_lib.proofs.call.items.set_items.Goals as goal

pub loop-n-init : goal.loop-n-init
loop-n-init c =
    let h = c.args.heap.now in
    record {
      store = set-start c.args.table c.args.first (values_of h c.args.values.now) (store_of h);
      texts = refl;
      functions = refl;
      extends = Extends-same h;
    }

pub set_item-requires : goal.set_item-requires
set_item-requires c =
    let h = c.args.heap.now in
    let i = c.loop-n.invariant in
    let grown = i.extends.tables in
    let table = c.requires.table in
    let first = c.requires.first in
    let last = c.requires.last in
    record {
      table = omega arith;
      first = omega arith;
      last = omega arith;
      value = IsMade-later h c.loop-n.heap i.extends c.argument-value.result (c.argument-value.ensures.made h c.requires.values);
    }

pub loop-n-preserved : goal.loop-n-preserved
loop-n-preserved c =
    let h = c.args.heap.now in
    let k = c.loop-n.heap in
    let i = c.loop-n.invariant in
    let vs = values_of h c.args.values.now in
    let v = c.argument-value.result in
    let size = length-map c.args.values.now (value_view h.texts) in
    record {
      store =
          set-next c.args.table c.args.first vs c.loop-n.n (value_view k.texts v) (store_of k) (store_of c.set_item.new.heap) (omega arith)
          (ap (λ ts. value_view ts v) i.texts ∙ c.argument-value.ensures.value h.texts) c.in_ok-set_item.ensures.store
          ∙ i.store;
      texts = c.set_item.ensures.texts ∙ i.texts;
      functions = c.set_item.ensures.functions ∙ i.functions;
      extends = Extends-trans h k c.set_item.new.heap i.extends c.set_item.ensures.extends;
    }

pub returns-in_err-set_item-clause-functions : goal.returns-in_err-set_item-clause-functions
returns-in_err-set_item-clause-functions c = c.set_item.ensures.functions ∙ c.loop-n.invariant.functions

pub returns-in_err-set_item-clause-extends : goal.returns-in_err-set_item-clause-extends
returns-in_err-set_item-clause-extends c = Extends-trans c.args.heap.now c.loop-n.heap c.set_item.new.heap c.loop-n.invariant.extends c.set_item.ensures.extends

pub returns-clause-store : goal.returns-clause-store
returns-clause-store c =
    let h = c.args.heap.now in
    let size = length-map c.args.values.now (value_view h.texts) in
    sym (set-end c.args.table c.args.first (values_of h c.args.values.now) c.loop-n.n (store_of c.loop-n.heap) (omega arith)) ∙ c.loop-n.invariant.store
