use Rattle.std.proofs.Common.{ℕ, ◌+◌, length, map, arith, ap, sym, ◌∙◌}
use Rattle.lua_heap.specs.Value.{value_view}
use Rattle.lua_heap.specs.Heap.{store_of}
use Rattle.lua_lib.specs.Causes.{values_of}
use Rattle.lua_lib.proofs.Numbered.{AreMade-last, seen-last, length-last, items-start, items-next, items-end}
use Rattle.lua_lib.proofs.call.items.items.Goals as goal

pub loop-n-init : goal.loop-n-init
loop-n-init c =
    let h = c.args.heap.now in
    record {
      items = items-start (store_of h) c.args.table c.args.from (values_of h c.new-made.result.items) c.args.count (ap (map (value_view h.texts)) c.new-made.ensures.items);
      count = ap length c.new-made.ensures.items;
      made = rw c.new-made.ensures.items tt;
    }

pub loop-n-preserved : goal.loop-n-preserved
loop-n-preserved c =
    let h = c.args.heap.now in
    let old = c.loop-n.made.items in
    let new = c.push.new.self.items in
    let v = c.item-value.result in
    record {
      items =
          items-next (store_of h) c.args.table c.args.from (values_of h old) (values_of h new) (value_view h.texts v) c.loop-n.n c.args.count (omega arith)
          c.item-value.ensures.value (seen-last h.texts old v new c.in_ok-push.ensures.items)
          ∙ c.loop-n.invariant.items;
      count = length-last old v new c.in_ok-push.ensures.items ∙ ap (λ (n : ℕ). n + 1) c.loop-n.invariant.count;
      made = AreMade-last h old v new c.in_ok-push.ensures.items c.loop-n.invariant.made c.item-value.ensures.made;
    }

pub returns-clause-items : goal.returns-clause-items
returns-clause-items c =
    let h = c.args.heap.now in
    sym (items-end (store_of h) c.args.table c.args.from (values_of h c.loop-n.made.items) c.loop-n.n c.args.count (omega arith)) ∙ c.loop-n.invariant.items

pub returns-clause-count : goal.returns-clause-count
returns-clause-count c = let e = c.loop-n.invariant.count in omega arith
