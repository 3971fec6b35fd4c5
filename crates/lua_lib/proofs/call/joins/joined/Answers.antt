use Rattle.std.proofs.Common.{arith, ◌∙◌}
use Rattle.std.proofs.lemmas.Result.{err_from_is_err_and}
use Rattle.lua_heap.specs.Heap.{store_of}
use Rattle.lua_lib.proofs.Joined.{joined-first, joined-next, joined-end, first-refused, next-refused}
use Rattle.lua_lib.proofs.call.joins.joined.Goals as goal

pub returns-in_err-put_item : goal.returns-in_err-put_item
returns-in_err-put_item c =
    let p = err_from_is_err_and c.from_residual.result c.from_residual.ensures.1 in
    rw (p.1, p.2) (first-refused c.args.between.now c.args.table c.args.heap.now c.args.from c.args.count _ (omega arith) c.in_err-put_item.ensures)

pub loop-n-init : goal.loop-n-init
loop-n-init c =
    let put = c.in_ok-put_item.ensures in
    joined-first c.args.between.now c.args.table c.args.from (store_of c.args.heap.now) c.new-made.result.items put.0 c.put_item.new.made.items c.args.count
    (omega arith) c.new-made.ensures.items put.1 put.2

pub returns-in_err-put_item-2 : goal.returns-in_err-put_item-2
returns-in_err-put_item-2 c =
    let p = err_from_is_err_and c.from_residual-in_err-put_item-2.result c.from_residual-in_err-put_item-2.ensures.1 in
    rw (p.1, p.2) (next-refused c.args.between.now c.args.table c.args.heap.now c.args.from c.loop-n.made.items c.loop-n.n c.args.count _ (omega arith) c.loop-n.invariant
    c.in_err-put_item-2.ensures)

pub loop-n-preserved : goal.loop-n-preserved
loop-n-preserved c =
    let put = c.in_ok-put_item-2.ensures in
    c.loop-n.invariant
    ∙ joined-next c.args.between.now c.args.table c.args.from (store_of c.args.heap.now) c.loop-n.made.items put.0 c.extend_from_slice.new.self.items c.put_item-in-loop-n.new.made.items c.loop-n.n c.args.count
    (omega arith) c.in_ok-extend_from_slice.ensures.items put.1 put.2

pub returns : goal.returns
returns c =
    c.loop-n.invariant
    ∙ joined-end c.args.between.now c.args.table c.args.from (store_of c.args.heap.now) c.loop-n.made.items c.loop-n.n c.args.count (omega arith)
