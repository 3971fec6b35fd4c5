use Rattle.std.proofs.Common.{◌<◌, ◌≤◌, List, ℕ, length, ap, ◌∙◌, arith}
use Rattle.lua_heap.specs.Heap.{function_at}
use Rattle.lua_machine.specs.View.{EngineView}
use Rattle.lua_machine.proofs.InSlots.{copied_at, copied_next}
use Rattle.lua_machine.proofs.engine.Engine.copy_cells.Goals as goal

pub put_cell-requires-clause-at : goal.put_cell-requires-clause-at
put_cell-requires-clause-at c =
    let m = c.args.self.now in
    let held = (function_at m.heap c.args.id).cells in
    let n = c.loop-n.n in
    let same = ap (λ (xs : List ℕ). length xs) c.func_cells-n-end.ensures.cells ∙ ap (λ (v : EngineView). length (function_at v.heap c.args.id).cells) c.self.view_is in
    let le : n ≤ length held = omega (arith, c.loop-n-test.true, same) in
    copied_at m c.loop-n.self c.args.at n held c.requires.at le c.loop-n.invariant

pub loop-n-preserved : goal.loop-n-preserved
loop-n-preserved c =
    let m = c.args.self.now in
    let held = (function_at m.heap c.args.id).cells in
    let n = c.loop-n.n in
    let same = ap (λ (xs : List ℕ). length xs) c.func_cells-n-end.ensures.cells ∙ ap (λ (v : EngineView). length (function_at v.heap c.args.id).cells) c.self.view_is in
    let lt : n < length held = omega (arith, c.loop-n-test.true, same) in
    copied_next m c.loop-n.self c.put_cell.new.self c.args.at n c.index-func_cells-n.result _ held c.func_cells.result.now
    (c.func_cells.ensures.cells ∙ ap (λ (y : EngineView). (function_at y.heap c.args.id).cells) (c.self-in-loop-n.view_is ∙ c.loop-n.invariant)) lt c.loop-n.invariant c.index-func_cells-n.is c.in_ok-put_cell.ensures
