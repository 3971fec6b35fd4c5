use Rattle.std.proofs.Common.{◌≡◌, ◌<◌, length, ap, ◌∙◌, arith}
use Rattle.lua_machine.specs.View.{EngineView}
use Rattle.lua_machine.proofs.NewCells.{set_with, push_with, cells_same}
use Rattle.lua_machine.proofs.engine.Engine.put_cell.Goals as goal

pub returns-then-at-len : goal.returns-then-at-len
returns-then-at-len c =
    let cells = c.self.inside.cells.items in
    let lt : c.args.at < length cells = omega (arith, c.if-at-len.true, c.len.ensures) in
    cells_same _ c.args.self.now c.self.view_is c.args.at c.args.id _ (set_with cells c.args.at c.args.id lt)

pub returns-in_ok-push : goal.returns-in_ok-push
returns-in_ok-push c =
    let cells = c.self.inside.cells.items in
    let same = ap (λ (v : EngineView). length v.cells) c.self.view_is in
    let at = c.requires.at in
    let e : c.args.at ≡ length cells = omega (arith, same, at, c.if-at-len.false, c.len.ensures) in
    cells_same _ c.args.self.now c.self.view_is c.args.at c.args.id _ (c.in_ok-push.ensures.items ∙ push_with cells c.args.at c.args.id e)
