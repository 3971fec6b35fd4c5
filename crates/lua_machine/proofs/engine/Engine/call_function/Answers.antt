use Rattle.std.proofs.Common.{◌<◌, ◌≤◌, ◌-◌, length, subst, arith}
use Rattle.std.specs.Prelude.{codes}
use Rattle.lua_machine.specs.View.{EngineView}
use Rattle.lua_machine.specs.Made.{IsEngine}
use Rattle.lua_machine.specs.Callees.{callee_at}
use Rattle.lua_machine.specs.Errors.{Raised}
use Rattle.lua_heap.specs.Heap.{function_at}
use Rattle.lua_machine.specs.Frames.{pushed}
use Rattle.lua_machine.specs.Entering.{free_cells, HasBegun}
use Rattle.lua_machine.proofs.Called.{enters, enters_too_deep}
use Rattle.lua_machine.proofs.engine.Engine.call_function.Goals as goal

pub returns-then-len-ge-MOST_CALLS : goal.returns-then-len-ge-MOST_CALLS
returns-then-len-ge-MOST_CALLS c =
    let m = c.args.self.now in
    let new = c.error.new.self in
    let v = c.in_ok-value.value in
    let left : 0 < c.self.inside.ticks = omega (arith, c.if-self-eq0.false) in
    let deep : 4096 ≤ c.len.result = c.if-len-ge-MOST_CALLS.true in
    let many : 4096 ≤ length c.self.inside.frames.items = omega (arith, deep, c.len.ensures) in
    enters_too_deep m c.args.wants (callee_at m c.args.id) c.args.first c.args.count c.args.behind new v
    (subst (λ (y : EngineView). 0 < y.ticks) c.self.view_is left)
    (subst (λ (y : EngineView). 4096 ≤ length y.frames) c.self.view_is many)
    (subst (λ (y : EngineView). Raised (codes "stack overflow") v (record y { ticks = y.ticks - 1 }) new) c.self.view_is c.in_ok-value.ensures)

pub returns : goal.returns
returns c =
    let m = c.args.self.now in
    let new = c.enter.new.self in
    let is : IsEngine m = subst IsEngine c.self.view_is c.self.invariant in
    let left : 0 < c.self.inside.ticks = omega (arith, c.if-self-eq0.false) in
    let room : c.len.result < 4096 = omega (arith, c.if-len-ge-MOST_CALLS.false) in
    let few : length c.self.inside.frames.items < 4096 = omega (arith, room, c.len.ensures) in
    enters m c.args.wants c.args.first c.args.count c.args.behind is c.requires.ready c.args.id new c.requires.function
    (subst (λ (y : EngineView). 0 < y.ticks) c.self.view_is left)
    (subst (λ (y : EngineView). length y.frames < 4096) c.self.view_is few)
    (subst (λ (y : EngineView). HasBegun (function_at y.heap c.args.id) c.args.first (free_cells y) c.args.count c.args.behind (pushed (record y { ticks = y.ticks - 1 }) c.args.wants) new) c.self.view_is c.in_ok-enter.ensures)
