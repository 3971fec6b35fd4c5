use Rattle.std.proofs.Common.{◌<◌, ◌≤◌, length, ap, arith}
use Rattle.lua_machine.specs.View.{EngineView}
use Rattle.lua_machine.proofs.Levels.{found_at, no_outer, library_outer, lua_outer}
use Rattle.lua_machine.proofs.engine.Engine.outer_caller.Goals as goal

pub returns-then-count-lt2 : goal.returns-then-count-lt2
returns-then-count-lt2 c =
    let few = c.if-count-lt2.true in
    let count = c.len-count.ensures in
    let same = ap (λ (y : EngineView). length y.frames) c.self.view_is in
    no_outer c.args.self.now (omega (arith, few, count, same))

pub returns-in-Waits : goal.returns-in-Waits
returns-in-Waits c =
    let many = c.if-count-lt2.false in
    let at = found_at _ c.args.self.now.frames c.len-count.result c.index-frame.result.now (ap (λ (y : EngineView). y.frames) c.self.view_is) (let e = c.len-count.ensures in omega (arith, e)) (omega (arith, many)) c.index-frame.ensures in
    lua_outer c.args.self.now c.index-frame.result.now c.in-Waits.field-0 c.requires.fit at.0 at.1 c.in-Waits.is

pub returns-in-Serves : goal.returns-in-Serves
returns-in-Serves c =
    let many = c.if-count-lt2.false in
    let at = found_at _ c.args.self.now.frames c.len-count.result c.index-frame.result.now (ap (λ (y : EngineView). y.frames) c.self.view_is) (let e = c.len-count.ensures in omega (arith, e)) (omega (arith, many)) c.index-frame.ensures in
    library_outer c.args.self.now c.index-frame.result.now c.in-Serves.field-0 at.0 at.1 c.in-Serves.is
