use Rattle.std.proofs.Common.{◌≡◌, ◌<◌, true, false, arith}
use Rattle.lua_meaning.specs.Running.{is_counting}
use Rattle.lua_machine.proofs.Turning.{ended_so, begun_so, moved_on, moved_in}
use Rattle.lua_machine.proofs.engine.Engine.turn.Goals as goal

pub returns-then-not-is_counting-clause-turned : goal.returns-then-not-is_counting-clause-turned
returns-then-not-is_counting-clause-turned c =
    let n = c.args.numbers in
    let none : is_counting n.0 n.1 n.2 ≡ false = cc in
    ended_so _ c.args.self.now c.self.view_is c.args.at c.args.body c.args.exit n.0 n.1 n.2 c.requires.slots c.requires.limit c.requires.step none

pub returns-then-not-is_counting-clause-moved : goal.returns-then-not-is_counting-clause-moved
returns-then-not-is_counting-clause-moved c =
    let n = c.args.numbers in
    moved_on _ c.args.self.now c.self.view_is c.args.at c.args.body c.args.exit n.0 n.1 n.2

pub returns-clause-turned : goal.returns-clause-turned
returns-clause-turned c =
    let n = c.args.numbers in
    let some : is_counting n.0 n.1 n.2 ≡ true = cc in
    let left : 0 < c.self.inside.ticks = omega (arith, c.if-self-eq0.false) in
    begun_so _ c.args.self.now c.self.view_is c.args.at c.args.body c.args.exit n.0 n.1 n.2 c.requires.slots c.requires.limit c.requires.step some left

pub returns-clause-moved : goal.returns-clause-moved
returns-clause-moved c =
    let n = c.args.numbers in
    moved_in _ c.args.self.now c.self.view_is c.args.at c.args.body c.args.exit n.0 n.1 n.2
