use Rattle.std.proofs.Common.{◌≡◌, ◌+◌, ◌-◌, length}
use Rattle.lua_machine.specs.Printing.{Passes}
use Rattle.lua_machine.proofs.engine.Engine.pass_texts.Given as goal

abbrev pub invariant-loop-number : goal.invariant-loop-number
invariant-loop-number l = Passes l.from l.number l.fn.self l.self
