use Rattle.std.proofs.Common.{subst}
use Rattle.lua_heap.specs.declared.native.Native.TheVariants as natives
use Rattle.lua_machine.specs.View.{EngineView}
use Rattle.lua_machine.specs.Made.{IsEngine}
use Rattle.lua_machine.specs.Basics.{ServedAlone}
use Rattle.lua_machine.specs.Printing.{PrintsFrom}
use Rattle.lua_machine.proofs.Called.{each_came}
use Rattle.lua_machine.proofs.Printed.{prints_args}
use Rattle.lua_machine.proofs.engine.Engine.print.Goals as goal

pub returns : goal.returns
returns c =
    let m = c.args.self.now in
    let is : IsEngine m = subst IsEngine c.self.view_is c.self.invariant in
    let mid = c.keep_arguments.new.self in
    let new = c.print_from.new.self in
    each_came c.print_from.result (λ status. PrintsFrom 0 status mid new) (λ status. ServedAlone natives.Print status m new)
    (λ status done. prints_args m is status new (subst (λ (y : EngineView). PrintsFrom 0 status y new) c.in_ok-keep_arguments.ensures done)) c.print_from.ensures
