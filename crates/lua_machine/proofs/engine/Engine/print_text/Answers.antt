use Rattle.std.proofs.Common.{subst}
use Rattle.lua_machine.specs.declared.frame.Duty.TheVariants as duties
use Rattle.lua_machine.specs.Made.{IsEngine}
use Rattle.lua_machine.specs.Fulfilling.{Fulfils}
use Rattle.lua_machine.specs.Printing.{PrintsFrom}
use Rattle.lua_machine.proofs.Called.{each_came}
use Rattle.lua_machine.proofs.Printed.{takes_text}
use Rattle.lua_machine.proofs.engine.Engine.print_text.Goals as goal

pub returns : goal.returns
returns c =
    let m = c.args.self.now in
    let is : IsEngine m = subst IsEngine c.self.view_is c.self.invariant in
    let mid = c.keep_text.new.self in
    let new = c.print_from.new.self in
    each_came c.print_from.result (λ status. PrintsFrom c.in_ok-from.from status mid new) (λ status. Fulfils (duties.Prints c.args.count) status m new)
    (λ status done. takes_text m mid new c.args.count c.in_ok-from.from c.args.text status is c.requires.first c.requires.text c.in_ok-from.ensures done) c.print_from.ensures
