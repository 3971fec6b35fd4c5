use Rattle.std.proofs.Common.{[], ◌∷◌, subst, Option}
use Rattle.lua_machine.specs.declared.frame.Duty.TheVariants as duties
use Rattle.lua_machine.specs.declared.printing.Asked.{Asked}
use Rattle.lua_machine.specs.Back.{CallsBack}
use Rattle.lua_machine.specs.Printing.{PassesTo, PrintsFrom}
use Rattle.lua_machine.proofs.Called.{each_came}
use Rattle.lua_machine.proofs.Passing.{value_seen}
use Rattle.lua_machine.proofs.Printed.{prints_asking}
use Rattle.lua_machine.proofs.engine.Engine.print_from.Goals as goal

pub returns-in-Some : goal.returns-in-Some
returns-in-Some c =
    let m = c.args.self.now in
    let mid = c.pass_texts.new.self in
    let new = c.call_text.new.self in
    let asked = c.in-Some.asked in
    let v = c.index-value.result.now in
    let to = subst (λ (o : Option Asked). PassesTo c.args.from o m mid) c.in-Some.is c.in_ok-asked.ensures in
    let v_is = value_seen _ mid c.self.view_is asked.number to.1.inside v c.index-value.ensures in
    each_came c.call_text.result (λ status. CallsBack (duties.Prints asked.number) asked.handler status (record mid { args = v ∷ [] }) new) (λ status. PrintsFrom c.args.from status m new)
    (λ status back. prints_asking c.args.from asked v status m mid new to v_is back) c.call_text.ensures
