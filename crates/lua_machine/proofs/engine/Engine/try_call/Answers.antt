use Rattle.lua_heap.specs.declared.native.Native.TheVariants as natives
use Rattle.lua_machine.specs.declared.frame.Duty.TheVariants as duties
use Rattle.lua_machine.specs.Back.{CallsBack}
use Rattle.lua_machine.specs.Basics.{ServedAlone}
use Rattle.lua_machine.proofs.Called.{each_came}
use Rattle.lua_machine.proofs.Answered.{tries}
use Rattle.lua_machine.proofs.engine.Engine.try_call.Goals as goal

pub returns : goal.returns
returns c =
    let m = c.args.self.now in
    let mid = c.take_first-value.new.self in
    let new = c.call_back.new.self in
    let v = c.take_first-value.result in
    each_came c.call_back.result (λ status. CallsBack duties.Tries v status mid new) (λ status. ServedAlone natives.Pcall status m new)
    (λ status back. tries m v status new mid c.take_first-value.ensures.value c.take_first-value.ensures.rest back) c.call_back.ensures
