use Rattle.std.proofs.Common.{◌≡◌, [], ◌∷◌, subst}
use Rattle.std.specs.Prelude.{codes}
use Rattle.lua_meaning.specs.Store.{handler}
use Rattle.lua_heap.specs.declared.native.Native.TheVariants as natives
use Rattle.lua_heap.specs.Value.{value_view}
use Rattle.lua_heap.specs.Heap.{store_of}
use Rattle.lua_machine.specs.declared.frame.Duty.TheVariants as duties
use Rattle.lua_machine.specs.View.{EngineView}
use Rattle.lua_machine.specs.Back.{CallsBack}
use Rattle.lua_machine.specs.Basics.{ServedAlone}
use Rattle.lua_machine.proofs.Called.{each_came}
use Rattle.lua_machine.proofs.Answered.{converts}
use Rattle.lua_machine.proofs.engine.Engine.convert_text.Goals as goal

pub returns : goal.returns
returns c =
    let m = c.args.self.now in
    let new = c.call_text.new.self in
    let v = c.first_arg-value.result in
    let h = c.handler-handler.result in
    let is = subst (λ (y : EngineView). value_view y.heap.texts h ≡ handler (store_of y.heap) (value_view y.heap.texts v) (codes "__tostring")) c.self.view_is c.handler-handler.ensures.handler in
    each_came c.call_text.result (λ status. CallsBack duties.Converts h status (record m { args = v ∷ [] }) new) (λ status. ServedAlone natives.ToString status m new)
    (λ status back. converts m v status new c.first_arg-value.ensures.value h is c.in_default.not-Nil back) c.call_text.ensures
