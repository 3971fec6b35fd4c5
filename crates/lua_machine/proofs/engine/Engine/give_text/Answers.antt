use Rattle.lua_meaning.specs.Value as meant
use Rattle.lua_meaning.specs.Control.{value_text}
use Rattle.lua_heap.specs.Value.{value_view}
use Rattle.lua_heap.specs.Heap.{store_of}
use Rattle.lua_machine.specs.Fulfilling.{GivesOne}
use Rattle.lua_machine.specs.Basics.{GivesValue}
use Rattle.lua_machine.proofs.Called.{each_came}
use Rattle.lua_machine.proofs.Answered.{gives_text}
use Rattle.lua_machine.proofs.engine.Engine.give_text.Goals as goal

pub returns : goal.returns
returns c =
    let m = c.args.self.now in
    let mid = c.own_text.new.self in
    let new = c.give_one.new.self in
    let text = value_text (store_of m.heap) (value_view m.heap.texts c.args.value) in
    each_came c.give_one.result (λ status. GivesOne c.in_ok-text.text status mid new) (λ status. GivesValue (meant.str text) status m new)
    (λ status one. gives_text text c.in_ok-text.text status m mid new c.in_ok-text.ensures one) c.give_one.ensures
