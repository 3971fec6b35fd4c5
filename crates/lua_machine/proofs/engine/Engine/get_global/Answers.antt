use Rattle.std.proofs.Common.{refl, ap, ◌∙◌}
use Rattle.lua_meaning.specs.Value as meant
use Rattle.lua_meaning.specs.Expressions.{globals}
use Rattle.lua_heap.specs.declared.value.Value.TheVariants.{Table}
use Rattle.lua_heap.specs.Value.{value_view}
use Rattle.lua_code.specs.declared.instr.Instr.TheVariants.{GetGlobal}
use Rattle.lua_machine.specs.Does.{constant_of}
use Rattle.lua_machine.proofs.Constants.{has_constant, constant_is}
use Rattle.lua_machine.proofs.Settling.{takes_read}
use Rattle.lua_machine.proofs.engine.Engine.get_global.Goals as goal

pub constant-key-requires : goal.constant-key-requires
constant-key-requires c = record { constant = has_constant c.args.self.now c.requires.ready.ready c.args.name c.requires.ready.known }

pub returns : goal.returns
returns c =
    let m = c.args.self.now in
    takes_read c.settle.result (GetGlobal c.args.to c.args.name) m c.settle.new.self c.args.to _ c.self.view_is c.field-doing.result (Table c.globals.result) c.constant-key.result globals (constant_of m c.args.name) c.field-doing.ensures.doing
    (ap (λ n. meant.table n) c.globals.ensures.place)
    (ap (value_view m.heap.texts) c.constant-key.ensures.value ∙ constant_is m c.requires.ready.ready c.args.name) (λ past. refl) c.settle.ensures
