use Rattle.std.proofs.Common.{refl, ap, ◌∙◌}
use Rattle.lua_meaning.specs.Value as meant
use Rattle.lua_meaning.specs.Expressions.{globals}
use Rattle.lua_heap.specs.declared.value.Value.TheVariants.{Table}
use Rattle.lua_heap.specs.Value.{value_view}
use Rattle.lua_code.specs.declared.instr.Instr.TheVariants.{SetGlobal}
use Rattle.lua_machine.specs.Does.{slot_of, constant_of}
use Rattle.lua_machine.proofs.Constants.{has_constant, constant_is}
use Rattle.lua_machine.proofs.Settings.{takes_set}
use Rattle.lua_machine.proofs.engine.Engine.set_global.Goals as goal

pub constant-key-requires : goal.constant-key-requires
constant-key-requires c = record { constant = has_constant c.args.self.now c.requires.ready.ready c.args.name c.requires.ready.known }

pub returns : goal.returns
returns c =
    let m = c.args.self.now in
    let r = c.requires.ready in
    takes_set c.set.result (SetGlobal c.args.name c.args.from) m c.set.new.self r r.leads (Table c.globals.result) c.constant-key.result c.at-value.result globals (constant_of m c.args.name) (slot_of m c.args.from)
    (ap (λ n. meant.table n) c.globals.ensures.place)
    (ap (value_view m.heap.texts) c.constant-key.ensures.value ∙ constant_is m r.ready c.args.name)
    (ap (value_view m.heap.texts) c.at-value.ensures.value)
    (λ past. refl) c.set.ensures
