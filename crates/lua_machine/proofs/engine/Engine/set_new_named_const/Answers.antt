use Rattle.std.proofs.Common.{◌+◌, sym, ap, ◌∙◌}
use Rattle.lua_meaning.specs.Value as meant
use Rattle.lua_heap.specs.Value.{value_view}
use Rattle.lua_code.specs.declared.instr.Instr.TheVariants.{SetNewNamedConst}
use Rattle.lua_code.specs.Act as act
use Rattle.lua_machine.specs.View.{slots_view, run_of, frames_of, registers_of, state_of}
use Rattle.lua_machine.specs.Does.{site_at}
use Rattle.lua_machine.specs.Changes.{new_field_step}
use Rattle.lua_machine.proofs.Constants.{has_constant, constant_is}
use Rattle.lua_code.specs.View.{constant_at}
use Rattle.lua_machine.proofs.Storing.{takes_each}
use Rattle.lua_machine.proofs.engine.Engine.set_new_named_const.Goals as goal

pub constant-key-requires : goal.constant-key-requires
constant-key-requires c = record { constant = has_constant c.args.self.now c.requires.ready.ready c.args.name c.requires.ready.known.0 }

pub constant-value-requires : goal.constant-value-requires
constant-value-requires c = record { constant = has_constant c.args.self.now c.requires.ready.ready c.args.n c.requires.ready.known.1 }

pub returns : goal.returns
returns c =
    let m = c.args.self.now in
    let r = c.requires.ready in
    let key_is = sym (constant_is m r.ready c.args.name) ∙ ap (value_view m.heap.texts) (sym c.constant-key.ensures.value) in
    let value_is = sym (constant_is m r.ready c.args.n) ∙ ap (value_view m.heap.texts) (sym c.constant-value.ensures.value) in
    takes_each (SetNewNamedConst c.args.table c.args.name c.args.n) m c.put_field.new.self (new_field_step c.args.table c.constant-key.result c.constant-value.result m) c.put_field.result c.put_field.ensures r r.leads
    (λ past.
    ap (λ (w : meant.Value). act.sets_new (run_of m) (frames_of m) (registers_of m) (state_of past m) (site_at m.proto m.pc) (slots_view m.heap.texts m.values (m.base + c.args.table)) w (constant_at m.proto.constants c.args.n)) key_is
    ∙ ap (λ (w : meant.Value). act.sets_new (run_of m) (frames_of m) (registers_of m) (state_of past m) (site_at m.proto m.pc) (slots_view m.heap.texts m.values (m.base + c.args.table)) (value_view m.heap.texts c.constant-key.result) w) value_is)
