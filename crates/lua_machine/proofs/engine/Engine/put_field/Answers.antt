use Rattle.lua_machine.proofs.Filling.{field_takes, field_passes}
use Rattle.lua_machine.proofs.engine.Engine.put_field.Goals as goal

pub returns-in-Table : goal.returns-in-Table
returns-in-Table c = field_takes c.args.self.now c.put_raw.new.self c.args.table c.in-Table.id c.at.result c.args.key c.args.value c.put_raw.result c.at.ensures.value c.in-Table.is c.put_raw.ensures

pub returns-in_default : goal.returns-in_default
returns-in_default c = field_passes c.args.self.now c.pass.new.self c.args.table c.at.result c.args.key c.args.value c.at.ensures.value c.in_default.not-Table c.pass.ensures
