use Rattle.lua_machine.proofs.Filling.{raw_raises, raw_takes}
use Rattle.lua_machine.proofs.engine.Engine.put_raw.Goals as goal

pub returns-in-Nil : goal.returns-in-Nil
returns-in-Nil c = raw_raises c.args.self.now c.error.new.self c.args.id c.args.key c.args.value c.in_ok-error.error c.in-Nil.is c.in_ok-error.ensures

pub returns : goal.returns
returns c = raw_takes c.args.self.now c.store_raw.new.self c.args.id c.args.key c.args.value c.in_default.not-Nil c.in_ok-store_raw.ensures
