use Rattle.lua_machine.proofs.Settings.{stores_table, stores_unindexed, stores_endless, stores_asked}
use Rattle.lua_machine.proofs.engine.Engine.store.Goals as goal

pub returns-in-Raw : goal.returns-in-Raw
returns-in-Raw c = stores_table c.args.self.now c.args.key c.args.value c.args.found c.put_raw.result c.put_raw.new.self c.in-Raw.id c.in-Raw.is c.put_raw.ensures

pub returns-in-Ask : goal.returns-in-Ask
returns-in-Ask c = stores_asked c.args.self.now c.args.key c.args.value c.args.found c.handle.result c.handle.new.self c.in-Ask.handler c.in-Ask.at c.in-Ask.is c.handle.ensures

pub returns-in_ok-error-in-Not : goal.returns-in_ok-error-in-Not
returns-in_ok-error-in-Not c = stores_unindexed c.args.self.now c.args.key c.args.value c.args.found c.index_error.new.self c.in-Not.other c.in_ok-error-in-Not.error c.in-Not.is c.in_ok-error-in-Not.ensures

pub returns-in_ok-error-in-Loop : goal.returns-in_ok-error-in-Loop
returns-in_ok-error-in-Loop c = stores_endless c.args.self.now c.args.key c.args.value c.args.found c.fault.new.self c.in_ok-error-in-Loop.error c.in-Loop.is c.in_ok-error-in-Loop.ensures
