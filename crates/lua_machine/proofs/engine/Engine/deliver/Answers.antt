use Rattle.std.proofs.Common.{subst}
use Rattle.lua_machine.specs.Made.{IsEngine}
use Rattle.lua_machine.proofs.Delivered.{none_of, delivers_last, off_serving, delivers_each, delivers_falls_each}
use Rattle.lua_machine.proofs.engine.Engine.deliver.Goals as goal

pub returns-in_default : goal.returns-in_default
returns-in_default c = record { came = delivers_last c.args.self.now c.top.result (none_of c.top.result c.in_default.not-Some) c.top.ensures; falls = tt }

pub fulfil-requires : goal.fulfil-requires
fulfil-requires c =
    let m = c.args.self.now in
    record { ready = off_serving m c.take_off.new.self (subst IsEngine c.self.view_is c.self.invariant) c.requires.fit c.in-Some.frame c.take_off.ensures c.in-Serves.duty c.in-Serves.is }

pub returns-in-Serves-clause-came : goal.returns-in-Serves-clause-came
returns-in-Serves-clause-came c =
    let m = c.args.self.now in
    delivers_each m c.take_off.new.self (subst IsEngine c.self.view_is c.self.invariant) c.requires.fit c.in-Some.frame c.take_off.ensures c.in-Serves.duty c.in-Serves.is c.fulfil.result c.fulfil.new.self c.fulfil.ensures

pub returns-in-Serves-clause-falls : goal.returns-in-Serves-clause-falls
returns-in-Serves-clause-falls c =
    let m = c.args.self.now in
    delivers_falls_each m c.take_off.new.self (subst IsEngine c.self.view_is c.self.invariant) c.requires.fit c.in-Some.frame c.take_off.ensures c.in-Serves.duty c.in-Serves.is c.fulfil.result c.fulfil.new.self c.fulfil.ensures
