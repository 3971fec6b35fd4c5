use Rattle.std.proofs.Common.{subst}
use Rattle.lua_machine.specs.Made.{IsEngine}
use Rattle.lua_machine.proofs.Delivered.{none_of, unwinds_last, unwinds_lua, unwinds_falls, off_serving, off_made, unwinds_each, unwinds_falls_each}
use Rattle.lua_machine.proofs.engine.Engine.unwind.Goals as goal

pub returns-in_default : goal.returns-in_default
returns-in_default c = record { came = unwinds_last c.args.self.now c.args.value c.requires.made c.top.result (none_of c.top.result c.in_default.not-Some) c.top.ensures; falls = tt }

pub returns-in-Waits-clause-came : goal.returns-in-Waits-clause-came
returns-in-Waits-clause-came c =
    let m = c.args.self.now in
    unwinds_lua m c.take_off.new.self (subst IsEngine c.self.view_is c.self.invariant) c.requires.fit c.in-Some.frame c.take_off.ensures c.in-Waits.field-0 c.args.value c.in-Waits.is c.requires.made

pub returns-in-Waits-clause-falls : goal.returns-in-Waits-clause-falls
returns-in-Waits-clause-falls c =
    let m = c.args.self.now in
    unwinds_falls m c.take_off.new.self (subst IsEngine c.self.view_is c.self.invariant) c.requires.fit c.in-Some.frame c.take_off.ensures c.args.value c.args.value

pub fail-requires : goal.fail-requires
fail-requires c =
    let m = c.args.self.now in
    record {
      ready = off_serving m c.take_off.new.self (subst IsEngine c.self.view_is c.self.invariant) c.requires.fit c.in-Some.frame c.take_off.ensures c.in-Serves.duty c.in-Serves.is;
      made = off_made m c.take_off.new.self c.in-Some.frame c.take_off.ensures c.args.value c.requires.made;
    }

pub returns-in-Serves-clause-came : goal.returns-in-Serves-clause-came
returns-in-Serves-clause-came c =
    let m = c.args.self.now in
    unwinds_each m c.take_off.new.self (subst IsEngine c.self.view_is c.self.invariant) c.requires.fit c.in-Some.frame c.take_off.ensures c.in-Serves.duty c.in-Serves.is c.args.value c.fail.result c.fail.new.self c.fail.ensures

pub returns-in-Serves-clause-falls : goal.returns-in-Serves-clause-falls
returns-in-Serves-clause-falls c =
    let m = c.args.self.now in
    unwinds_falls_each m c.take_off.new.self (subst IsEngine c.self.view_is c.self.invariant) c.requires.fit c.in-Some.frame c.take_off.ensures c.in-Serves.duty c.in-Serves.is c.args.value c.fail.result c.fail.new.self c.fail.ensures
