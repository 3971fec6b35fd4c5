use Rattle.std.proofs.Common.{◌<◌, sym, subst}
use Rattle.lua_code.specs.Held.{program_view}
use Rattle.lua_machine.specs.declared.status.Turn.{Turn}
use Rattle.lua_machine.proofs.Running.{Running, left_at, running_first, running_next, smaller, served_next, served_smaller, runs_to}
use Rattle.lua_machine.proofs.engine.Engine.run.Goals as goal

pub loop-turn-init : goal.loop-turn-init
loop-turn-init c = running_first (program_view c.args.program.now c.args.state) c.args.from c.args.self.now c.land.new.self c.in_ok-turn.turn c.in_ok-turn.ensures

pub returns-in-Pauses : goal.returns-in-Pauses
returns-in-Pauses c =
    let program = program_view c.args.program.now c.args.state in
    runs_to program c.args.from c.args.self.now c.loop-turn.self c.in-Pauses.pause (subst (λ (t : Turn). Running program c.args.from c.args.self.now t c.loop-turn.self) c.in-Pauses.is c.loop-turn.invariant)

pub land-requires-in-Goes : goal.land-requires-in-Goes
land-requires-in-Goes c = record { kept = (c.in_ok-status-in-Goes.ensures (program_view c.args.program.now c.args.state)).kept }

pub loop-turn-smaller-in_ok-turn-in-Goes : goal.loop-turn-smaller-in_ok-turn-in-Goes
loop-turn-smaller-in_ok-turn-in-Goes c =
    let program = program_view c.args.program.now c.args.state in
    let now = c.loop-turn.self in
    let new = c.land-in-Goes.new.self in
    let next = c.in_ok-turn-in-Goes.turn in
    let r = subst (λ (t : Turn). Running program c.args.from c.args.self.now t now) c.in-Goes.is c.loop-turn.invariant in
    subst (λ (t : Turn). left_at next new < left_at t now) (sym c.in-Goes.is)
    (smaller program c.requires.sound c.args.from c.args.self.now now c.step.new.self new next r c.in_ok-status-in-Goes.status c.in_ok-status-in-Goes.ensures c.in_ok-turn-in-Goes.ensures)

pub loop-turn-preserved-in_ok-turn-in-Goes : goal.loop-turn-preserved-in_ok-turn-in-Goes
loop-turn-preserved-in_ok-turn-in-Goes c =
    let program = program_view c.args.program.now c.args.state in
    let now = c.loop-turn.self in
    let r = subst (λ (t : Turn). Running program c.args.from c.args.self.now t now) c.in-Goes.is c.loop-turn.invariant in
    running_next program c.requires.sound c.args.from c.args.self.now now c.step.new.self c.land-in-Goes.new.self c.in_ok-turn-in-Goes.turn r c.in_ok-status-in-Goes.status c.in_ok-status-in-Goes.ensures c.in_ok-turn-in-Goes.ensures

pub loop-turn-smaller : goal.loop-turn-smaller
loop-turn-smaller c =
    let program = program_view c.args.program.now c.args.state in
    let now = c.loop-turn.self in
    let new = c.land-in-Serves.new.self in
    let next = c.in_ok-turn-in-Serves.turn in
    let f = c.in-Serves.native in
    let r = subst (λ (t : Turn). Running program c.args.from c.args.self.now t now) c.in-Serves.is c.loop-turn.invariant in
    subst (λ (t : Turn). left_at next new < left_at t now) (sym c.in-Serves.is)
    (served_smaller program c.requires.sound c.args.from c.args.self.now now c.serve.new.self new next f r c.in_ok-status-in-Serves.status c.in_ok-status-in-Serves.ensures c.in_ok-turn-in-Serves.ensures)

pub loop-turn-preserved : goal.loop-turn-preserved
loop-turn-preserved c =
    let program = program_view c.args.program.now c.args.state in
    let now = c.loop-turn.self in
    let f = c.in-Serves.native in
    let r = subst (λ (t : Turn). Running program c.args.from c.args.self.now t now) c.in-Serves.is c.loop-turn.invariant in
    served_next program c.requires.sound c.args.from c.args.self.now now c.serve.new.self c.land-in-Serves.new.self c.in_ok-turn-in-Serves.turn f r c.in_ok-status-in-Serves.status c.in_ok-status-in-Serves.ensures c.in_ok-turn-in-Serves.ensures
