use Rattle.lua_state.proofs.Turns.{turn_stands, turn_told}
use Rattle.lua_state.proofs.playing.play.Goals as goal

pub loop-told-preserved : goal.loop-told-preserved
loop-told-preserved c = (
  c.in-Told.ensures.kept,
  turn_told c.args.steps c.args.machine.now c.loop-told.machine c.next.new.self c.loop-told.objects.trace.actions c.take_turn.new.objects.trace.actions c.loop-told.reply c.requires.starts c.loop-told.invariant.1
      c.next.result c.in-Told.told c.next.ensures.says c.next.ensures.output c.next.ensures.stand c.in-Told.ensures.turned c.in-Told.ensures.fits,
)

pub returns-in-Stands-clause-played : goal.returns-in-Stands-clause-played
returns-in-Stands-clause-played c = turn_stands c.args.steps c.args.machine.now c.loop-told.machine c.next.new.self c.loop-told.objects.trace.actions c.take_turn.new.objects.trace.actions c.loop-told.reply c.requires.starts c.loop-told.invariant.1
    c.next.result c.in-Stands.finish c.next.ensures.says c.next.ensures.output c.in-Stands.ensures.turned
