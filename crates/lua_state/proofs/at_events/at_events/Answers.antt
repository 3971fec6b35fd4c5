use Rattle.lua_state.proofs.Events.{polled_as}
use Rattle.lua_state.proofs.at_events.at_events.Goals as goal

pub returns-in-EventPoll-clause-answer : goal.returns-in-EventPoll-clause-answer
returns-in-EventPoll-clause-answer c = polled_as c.args.ask.now c.args.number c.args.events.now.items c.poll.new.events.items c.poll.result c.in-EventPoll.is c.poll.ensures.answer
