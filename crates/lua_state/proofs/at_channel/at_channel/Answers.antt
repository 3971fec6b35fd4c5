use Rattle.std.proofs.Common.{ap, Ok}
use Rattle.lua_state.proofs.Repeating.{repeatable}
use Rattle.lua_state.proofs.at_channel.at_channel.Goals as goal

pub twice-requires : goal.twice-requires
twice-requires c = repeatable c.args.ask.now c.args.by c.args.depth c.args.channel.now c.given_at.new.channel (Ok c.in_ok-given.field-0) c.in-Some.given c.in_ok-front.front c.requires.ask c.in_ok-front.ensures c.in_ok-given.ensures (ap Ok c.in-Some.is)
