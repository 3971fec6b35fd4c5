-- Where a machine stands between two calls, and which replies it expects there.
use Rattle.std.specs.Prelude.{◌≡◌, Option, Some, None, true, ⊤}
use Rattle.variant.specs.declared.ask.Ask.{Ask}
use Rattle.variant.specs.declared.reply.Reply.{Reply}
use Rattle.variant.specs.Fits.{fits}
use Rattle.lua_machine.specs.declared.standing.Standing.{Standing}
use Rattle.lua_machine.specs.declared.standing.Standing.TheVariants as standings

-- it wasn't run yet, it waits for the reply to an ask, or its run is over
pub data Stand : Type 0 where
  fresh : Stand
  waits : Ask → Stand
  over : Stand

abbrev pub stand_of : Standing → Stand
stand_of standings.Fresh = fresh
stand_of (standings.Waits question errand) = waits question
stand_of standings.Over = over

-- one that wasn't run yet expects no reply; one that waits expects a reply that fits its ask
abbrev pub FitsAt : Stand → Option Reply → Type 0
FitsAt fresh None = ⊤
FitsAt (waits question) (Some reply) = fits question reply ≡ true
FitsAt stand reply = ⊥
