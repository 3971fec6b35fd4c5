use Rattle.std.proofs.Common.{sym, subst}
use Rattle.lua_machine.specs.declared.machine.Step.{Step}
use Rattle.lua_state.specs.declared.playing.Turn.TheVariants.{Told}
use Rattle.lua_state.specs.Played.{FitsTurn}
use Rattle.lua_state.proofs.Turns.{fits_reply}
use Rattle.lua_state.proofs.playing.take_turn.Goals as goal

pub returns-in-Replied-clause-fits : goal.returns-in-Replied-clause-fits
returns-in-Replied-clause-fits c = subst (λ (s : Step). FitsTurn s (Told c.in-Replied.reply)) (sym c.in-Ask.is) (fits_reply _ _ c.in-Ask.ask c.in-Replied.reply c.in-Replied.ensures.kept.done c.in-Replied.ensures.comes)
