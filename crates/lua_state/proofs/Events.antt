-- What asks about events give.
use Rattle.std.specs.Prelude.{IfOk}
use Rattle.std.proofs.Common.{◌≡◌, ℕ, List, Result, Ok, Err, sym, subst}
use Rattle.love_base.specs.declared.memory.Memory.{Memory}
use Rattle.variant.specs.declared.ask.Ask.{Ask}
use Rattle.variant.specs.declared.ask.Ask.TheVariants.{EventPoll}
use Rattle.variant.specs.declared.event.Sent.{Sent}
use Rattle.lua_state.specs.declared.answer.Answer.{Answer}
use Rattle.lua_state.specs.Answered.{AnswersByEvents}

-- a poll, said of an equal ask
pub polled_as : (ask : Ask) (number : ℕ) (before after : List Sent) (r : Result Answer Memory) → ask ≡ EventPoll → IfOk r (λ a. (n : ℕ) → AnswersByEvents EventPoll n before after a) → IfOk r (λ a. AnswersByEvents ask number before after a)
polled_as ask number before after (Ok a) e given = subst (λ (x : Ask). AnswersByEvents x number before after a) (sym e) (given number)
polled_as ask number before after (Err memory) e given = tt
