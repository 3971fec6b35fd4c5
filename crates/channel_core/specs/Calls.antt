-- What the answers of a Channel's calls stand for in the table of answers.
use Rattle.std.specs.Prelude.{◌≡◌, ℕ, List, Option, Some, None, Result, Ok, Err, ⊤}
use Rattle.variant.specs.declared.message.Variant.{Variant}
use Rattle.variant.specs.declared.ask.Ask.{Ask}
use Rattle.variant.specs.declared.reply.Reply.TheVariants.{Done, Nothing, Id, Value, Refused}
use Rattle.variant.specs.declared.reply.Refusal.TheVariants.{Full as TooFull}
use Rattle.variant.specs.declared.action.Deed.TheVariants.{Asked}
use Rattle.channel_core.specs.declared.entry.Entry.{Entry}
use Rattle.channel_core.specs.declared.entry.Change.TheVariants.{Put, Take, Clear, Enter}
use Rattle.channel_core.specs.declared.fault.PutFault.{PutFault}
use Rattle.channel_core.specs.declared.fault.PutFault.TheVariants.{Full, Memory}
use Rattle.channel_core.specs.Answers.{Answer, only, adds, answer}

-- this is what the ask of a state is answered at this history, whatever sections it has open; want of
-- memory is no answer of the table
abbrev pub Answers : Ask → ℕ → List Entry → Option Answer → Type 0
Answers ask state h None = ⊤
Answers ask state h (Some given) = (depth : ℕ) → answer (Asked ask) state depth h ≡ Some given

-- what a refusal stands for
abbrev pub refused : PutFault → Option Answer
refused Full = only (Refused TooFull)
refused Memory = None

-- what the answer of `put` stands for
abbrev pub put_answer : Variant → Result (ℕ × ℕ) (Variant × PutFault) → Option Answer
put_answer message (Ok given) = adds (Id given.1) (Put message)
put_answer message (Err given) = refused given.1

-- what the answer of `take` stands for
abbrev pub take_answer : Result (Option (ℕ × ℕ × Variant)) PutFault → Option Answer
take_answer (Ok None) = only Nothing
take_answer (Ok (Some given)) = adds (Value given.2) Take
take_answer (Err fault) = refused fault

-- what the answer of `wipe` stands for
abbrev pub wipe_answer : Result (Option ℕ) PutFault → Option Answer
wipe_answer (Ok None) = only Done
wipe_answer (Ok (Some place)) = adds Done Clear
wipe_answer (Err fault) = refused fault

-- what the answer of `enter` stands for
abbrev pub enter_answer : Result ℕ PutFault → Option Answer
enter_answer (Ok place) = adds Done Enter
enter_answer (Err fault) = refused fault

-- what the answer of `peek` stands for
abbrev pub peek_answer : Option Variant → Option Answer
peek_answer None = only Nothing
peek_answer (Some message) = only (Value message)
