-- What the answers of a board's calls stand for in the table of answers.
use Rattle.std.specs.Prelude.{◌≡◌, ℕ, true, false, Option, Some, None, Result, Ok, Err, if◌then◌else◌, ⊤}
use Rattle.variant.specs.declared.ask.Ask.{Ask}
use Rattle.variant.specs.declared.reply.Reply.TheVariants.{Flag, Channel, Thread, Refused}
use Rattle.variant.specs.declared.reply.Refusal.TheVariants.{TooManyChannels as ManyChannels, TooManyThreads as ManyThreads, TooManyRunning as ManyRunning, TooManyStarts as ManyStarts, GameEnded}
use Rattle.variant.specs.declared.action.Deed.TheVariants.{Asked}
use Rattle.thread_board.specs.declared.entry.BoardChange.{BoardChange}
use Rattle.thread_board.specs.declared.making.Named.{Named}
use Rattle.thread_board.specs.declared.fault.BoardFault.{BoardFault}
use Rattle.thread_board.specs.declared.fault.BoardFault.TheVariants.{TooManyChannels, TooManyThreads, TooManyRunning, TooManyStarts, AlreadyRunning, Closed, NoSuchThread, Memory}
use Rattle.thread_board.specs.Answers.{Answer, only, adds, answer}
use Rattle.thread_board.specs.View.{BoardView}

-- this is what the ask of a state is answered by this board; want of memory is no answer of the table
abbrev pub Answers : BoardView → Ask → ℕ → Option Answer → Type 0
Answers board ask state None = ⊤
Answers board ask state (Some given) = (worker : ℕ) → answer board.workers worker (Asked ask) state board.history ≡ Some given

-- what a refusal stands for
abbrev pub refused : BoardFault → Option Answer
refused TooManyChannels = only (Refused ManyChannels)
refused TooManyThreads = only (Refused ManyThreads)
refused (TooManyRunning running) = only (Refused (ManyRunning running))
refused TooManyStarts = only (Refused ManyStarts)
refused (AlreadyRunning state) = only (Flag false)
refused (Closed place) = only (Refused (GameEnded place))
refused NoSuchThread = only (Flag false)
refused Memory = None

-- what the answer of a call that gives a Channel stands for, where it makes this change
abbrev pub channel_answer : BoardChange → Result Named BoardFault → Option Answer
channel_answer change (Ok given) = if given.changed then adds (Channel given.channel) change else only (Channel given.channel)
channel_answer change (Err fault) = refused fault

-- what the answer of `new_thread` stands for
abbrev pub thread_answer : BoardChange → Result (ℕ × ℕ) BoardFault → Option Answer
thread_answer change (Ok given) = adds (Thread given.1) change
thread_answer change (Err fault) = refused fault

-- what the answer of `start` stands for
abbrev pub started_answer : BoardChange → Result (ℕ × ℕ) BoardFault → Option Answer
started_answer change (Ok given) = adds (Flag true) change
started_answer change (Err fault) = refused fault
