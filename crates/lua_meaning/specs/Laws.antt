-- What holds of every run.
use Rattle.std.specs.Prelude.{ℕ, ◌+◌, ◌*◌, ◌-◌, ◌≤◌, ◌≡◌, List, ◌++◌, length, Bool, ℤ, map}
use Rattle.love_base.specs.Data.{Contents}
use Rattle.love_base.specs.Prefix.{IsPrefix}
use Rattle.variant.specs.declared.message.Variant.{Variant}
use Rattle.variant.specs.declared.message.Variant.TheVariants as variant
use Rattle.lua_meaning.specs.Message.{Message, Reply}
use Rattle.lua_meaning.specs.MessageView.{message_view, pairs_of}
use Rattle.lua_meaning.specs.World.{World, Ends, gives, fails, out_of_steps, needs}
use Rattle.lua_meaning.specs.Calls.{Task}
use Rattle.lua_meaning.specs.Control.{Game}
use Rattle.lua_meaning.specs.Running.{within}
use Rattle.lua_meaning.specs.Run.{Start, Run, End, done, failed, no_steps, waits, run}

-- the state that a part of a program leaves
abbrev pub left : {A : Type 0} → Ends A → World
left (gives a w) = w
left (fails v w) = w
left (out_of_steps w) = w
left (needs ask w) = w

-- how many asks wait for a reply at a run's end
abbrev pub waiting : End → ℕ
waiting (done n) = 0
waiting (failed text) = 0
waiting no_steps = 0
waiting (waits ask) = 1

-- no part of a program adds ticks, and its output grows only
pub record Grows (w after : World) : Type 0 where
  pub ticks : after.ticks ≤ w.ticks
  pub output : IsPrefix w.output after.output

-- each task, from each world
abbrev pub EachGrows : Type 0
EachGrows = (game : Game) (n : ℕ) (t : Task) (w : World) → Grows w (left (within game n t w))

-- a run leaves at most the ticks that it was given
abbrev pub RunsSpend : Type 0
RunsSpend = (start : Start) → (run start).ticks ≤ start.ticks

-- a run's asks, with the one that waits, are at most twice the ticks that it took
abbrev pub AsksAreFew : Type 0
AsksAreFew =
    (start : Start) → length (run start).asks + waiting (run start).end ≤ 2 * (start.ticks -
    (run start).ticks)

-- the same start with more replies
abbrev pub with_replies : Start → List Reply → Start
with_replies start more = record start { replies = start.replies ++ more }

-- a run with more replies begins as the shorter one
pub record Extends (short long : Run) : Type 0 where
  pub asks : IsPrefix short.asks long.asks
  pub output : IsPrefix short.output long.output

abbrev pub RepliesExtend : Type 0
RepliesExtend = (start : Start) (more : List Reply) →
    Extends (run start) (run (with_replies start more))

-- whether a run waits for a reply
abbrev pub IsWaiting : End → Type 0
IsWaiting end = waiting end ≡ 1

-- a run that doesn't wait is the same with more replies
abbrev pub EndsStay : Type 0
EndsStay = (start : Start) (more : List Reply) → waiting (run start).end ≡ 0 →
    run (with_replies start more) ≡ run start

-- how a message of crate `variant` is seen, case by case
pub record MessagesSeen : Type 0 where
  pub nil_seen : message_view variant.Nil ≡ Message.nil
  pub flag_seen : (b : Bool) → message_view (variant.Bool b) ≡ Message.flag b
  pub num_seen : (n : ℤ) → message_view (variant.Num n) ≡ Message.num n
  pub text_seen : (text : List ℕ) → message_view (variant.Bytes text) ≡ Message.str text
  pub data_seen : (contents : Contents) → message_view (variant.Data contents) ≡ Message.datum contents
  pub channel_seen : (number : ℕ) → message_view (variant.Channel number) ≡ Message.channel number
  pub table_seen :
      (pairs : List (Variant × Variant)) →
      message_view (variant.Table pairs)
      ≡ Message.table (pairs_of (map (λ pair. (message_view pair.0, message_view pair.1)) pairs))
