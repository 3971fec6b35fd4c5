-- What rows of programs claim.
use Rattle.std.specs.Prelude.{◌≡◌, pos, [], ◌∷◌, None, codes}
use Rattle.lua_meaning.specs.Message.{Message, pair_and, no_pairs, Event, Reply}
use Rattle.lua_meaning.specs.Run.{Start, Run, run}

-- a run from a start shows this
abbrev pub Comes : {A : Type 0} → (Run → A) → Start → A → Type 0
Comes shown start wanted = shown (run start) ≡ wanted

-- two messages that rows send: `{a = {v = 1}, b = {v = 1}}`, and Data of the bytes `hello`
abbrev pub pair_message : Message
pair_message =
    Message.table (pair_and (Message.str (codes "a")) (Message.table (pair_and (Message.str (codes "v")) (Message.num (pos 1)) no_pairs))
    (pair_and (Message.str (codes "b")) (Message.table (pair_and (Message.str (codes "v")) (Message.num (pos 1)) no_pairs)) no_pairs))

abbrev pub hello_message : Message
hello_message = Message.datum (record { bytes = codes "hello"; name = None })

-- the event that `love.event.quit(3)` sends
abbrev pub quit_event : Reply
quit_event = Reply.event 0 3 (Event.user (codes "quit") (Message.num (pos 3) ∷ []))
