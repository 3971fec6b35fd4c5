-- Which kinds of replies an ask is answered by.
use Rattle.std.specs.Prelude.{Bool, true, false, ◌||◌}
use Rattle.variant.specs.declared.ask.Ask.{Ask}
use Rattle.variant.specs.declared.ask.Ask.TheVariants.{Push, Supply, Pop, Peek, Count, HasRead, Clear, Demand, Await, Enter, Leave, Name, NewChannel, NewThread, Start, IsRunning, ErrorOf, WaitFor, EventPush, EventPoll}
use Rattle.variant.specs.declared.reply.Reply.{Reply}
use Rattle.variant.specs.declared.reply.Reply.TheVariants.{Done, Nothing, Flag, Id, Number, Value, Channel, Thread, Words, Event, Refused}

abbrev pub is_done : Reply → Bool
is_done Done = true
is_done _ = false

abbrev pub is_nothing : Reply → Bool
is_nothing Nothing = true
is_nothing _ = false

abbrev pub is_flag : Reply → Bool
is_flag (Flag answer) = true
is_flag _ = false

abbrev pub is_id : Reply → Bool
is_id (Id id) = true
is_id _ = false

abbrev pub is_number : Reply → Bool
is_number (Number count) = true
is_number _ = false

abbrev pub is_value : Reply → Bool
is_value (Value message) = true
is_value _ = false

abbrev pub is_channel : Reply → Bool
is_channel (Channel number) = true
is_channel _ = false

abbrev pub is_thread : Reply → Bool
is_thread (Thread number) = true
is_thread _ = false

abbrev pub is_words : Reply → Bool
is_words (Words text) = true
is_words _ = false

abbrev pub is_event : Reply → Bool
is_event (Event sent) = true
is_event _ = false

abbrev pub is_refused : Reply → Bool
is_refused (Refused cause) = true
is_refused _ = false

-- whether a reply is one of the kinds that an ask is answered by
abbrev pub fits : Ask → Reply → Bool
fits (Push channel message) reply = is_id reply || is_refused reply
fits (Supply channel message) reply = is_id reply || is_refused reply
fits (Pop channel) reply = is_value reply || is_nothing reply || is_refused reply
fits (Peek channel) reply = is_value reply || is_nothing reply
fits (Count channel) reply = is_number reply
fits (HasRead channel id) reply = is_flag reply
fits (Clear channel) reply = is_done reply || is_refused reply
fits (Demand channel limit) reply = is_value reply || is_nothing reply || is_refused reply
fits (Await channel id limit) reply = is_flag reply
fits (Enter channel) reply = is_done reply || is_refused reply
fits (Leave channel) reply = is_done reply
fits (Name text) reply = is_channel reply || is_refused reply
fits NewChannel reply = is_channel reply || is_refused reply
fits (NewThread source) reply = is_thread reply || is_refused reply
fits (Start thread args) reply = is_flag reply || is_refused reply
fits (IsRunning thread) reply = is_flag reply
fits (ErrorOf thread) reply = is_words reply || is_nothing reply
fits (WaitFor thread) reply = is_done reply
fits (EventPush name args) reply = is_done reply
fits EventPoll reply = is_event reply || is_nothing reply
