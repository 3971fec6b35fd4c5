-- What a Channel is after a history: the messages, the counts, the queue and the holder.
use Rattle.std.specs.Prelude.{ℕ, suc, zero, ◌+◌, Bool, ◌&&◌, ℤ, pos, int_le, List, [], ◌∷◌, ◌++◌, drop, fold, slice_get, Option, Some, None}
use Rattle.std.specs.List.{filter_map}
use Rattle.std.specs.Option.{option_to_list}
use Rattle.love_base.specs.declared.stamp.Stamp.{Stamp}
use Rattle.variant.specs.declared.message.Variant.{Variant}
use Rattle.channel_core.specs.declared.entry.Entry.{Entry}
use Rattle.channel_core.specs.declared.entry.Change.{Change}
use Rattle.channel_core.specs.declared.entry.Change.TheVariants.{Put, Take, Clear, Enter, Leave}

-- the entry of a message that is put
abbrev pub put_by : Stamp → Variant → Entry
put_by by message = record { by = by; what = Put message }

-- the entry of a message that is taken
abbrev pub take_by : Stamp → Entry
take_by by = record { by = by; what = Take }

-- the entry of a Channel that is cleared
abbrev pub clear_by : Stamp → Entry
clear_by by = record { by = by; what = Clear }

-- the entry of a section that begins
abbrev pub enter_by : Stamp → Entry
enter_by by = record { by = by; what = Enter }

-- the entry of a section that ends
abbrev pub leave_by : Stamp → Entry
leave_by by = record { by = by; what = Leave }

-- the message that a change sends
abbrev pub sent_by : Change → Option Variant
sent_by (Put message) = Some message
sent_by Take = None
sent_by Clear = None
sent_by Enter = None
sent_by Leave = None

-- the messages that were sent, in order
abbrev pub sent_messages : List Entry → List Variant
sent_messages h = filter_map (λ e. sent_by e.what) h

-- message k, counted from 1: the k-th one that was sent
abbrev pub message : List Entry → ℕ → Option Variant
message h zero = None
message h (suc k) = slice_get (sent_messages h) k

-- how many messages were sent, and how many of them were received
pub record Counts : Type 0 where
  pub sent : ℕ
  pub received : ℕ

-- the counts after one more change: a Put sends one message, a Take receives one, and a Clear receives
-- all that were sent
abbrev pub counts_after : Counts → Change → Counts
counts_after n (Put message) = record { sent = n.sent + 1; received = n.received }
counts_after n Take = record { sent = n.sent; received = n.received + 1 }
counts_after n Clear = record { sent = n.sent; received = n.sent }
counts_after n Enter = n
counts_after n Leave = n

-- the counts after a history, going through it from its first entry
abbrev pub counts : List Entry → Counts
counts h = fold (λ n e. counts_after n e.what) (record { sent = 0; received = 0 }) h

-- how many messages were sent
abbrev pub sent : List Entry → ℕ
sent h = (counts h).sent

-- how many messages were received
abbrev pub received : List Entry → ℕ
received h = (counts h).received

-- the messages that wait: all that were sent, but for the first ones, which were received
abbrev pub queue : List Entry → List Variant
queue h = drop (received h) (sent_messages h)

-- the message that has waited longest
abbrev pub front : List Entry → Option Variant
front h = slice_get (queue h) 0

-- the messages that a change receives, where these entries stand before it
abbrev pub received_by : List Entry → Change → List Variant
received_by before (Put message) = []
received_by before Take = option_to_list (front before)
received_by before Clear = queue before
received_by before Enter = []
received_by before Leave = []

-- the messages that the entries `es` receive, in order, where others stand before them
abbrev pub received_through : List Entry → List Entry → List Variant
received_through before [] = []
received_through before (e ∷ es) = received_by before e.what ++ received_through (before ++ e ∷ []) es

-- the messages that were received, in order
abbrev pub received_messages : List Entry → List Variant
received_messages h = received_through [] h

-- whether the message of this id was received: ids are those of 1 to the received count
abbrev pub is_read : List Entry → ℤ → Bool
is_read h id = int_le (pos 1) id && int_le id (pos (received h))

-- the state in whose section a Channel is after one more entry, where it was in that of the one before
abbrev pub holder_after : Option ℕ → Entry → Option ℕ
holder_after held e = held_by held e.by.state e.what
  where
    held_by : Option ℕ → ℕ → Change → Option ℕ
    held_by held state (Put message) = held
    held_by held state Take = held
    held_by held state Clear = held
    held_by held state Enter = Some state
    held_by held state Leave = None

-- the state of an Enter that has no Leave yet
abbrev pub holder : List Entry → Option ℕ
holder h = fold holder_after None h
