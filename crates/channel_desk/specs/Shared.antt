-- What a desk sees of the objects that states share: the board and the Channels.
use Rattle.std.specs.Prelude.{ℕ, zero, suc, ◌+◌, ◌*◌, ◌^◌, nat_lt, Bool, is_none, List, [], ◌∷◌, map, if◌then◌else◌}
use Rattle.love_base.specs.declared.stamp.Stamp.{Stamp}
use Rattle.channel_core.specs.declared.entry.Entry.{Entry}
use Rattle.channel_core.specs.History.{sent, received, holder}
use Rattle.thread_board.specs.declared.entry.BoardEntry.{BoardEntry}
use Rattle.thread_board.specs.Register.{register}
use Rattle.thread_board.specs.Sound.{ended_count}
use Rattle.thread_board.specs.View.{BoardView}
use Rattle.channel_desk.specs.declared.shared.Shared.{Shared}
use Rattle.channel_desk.specs.declared.shared.Shared.TheVariants.{Board, Channel}
use Rattle.channel_desk.specs.declared.shared.SharedEntry.{SharedEntry}
use Rattle.channel_desk.specs.declared.shared.SharedEntry.TheVariants.{Board as OnBoard, Channel as OnChannel}

-- the history of an object
abbrev pub history_of : Shared → List SharedEntry
history_of (Board board) = map OnBoard board.history
history_of (Channel entries) = map OnChannel entries

-- the fixed number of an object: 0 for a Channel, one more than the workers for a board
abbrev pub kind_of : Shared → ℕ
kind_of (Board board) = suc board.workers
kind_of (Channel entries) = 0

-- the board's entries among these
abbrev pub board_entries : List SharedEntry → List BoardEntry
board_entries [] = []
board_entries (OnBoard e ∷ es) = e ∷ board_entries es
board_entries (OnChannel e ∷ es) = board_entries es

-- a Channel's entries among these
abbrev pub channel_entries : List SharedEntry → List Entry
channel_entries [] = []
channel_entries (OnBoard e ∷ es) = channel_entries es
channel_entries (OnChannel e ∷ es) = e ∷ channel_entries es

-- the object of a fixed number and a history
abbrev pub shared_of : ℕ → List SharedEntry → Shared
shared_of zero es = Channel (channel_entries es)
shared_of (suc workers) es = Board (record { workers = workers; history = board_entries es })

-- the sent count in the higher 21 bits and the received count in the lower 21; where the received count
-- doesn't fit, a number that no tally has
abbrev pub packed : ℕ → ℕ → ℕ
packed sent received = if nat_lt received (2 ^ 21) then sent * 2 ^ 21 + received else 2 ^ 42

-- what a tally shows beside the length: of a Channel its two counts, of the board 1 where state 0 has ended
abbrev pub summary_of : List SharedEntry → ℕ
summary_of es = ended_count (register (board_entries es)).main_end + packed (sent (channel_entries es)) (received (channel_entries es))

-- whether nobody is inside a section
abbrev pub rests : List SharedEntry → Bool
rests es = is_none (holder (channel_entries es))

abbrev pub stamp_of : SharedEntry → Stamp
stamp_of (OnBoard e) = e.by
stamp_of (OnChannel e) = e.by

-- the Channel that an object is, as its history; nothing for a board
abbrev pub channel_in : Shared → List Entry
channel_in (Board board) = []
channel_in (Channel entries) = entries

-- the board that an object is; for a Channel one without workers
abbrev pub board_in : Shared → BoardView
board_in (Board board) = board
board_in (Channel entries) = record { workers = 0; history = [] }
