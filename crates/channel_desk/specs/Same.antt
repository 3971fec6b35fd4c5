-- A shared object is nothing but its fixed number and its history.
use Rattle.std.proofs.Common.{◌≡◌, List, [], ◌∷◌, map, ap, refl}
use Rattle.channel_core.specs.declared.entry.Entry.{Entry}
use Rattle.thread_board.specs.declared.entry.BoardEntry.{BoardEntry}
use Rattle.channel_desk.specs.declared.shared.Shared.{Shared}
use Rattle.channel_desk.specs.declared.shared.Shared.TheVariants.{Board, Channel}
use Rattle.channel_desk.specs.declared.shared.SharedEntry.TheVariants.{Board as OnBoard, Channel as OnChannel}
use Rattle.channel_desk.specs.Shared.{history_of, kind_of, shared_of, board_entries, channel_entries}

pub same_board : (xs : List BoardEntry) → board_entries (map OnBoard xs) ≡ xs
same_board [] = refl
same_board (x ∷ xs) = ap (λ (l : List BoardEntry). x ∷ l) (same_board xs)

pub same_channel : (xs : List Entry) → channel_entries (map OnChannel xs) ≡ xs
same_channel [] = refl
same_channel (x ∷ xs) = ap (λ (l : List Entry). x ∷ l) (same_channel xs)

pub replayed : (x : Shared) → shared_of (kind_of x) (history_of x) ≡ x
replayed (Board board) = ap (λ (h : List BoardEntry). Board (record { workers = board.workers; history = h })) (same_board board.history)
replayed (Channel entries) = ap Channel (same_channel entries)
