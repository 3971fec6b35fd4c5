-- What each kind of shared object tells of itself.
use Rattle.std.proofs.Common.{◌≡◌, ◌∙◌, ℕ, ◌+◌, ◌*◌, ◌^◌, ◌<◌, List, [], ◌∷◌, map, length, ap, refl, arith, true, is_none}
use Rattle.std.proofs.lemmas.Bool.Decides.{nat_tests}
use Rattle.channel_core.specs.declared.entry.Entry.{Entry}
use Rattle.channel_core.specs.History.{sent, received, holder}
use Rattle.channel_core.specs.Lawful.{IsLawful}
use Rattle.channel_core.proofs.Histories.{sent-le-length}
use Rattle.channel_core.proofs.Lawfulness.{length-lawful, received-le-sent, HasMessages-lawful}
use Rattle.thread_board.specs.declared.entry.BoardEntry.{BoardEntry}
use Rattle.thread_board.specs.Register.{register}
use Rattle.thread_board.specs.Sound.{ended_count}
use Rattle.channel_desk.specs.declared.shared.SharedEntry.TheVariants.{Board as OnBoard, Channel as OnChannel}
use Rattle.channel_desk.specs.Shared.{board_entries, channel_entries, summary_of, packed, rests}
use Rattle.channel_desk.specs.Same.{same_board, same_channel}

pub length_fits : (h : List Entry) → IsLawful h → length h < 2 ^ 22
length_fits h lawful = let l = (length-lawful h lawful).0 in omega arith

pub sent_fits : (h : List Entry) → IsLawful h → sent h < 2 ^ 21
sent_fits h lawful = let l = (length-lawful h lawful).0 in let s = sent-le-length h in omega arith

pub received_fits : (h : List Entry) → IsLawful h → received h < 2 ^ 21
received_fits h lawful = let s = sent_fits h lawful in let r = received-le-sent h (HasMessages-lawful h lawful) in omega arith

pub no_channel : (xs : List BoardEntry) → channel_entries (map OnBoard xs) ≡ []
no_channel [] = refl
no_channel (x ∷ xs) = no_channel xs

pub no_board : (xs : List Entry) → board_entries (map OnChannel xs) ≡ []
no_board [] = refl
no_board (x ∷ xs) = no_board xs

pub packed_fits : (sent received : ℕ) → received < 2 ^ 21 → packed sent received ≡ sent * 2 ^ 21 + received
packed_fits sent received fits = grind (arith, nat_tests)

pub summary_board : (xs : List BoardEntry) → summary_of (map OnBoard xs) ≡ ended_count (register xs).main_end
summary_board xs =
    ap (λ (h : List BoardEntry). ended_count (register h).main_end + packed (sent (channel_entries (map OnBoard xs))) (received (channel_entries (map OnBoard xs)))) (same_board xs)
    ∙ (ap (λ (h : List Entry). ended_count (register xs).main_end + packed (sent h) (received h)) (no_channel xs) ∙ omega arith)

zero_plus : (n : ℕ) → 0 + n ≡ n
zero_plus n = omega arith

pub summary_channel : (xs : List Entry) → summary_of (map OnChannel xs) ≡ packed (sent xs) (received xs)
summary_channel xs =
    ap (λ (h : List BoardEntry). ended_count (register h).main_end + packed (sent (channel_entries (map OnChannel xs))) (received (channel_entries (map OnChannel xs)))) (no_board xs)
    ∙ (zero_plus (packed (sent (channel_entries (map OnChannel xs))) (received (channel_entries (map OnChannel xs)))) ∙ ap (λ (h : List Entry). packed (sent h) (received h)) (same_channel xs))

pub rests_board : (xs : List BoardEntry) → rests (map OnBoard xs) ≡ true
rests_board xs = ap (λ (h : List Entry). is_none (holder h)) (no_channel xs)

pub rests_channel : (xs : List Entry) → rests (map OnChannel xs) ≡ is_none (holder xs)
rests_channel xs = ap (λ (h : List Entry). is_none (holder h)) (same_channel xs)
