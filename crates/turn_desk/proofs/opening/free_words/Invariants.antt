use Rattle.std.proofs.Common.{◌≡◌, ◌+◌, ◌*◌, ◌<◌, ℕ, length, get_or}
use Rattle.turn_desk.proofs.opening.free_words.Given as goal

abbrev pub invariant-loop-object : goal.invariant-loop-object
invariant-loop-object l = record {
  wide : length l.words.items ≡ 8 * l.objects;
  turns : (o : ℕ) → o < l.objects → get_or l.words.items (8 * o) 0 ≡ 0;
  tallies : (o : ℕ) → o < l.object → get_or l.words.items (8 * o + 1) 0 ≡ l.summary;
}
