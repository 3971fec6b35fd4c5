use Rattle.std.proofs.Common.{◌≡◌, take}
use Rattle.variant.proofs.message.+copy.Given as goal

-- the copies so far are the first pairs
abbrev pub invariant-copy_pairs-loop-key : goal.invariant-copy_pairs-loop-key
invariant-copy_pairs-loop-key l = l.copies.items ≡ take l.key-index l.pairs
