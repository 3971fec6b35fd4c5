use Rattle.std.proofs.Common.{◌≡◌, take}
use Rattle.variant.proofs.message.copy_all.Given as goal

-- the copies so far are the first messages
abbrev pub invariant-loop-message : goal.invariant-loop-message
invariant-loop-message l = l.copies.items ≡ take l.message-index l.messages
