-- What a write through a held object does.
use Rattle.std.specs.Borrow.{Lends, MutBor, Fml}
use denote.RattleType.{RattleType}
use Rattle.turn_desk.specs.contracts.held.Held.{the_row}

-- once the borrow is over, the held object is what was written last
abbrev pub LendsValue : (O E : RattleType) → MutBor (the_row O E).Denot → MutBor O.Denot → Fml
LendsValue O E held lent = Lends (the_row O E) O held lent (λ w. record { object = held.now.object; value = w })
