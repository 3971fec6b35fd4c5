use Rattle.std.proofs.Common.{◌+◌, ◌<◌, arith, length, vec_capacity}
use Rattle.std.proofs.lemmas.Grind.{common_steps}
use Rattle.channel_core.specs.Lawful.{entry_limit}
use Rattle.channel_core.proofs.Lawfulness.{room_below}
use Rattle.channel_core.proofs.Indexes.{IsIndexed-enter}
use Rattle.channel_core.proofs.channel.Channel.enter.Goals as goal

pub invariant_of-self-2 : goal.invariant_of-self-2
invariant_of-self-2 c =
    let below : length c.self.inside.history.items < entry_limit = rw c.self.view_is (room_below _ _ c.is_full.ensures c.if-is_full.false) in
    let spare : length c.self.inside.history.items + 1 < vec_capacity c.append-place.new.history = grind (arith, common_steps) in
    rw (c.append-place.ensures.items, c.in_ok-reserve.ensures.items) (IsIndexed-enter _ _ _ _ _ _ c.args.by c.self.invariant (rw c.self.view_is c.requires.alone) below (rw c.self.view_is c.requires.later) spare)
