use Rattle.std.proofs.Common.{◌≡◌, ◌≢◌, Some, None}
use Rattle.channel_core.specs.History.{holder}
use Rattle.channel_core.proofs.Lawfulness.{length-lawful}
use Rattle.channel_core.proofs.Indexes.{IsIndexed-leave}
use Rattle.channel_core.proofs.channel.Channel.leave.Goals as goal

pub append-place-requires-clause-few : goal.append-place-requires-clause-few
append-place-requires-clause-few c =
    let inside : holder c.self.inside.history.items ≡ Some c.args.by.state = rw c.self.view_is c.requires.inside in
    let held : holder c.self.inside.history.items ≢ None = λ none. absurd (cc) in
    (length-lawful _ c.self.invariant.lawful).1 held

pub invariant_of-self : goal.invariant_of-self
invariant_of-self c =
    rw c.append-place.ensures.items (IsIndexed-leave _ _ _ _ _ _ c.args.by c.self.invariant (rw c.self.view_is c.requires.inside) (rw c.self.view_is c.requires.later))
