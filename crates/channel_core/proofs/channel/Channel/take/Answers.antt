use Rattle.std.proofs.Common.{◌≢◌, ◌+◌, ◌<◌, [], ap, sym, refl, ◌∙◌, arith, length, vec_capacity}
use Rattle.std.proofs.lemmas.Grind.{common_steps}
use Rattle.std.specs.Option.{option_copied}
use Rattle.channel_core.specs.History.{received, queue}
use Rattle.channel_core.specs.Lawful.{entry_limit}
use Rattle.channel_core.proofs.Histories.{front-none, front-waits, sent-le-length, waits-lt}
use Rattle.channel_core.proofs.Lawfulness.{room_below}
use Rattle.channel_core.proofs.Indexes.{IsIndexed-take}
use Rattle.channel_core.proofs.channel.Channel.take.Goals as goal

pub returns-in_default-clause-none : goal.returns-in_default-clause-none
returns-in_default-clause-none c =
    let empty = front-none c.args.self.now (sym c.peek.ensures.front ∙ ap option_copied c.in_default.is) in
    (λ _. empty, λ _. refl)

pub returns-in_default-clause-full : goal.returns-in_default-clause-full
returns-in_default-clause-full c =
    let empty = front-none c.args.self.now (sym c.peek.ensures.front ∙ ap option_copied c.in_default.is) in
    (λ e. absurd (cc), λ p. absurd (p.0 empty))

pub overflow_add-self : goal.overflow_add-self
overflow_add-self c =
    let waits = front-waits c.args.self.now _ c.in-Some.ensures.front in
    let room : length c.args.self.now < entry_limit = room_below _ _ c.is_full.ensures c.if-is_full.false in
    omega (arith, ap received c.self.view_is, c.self.invariant.count, waits-lt c.args.self.now waits, sent-le-length c.args.self.now)

pub invariant_of-self-2 : goal.invariant_of-self-2
invariant_of-self-2 c =
    let h = c.self.inside.history.items in
    let below : length h < entry_limit = rw c.self.view_is (room_below _ _ c.is_full.ensures c.if-is_full.false) in
    let waits : queue h ≢ [] = rw c.self.view_is (front-waits c.args.self.now _ c.in-Some.ensures.front) in
    let spare : length c.self.inside.history.items + 1 < vec_capacity c.append-place.new.history = grind (arith, common_steps) in
    rw (c.append-place.ensures.items, c.in_ok-reserve.ensures.items) (IsIndexed-take _ _ _ _ _ _ c.args.by c.self.invariant (rw c.self.view_is c.requires.admitted) waits below (rw c.self.view_is c.requires.later) spare)
