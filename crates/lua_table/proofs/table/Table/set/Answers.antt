use Rattle.std.proofs.Common.{◌≡◌, ◌+◌, ◌≤◌, length, sym, ap, ◌∙◌, arith}
use Rattle.lua_table.proofs.BorderLemmas.{Lawful, one-le-number}
use Rattle.lua_table.proofs.PlacesLemmas.{distinct-set}
use Rattle.lua_table.proofs.ReachLemmas.{IsBordered-set, IsBordered-set-elsewhere, end-within}
use Rattle.lua_table.specs.Gaps.{vacant}
use Rattle.lua_table.proofs.table.Table.set.Goals as goal

pub make_room-requires : goal.make_room-requires
make_room-requires g c =
    let lawful : Lawful g.K.PartialEq.eq g.K.Position.at_position g.K.Position.position_of =
    record { equivalence = g.met.K.Eq.laws; alike = g.met.K.Position.equal_is_same; inverse = g.met.K.Position.inverse } in
    one-le-number _ lawful g.met.K.Position.numbered c.args.key c.in-Some.n (sym c.in-Some.ensures)

pub fill-requires-clause-one : goal.fill-requires-clause-one
fill-requires-clause-one g c =
    let lawful : Lawful g.K.PartialEq.eq g.K.Position.at_position g.K.Position.position_of =
    record { equivalence = g.met.K.Eq.laws; alike = g.met.K.Position.equal_is_same; inverse = g.met.K.Position.inverse } in
    one-le-number _ lawful g.met.K.Position.numbered c.args.key c.in-Some.n (sym c.in-Some.ensures)

pub invariant_of-self-in-Some : goal.invariant_of-self-in-Some
invariant_of-self-in-Some g c =
    let lawful : Lawful g.K.PartialEq.eq g.K.Position.at_position g.K.Position.position_of =
    record { equivalence = g.met.K.Eq.laws; alike = g.met.K.Position.equal_is_same; inverse = g.met.K.Position.inverse } in
    let before = c.self.inside.border in
    let made = c.make_room.new.self in
    let end = c.in_ok-end-in-Some.end in
    let room : end ≤ length made.gaps = end-within end before.reached (length before.gaps) (length made.gaps) c.in_ok-end-in-Some.ensures.room c.self.invariant.1.room c.in_ok-end-in-Some.ensures.kept in
    let still : c.fill.new.self.reached ≡ before.reached = c.fill.ensures.reached ∙ c.in_ok-end-in-Some.ensures.reached in (
      rw c.in_ok-set-in-Some.ensures.ok (distinct-set g.K.PartialEq.eq g.met.K.Eq.laws c.self.inside.places c.args.key c.args.value c.self.invariant.0),
      rw c.in_ok-set-in-Some.ensures.ok
          (IsBordered-set lawful c.self.inside.places before.reached before.gaps c.args.key c.args.value c.in-Some.n c.self.invariant.1 (sym c.in-Some.ensures)
          end c.in_ok-end-in-Some.ensures.elsewhere c.in_ok-end-in-Some.ensures.from c.in_ok-end-in-Some.ensures.run c.in_ok-end-in-Some.ensures.ended
          c.fill.new.self.gaps c.fill.ensures.filled (λ k apart. c.fill.ensures.others k apart ∙ c.in_ok-end-in-Some.ensures.gaps k)
          c.reach.new.self.gaps (λ k low. c.reach.ensures.before k (omega (arith, still, low)))
          (λ k low high none.
          c.reach.ensures.between k (omega (arith, still, low)) high none
          ∙ ap (λ p. vacant g.K.PartialEq.eq g.K.Position.at_position p (k + 1)) c.in_ok-set-in-Some.ensures.ok)
          c.reach.ensures.behind (omega (arith, room, c.reach.ensures.room, c.fill.ensures.room))
          c.reach.new.self.reached c.reach.ensures.reached),
    )

pub invariant_of-self-in-Continue-branch-3 : goal.invariant_of-self-in-Continue-branch-3
invariant_of-self-in-Continue-branch-3 g c =
    let lawful : Lawful g.K.PartialEq.eq g.K.Position.at_position g.K.Position.position_of =
    record { equivalence = g.met.K.Eq.laws; alike = g.met.K.Position.equal_is_same; inverse = g.met.K.Position.inverse } in (
      rw c.in_ok-set-in-None.ensures.ok (distinct-set g.K.PartialEq.eq g.met.K.Eq.laws c.self.inside.places c.args.key c.args.value c.self.invariant.0),
      rw c.in_ok-set-in-None.ensures.ok
          (IsBordered-set-elsewhere lawful c.self.inside.places c.self.inside.border.reached c.self.inside.border.gaps c.args.key c.args.value c.self.invariant.1 (sym c.in-None.ensures)),
    )

pub returns-in_ok-set-in-Some-clause-distinct : goal.returns-in_ok-set-in-Some-clause-distinct
returns-in_ok-set-in-Some-clause-distinct g c =
    rw c.in_ok-set-in-Some.ensures.ok (distinct-set g.K.PartialEq.eq g.met.K.Eq.laws c.self.inside.places c.args.key c.args.value c.self.invariant.0)

pub returns-in_ok-set-in-None-clause-distinct : goal.returns-in_ok-set-in-None-clause-distinct
returns-in_ok-set-in-None-clause-distinct g c =
    rw c.in_ok-set-in-None.ensures.ok (distinct-set g.K.PartialEq.eq g.met.K.Eq.laws c.self.inside.places c.args.key c.args.value c.self.invariant.0)
