use Rattle.std.proofs.Common.{sym}
use Rattle.lua_table.proofs.BorderLemmas.{Lawful, one-le-number}
use Rattle.lua_table.proofs.PlacesLemmas.{distinct-clear_key}
use Rattle.lua_table.proofs.ReachLemmas.{IsBordered-clear_key, IsBordered-clear_key-elsewhere}
use Rattle.lua_table.proofs.table.Table.clear_key.Goals as goal

pub empty-requires-clause-one : goal.empty-requires-clause-one
empty-requires-clause-one g c =
    let lawful : Lawful g.K.PartialEq.eq g.K.Position.at_position g.K.Position.position_of =
    record { equivalence = g.met.K.Eq.laws; alike = g.met.K.Position.equal_is_same; inverse = g.met.K.Position.inverse } in
    one-le-number _ lawful g.met.K.Position.numbered c.args.key.now c.in-Some.n (sym c.in-Some.ensures)

pub invariant_of-self : goal.invariant_of-self
invariant_of-self g c =
    let lawful : Lawful g.K.PartialEq.eq g.K.Position.at_position g.K.Position.position_of =
    record { equivalence = g.met.K.Eq.laws; alike = g.met.K.Position.equal_is_same; inverse = g.met.K.Position.inverse } in (
      rw c.clear.ensures (distinct-clear_key g.K.PartialEq.eq g.met.K.Eq.laws c.self.inside.places c.args.key.now c.self.invariant.0),
      rw c.clear.ensures
          (IsBordered-clear_key lawful c.self.inside.places c.self.inside.border.reached c.self.inside.border.gaps c.args.key.now c.in-Some.n c.self.invariant.1 (sym c.in-Some.ensures)
          c.empty.new.self.reached c.empty.new.self.gaps c.empty.ensures.reached c.empty.ensures.emptied c.empty.ensures.others c.empty.ensures.behind c.empty.ensures.room),
    )

pub invariant_of-self-in-None : goal.invariant_of-self-in-None
invariant_of-self-in-None g c =
    let lawful : Lawful g.K.PartialEq.eq g.K.Position.at_position g.K.Position.position_of =
    record { equivalence = g.met.K.Eq.laws; alike = g.met.K.Position.equal_is_same; inverse = g.met.K.Position.inverse } in (
      rw c.clear.ensures (distinct-clear_key g.K.PartialEq.eq g.met.K.Eq.laws c.self.inside.places c.args.key.now c.self.invariant.0),
      rw c.clear.ensures
          (IsBordered-clear_key-elsewhere lawful c.self.inside.places c.self.inside.border.reached c.self.inside.border.gaps c.args.key.now c.self.invariant.1 (sym c.in-None.ensures)),
    )

pub returns-in-Some-clause-distinct : goal.returns-in-Some-clause-distinct
returns-in-Some-clause-distinct g c = rw c.clear.ensures (distinct-clear_key g.K.PartialEq.eq g.met.K.Eq.laws c.self.inside.places c.args.key.now c.self.invariant.0)

pub returns-in-None-clause-distinct : goal.returns-in-None-clause-distinct
returns-in-None-clause-distinct g c = rw c.clear.ensures (distinct-clear_key g.K.PartialEq.eq g.met.K.Eq.laws c.self.inside.places c.args.key.now c.self.invariant.0)
