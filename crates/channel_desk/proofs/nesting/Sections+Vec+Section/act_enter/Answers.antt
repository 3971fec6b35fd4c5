use Rattle.std.proofs.Common.{◌∙◌, ◌+◌, ◌++◌, ◌∷◌, [], ℕ, List, ap, sym, refl, arith}
use Rattle.channel_desk.specs.declared.sections.Section.{Section}
use Rattle.channel_desk.specs.Deeds.{object_of}
use Rattle.channel_desk.proofs.Acts.{acted_enter, acted_turn, placed_outside, turned_by, waited_turned}
use Rattle.channel_desk.proofs.Holds.{holds_as, holds_turned, holds_waited}
use Rattle.channel_desk.proofs.Moves.{acted_as, holds_entered}
use Rattle.channel_desk.proofs.nesting.Sections+Vec+Section.act_enter.Goals as goal

pub returns-in-Err-clause-holding : goal.returns-in-Err-clause-holding
returns-in-Err-clause-holding g c =
    let t = c.take_channel.ensures in
    holds_as _ _ _ _ _ _ _ _ _ t.desk t.state t.next (t.items ∙ c.reserve.ensures.items) (holds_waited _ _ _ c.args.self.now.pass.now _ _ c.requires.holding t.own c.in-Err.ensures.halted.waited)

pub answer_held-given-requires-clause-placed : goal.answer_held-given-requires-clause-placed
answer_held-given-requires-clause-placed g c = placed_outside _ _ c.in-Ok.ensures.kind c.in-Ok.ensures.between

pub returns-in_default-clause-holding : goal.returns-in_default-clause-holding
returns-in_default-clause-holding g c =
    let t = c.take_channel.ensures in let o = c.in-Ok.ensures in let d = c.answer_held-given.ensures in
    holds_as _ _ _ _ _ _ _ _ _ t.desk t.state t.next (t.items ∙ c.reserve.ensures.items) (holds_turned _ _ _ _ c.args.self.now.pass.now c.give.new.pass _ c.args.channel _ _ c.requires.holding (omega arith) (c.give.ensures.own ∙ t.own)
    (turned_by _ _ _ c.args.channel _ _ _ o.took (d.object ∙ o.object) c.give.ensures.gave))

pub returns-in_default-clause-kept : goal.returns-in_default-clause-kept
returns-in_default-clause-kept g c =
    let t = c.take_channel.ensures in let o = c.in-Ok.ensures in let d = c.answer_held-given.ensures in (
      t.next,
      t.items ∙ c.reserve.ensures.items,
      waited_turned _ _ c.args.channel c.in-Ok.held.value c.answer_held-given.new.held.value o.kind d.kind c.in_default.ensures.outcome (turned_by _ _ _ c.args.channel _ _ _ o.took (d.object ∙ o.object) c.give.ensures.gave),
    )

pub push_reserved-requires : goal.push_reserved-requires
push_reserved-requires g c =
    let ok = c.in_ok-reserve.ensures.ok in let len = c.take_channel.ensures.room.0 in let capacity = c.take_channel.ensures.room.1 in omega (arith, ok, len, capacity)

pub returns-then-given-clause-holding : goal.returns-then-given-clause-holding
returns-then-given-clause-holding g c =
    let t = c.take_channel.ensures in let o = c.in-Ok.ensures in let d = c.answer_held-given.ensures in
    holds_as _ _ _ _ _ _ _ _ _ t.desk t.state (ap (λ (n : ℕ). n + 1) t.next) refl (holds_entered _ _ _ c.args.self.now.pass.now _ _ _ c.args.channel c.in-Ok.held.value (record { held = c.answer_held-given.new.held; depth = 1 }) c.stamp-by.result c.args.ask c.in-Ok-given.given
    c.requires.holding c.requires.channel.0 c.requires.channel.1 t.own o.took (d.object ∙ o.object) refl o.kind d.kind o.between c.stamp-by.ensures c.requires.ask c.if-given.true d.lawful c.in-Ok-given.ensures.outcome
    (c.push_reserved.ensures.items ∙ ap (λ (l : List Section). l ++ record { held = c.answer_held-given.new.held; depth = 1 } ∷ []) (t.items ∙ c.reserve.ensures.items)))

pub returns-then-given-clause-acted : goal.returns-then-given-clause-acted
returns-then-given-clause-acted g c =
    let t = c.take_channel.ensures in let o = c.in-Ok.ensures in let d = c.answer_held-given.ensures in
    acted_as c.stamp-by.result _ _ _ _ _ _ _ _ c.stamp-by.ensures c.asked.ensures
    (acted_enter c.stamp-by.result _ _ _ _ c.args.ask c.args.channel c.place_of-place.result c.in-Ok-given.given c.in-Ok.held.value (record { held = c.answer_held-given.new.held; depth = 1 }) o.kind d.kind (sym (ap object_of c.requires.ask)) c.in-Ok-given.ensures.outcome c.place_of-place.ensures
    o.took (d.object ∙ o.object) refl (c.push_reserved.ensures.items ∙ ap (λ (l : List Section). l ++ record { held = c.answer_held-given.new.held; depth = 1 } ∷ []) (t.items ∙ c.reserve.ensures.items)))

pub returns-clause-holding : goal.returns-clause-holding
returns-clause-holding g c =
    let t = c.take_channel.ensures in let o = c.in-Ok.ensures in let d = c.answer_held-given.ensures in
    holds_as _ _ _ _ _ _ _ _ _ t.desk t.state (ap (λ (n : ℕ). n + 1) t.next) (t.items ∙ c.reserve.ensures.items) (holds_turned _ _ _ _ c.args.self.now.pass.now c.give-2.new.pass _ c.args.channel _ _ c.requires.holding (omega arith) (c.give-2.ensures.own ∙ t.own)
    (turned_by _ _ _ c.args.channel _ _ _ o.took (d.object ∙ o.object) c.give-2.ensures.gave))

pub returns-clause-acted : goal.returns-clause-acted
returns-clause-acted g c =
    let t = c.take_channel.ensures in let o = c.in-Ok.ensures in let d = c.answer_held-given.ensures in
    acted_as c.stamp-by.result _ _ _ _ _ _ _ _ c.stamp-by.ensures c.asked-2.ensures
    (acted_turn c.stamp-by.result _ _ _ _ c.args.ask c.args.channel c.place_of-place.result c.in-Ok-given.given c.in-Ok.held.value c.answer_held-given.new.held.value o.kind d.kind (sym (ap object_of c.requires.ask)) c.in-Ok-given.ensures.outcome c.place_of-place.ensures
    (turned_by _ _ _ c.args.channel _ _ _ o.took (d.object ∙ o.object) c.give-2.ensures.gave) (t.items ∙ c.reserve.ensures.items))
