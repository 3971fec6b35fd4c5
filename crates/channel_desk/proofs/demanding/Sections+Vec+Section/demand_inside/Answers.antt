use Rattle.std.proofs.Common.{◌≡◌, ◌∙◌, ℕ, ap, sym, subst, refl, length, set, get_or-set_same}
use Rattle.love_base.specs.declared.stamp.Stamp.{Stamp}
use Rattle.variant.specs.declared.ask.Ask.TheVariants.{Pop, Demand}
use Rattle.channel_desk.specs.Deeds.{IsPlaced}
use Rattle.channel_desk.specs.Turns.{IsAt, Waited}
use Rattle.channel_desk.specs.declared.sections.Section.{Section}
use Rattle.channel_desk.specs.Holding.{IsHolding}
use Rattle.channel_desk.specs.Shared.{channel_in, history_of}
use Rattle.channel_desk.proofs.Acts.{acted_inside, placed_inside}
use Rattle.channel_desk.proofs.Demands.{comes_inside}
use Rattle.channel_desk.proofs.Holds.{section_at}
use Rattle.channel_desk.proofs.Moves.{acted_as, at_read, holds_inside, kept_inside, if_err}
use Rattle.channel_desk.proofs.Waiting.{waited_same}
use Rattle.channel_desk.proofs.demanding.Sections+Vec+Section.demand_inside.Goals as goal

pub answer_section-requires-clause-inside : goal.answer_section-requires-clause-inside
answer_section-requires-clause-inside c =
    let old = c.index_mut.result.now in
    let at = at_read c.args.self.now.held.items c.args.channel c.args.at c.requires.section.0 old c.requires.section.1 c.index_mut.ensures.value in
    (section_at _ _ _ _ _ _ _ _ c.requires.holding at).depth

pub returns-in_err-given-clause-holding : goal.returns-in_err-given-clause-holding
returns-in_err-given-clause-holding c =
    let old = c.index_mut.result.now in let new = c.answer_section.new.section in let e = c.in_err-given.ensures in
    let at = at_read c.args.self.now.held.items c.args.channel c.args.at c.requires.section.0 old c.requires.section.1 c.index_mut.ensures.value in
    subst (IsHolding c.args.self.now.desk.now c.args.self.now.state c.args.self.now.next c.args.self.now.pass.now) (sym (kept_inside _ _ _ _ _ _ _ old new c.requires.holding at e.object e.kind e.outcome e.kept)) c.requires.holding

pub returns-in_err-given-clause-kept : goal.returns-in_err-given-clause-kept
returns-in_err-given-clause-kept c =
    let old = c.index_mut.result.now in let new = c.answer_section.new.section in let e = c.in_err-given.ensures in
    let at = at_read c.args.self.now.held.items c.args.channel c.args.at c.requires.section.0 old c.requires.section.1 c.index_mut.ensures.value in
    let next = c.args.self.now.next in let held = c.args.self.now.held.items in let v = c.args.self.now.pass.now.view in
    if_err _ ((next ≡ next) × (set held c.args.at new ≡ held) × Waited v v) (refl, kept_inside _ _ _ _ _ _ _ old new c.requires.holding at e.object e.kind e.outcome e.kept, waited_same v)

pub returns-clause-holding : goal.returns-clause-holding
returns-clause-holding c =
    let old = c.index_mut.result.now in let new = c.answer_section.new.section in let e = c.in_ok-given.ensures in let held = c.args.self.now.held.items in
    let at = at_read held c.args.channel c.args.at c.requires.section.0 old c.requires.section.1 c.index_mut.ensures.value in
    holds_inside _ _ _ _ held c.args.channel c.args.at old new c.stamp-by.result (Pop c.args.channel) c.in_ok-given.given c.requires.holding at tt (section_at _ _ _ _ _ _ _ _ c.requires.holding at).depth c.stamp-by.ensures e.object e.kind e.outcome e.depth

pub returns-clause-acted : goal.returns-clause-acted
returns-clause-acted c =
    let old = c.index_mut.result.now in let new = c.answer_section.new.section in let e = c.in_ok-given.ensures in let held = c.args.self.now.held.items in
    let at = at_read held c.args.channel c.args.at c.requires.section.0 old c.requires.section.1 c.index_mut.ensures.value in
    let i = section_at _ _ _ _ _ _ _ _ c.requires.holding at in
    let placed = subst (λ (b : Stamp). IsPlaced (channel_in old.held.value) b old.depth) (sym c.stamp-by.ensures) (placed_inside _ _ _ old i) in
    let here : c.index.result.now ≡ new = c.index.ensures ∙ get_or-set_same held c.args.at new c.index.result.now at.within in
    acted_as c.stamp-by.result _ _ _ _ _ _ _ _ c.stamp-by.ensures c.asked.ensures
    (acted_inside c.stamp-by.result _ _ held _ (Demand c.args.channel c.args.limit) c.get.result c.place_of-place.result c.args.at c.demanded_inside.result old new i.kind e.kind c.get.ensures.number
    (comes_inside c.args.channel c.args.limit c.stamp-by.result old.depth _ _ c.in_ok-given.given c.demanded_inside.result placed i.depth c.demanded_inside.ensures.message c.demanded_inside.ensures.refused e.outcome)
    (c.place_of-place.ensures ∙ ap (λ (s : Section). length (history_of s.held.value)) here)
    (subst (λ (n : ℕ). IsAt held n c.args.at old) (sym c.get.ensures.number) at) i.depth (e.object) e.depth refl refl)
