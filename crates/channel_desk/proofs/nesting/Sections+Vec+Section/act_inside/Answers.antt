use Rattle.std.proofs.Common.{◌≡◌, ◌∙◌, ap, sym, subst, refl, length, set, get_or-set_same}
use Rattle.channel_desk.specs.Turns.{Waited}
use Rattle.channel_desk.specs.declared.sections.Section.{Section}
use Rattle.channel_desk.specs.Holding.{IsHolding}
use Rattle.channel_desk.specs.Shared.{history_of}
use Rattle.channel_desk.proofs.Acts.{acted_inside, deep_of_inside}
use Rattle.channel_desk.proofs.Holds.{section_at}
use Rattle.channel_desk.proofs.Moves.{acted_as, at_read, holds_inside, kept_inside, if_err, stays_read}
use Rattle.channel_desk.proofs.Waiting.{waited_same}
use Rattle.channel_desk.proofs.nesting.Sections+Vec+Section.act_inside.Goals as goal

pub returns-in_err-given-clause-holding : goal.returns-in_err-given-clause-holding
returns-in_err-given-clause-holding c =
    let old = c.index_mut.result.now in let new = c.answer_section.new.section in let e = c.in_err-given.ensures in
    let at = at_read c.args.self.now.held.items c.args.channel c.args.at c.requires.inside.0 old c.requires.inside.1 c.index_mut.ensures.value in
    subst (IsHolding c.args.self.now.desk.now c.args.self.now.state c.args.self.now.next c.args.self.now.pass.now) (sym (kept_inside _ _ _ _ _ _ _ old new c.requires.holding at e.object e.kind e.outcome e.kept)) c.requires.holding

pub returns-in_err-given-clause-kept : goal.returns-in_err-given-clause-kept
returns-in_err-given-clause-kept c =
    let old = c.index_mut.result.now in let new = c.answer_section.new.section in let e = c.in_err-given.ensures in
    let at = at_read c.args.self.now.held.items c.args.channel c.args.at c.requires.inside.0 old c.requires.inside.1 c.index_mut.ensures.value in
    let next = c.args.self.now.next in let held = c.args.self.now.held.items in let v = c.args.self.now.pass.now.view in
    if_err _ ((next ≡ next) × (set held c.args.at new ≡ held) × Waited v v) (refl, kept_inside _ _ _ _ _ _ _ old new c.requires.holding at e.object e.kind e.outcome e.kept, waited_same v)

pub returns-clause-holding : goal.returns-clause-holding
returns-clause-holding c =
    let old = c.index_mut.result.now in let new = c.answer_section.new.section in let e = c.in_ok-given.ensures in let held = c.args.self.now.held.items in
    let at = at_read held c.args.channel c.args.at c.requires.inside.0 old c.requires.inside.1 c.index_mut.ensures.value in
    let stays = stays_read held c.args.channel c.args.at c.requires.inside.0 old c.args.ask c.requires.inside.1 c.index_mut.ensures.value c.requires.inside.2 in
    holds_inside _ _ _ _ held c.args.channel c.args.at old new c.stamp-by.result c.args.ask c.in_ok-given.given c.requires.holding at c.requires.ask stays c.stamp-by.ensures e.object e.kind e.outcome e.depth

pub returns-clause-acted : goal.returns-clause-acted
returns-clause-acted c =
    let old = c.index_mut.result.now in let new = c.answer_section.new.section in let e = c.in_ok-given.ensures in let held = c.args.self.now.held.items in
    let at = at_read held c.args.channel c.args.at c.requires.inside.0 old c.requires.inside.1 c.index_mut.ensures.value in
    let stays = stays_read held c.args.channel c.args.at c.requires.inside.0 old c.args.ask c.requires.inside.1 c.index_mut.ensures.value c.requires.inside.2 in
    let here : c.index.result.now ≡ new = c.index.ensures ∙ get_or-set_same held c.args.at new c.index.result.now at.within in
    acted_as c.stamp-by.result _ _ _ _ _ _ _ _ c.stamp-by.ensures c.asked.ensures
    (acted_inside c.stamp-by.result _ _ held _ c.args.ask c.args.channel c.place_of-place.result c.args.at c.in_ok-given.given old new (section_at _ _ _ _ _ _ _ _ c.requires.holding at).kind e.kind c.requires.channel e.outcome (c.place_of-place.ensures ∙ ap (λ (s : Section). length (history_of s.held.value)) here)
    at (deep_of_inside c.args.ask old.depth c.requires.ask stays).0 e.object e.depth refl refl)
