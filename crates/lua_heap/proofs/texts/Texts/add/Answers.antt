use Rattle.std.proofs.Common.{◌≡◌, [], ◌∷◌, ◌++◌, length, sym, ap, ◌∙◌, slice_get, rules}
use Rattle.lua_heap.specs.Texts.{AreTexts}
use Rattle.lua_heap.proofs.TextsLemmas.{AreTexts-added, spanned-added, slice_get-added, interned-new}
use Rattle.lua_heap.proofs.texts.Texts.add.Goals as goal

added : (c : goal.In_default) → AreTexts c.append.new.arena.items c.append.new.spans.items c.enter.new.first.entries c.enter.new.later.items
added c =
    let is_place : c.len-place.result ≡ length c.self.inside.spans.items = search rules in
    AreTexts-added c.self.inside.arena.items c.self.inside.spans.items c.args.text.now c.append.new.arena.items c.append.new.spans.items
    c.in_ok-append.ensures.arena c.in_ok-append.ensures.spans c.self.inside.first.entries c.self.inside.later.items c.enter.new.first.entries c.enter.new.later.items
    c.args.hash c.len-place.result c.self.invariant (λ n e. c.requires.absent n (ap (λ ts. slice_get ts n) (sym c.self.view_is) ∙ e)) c.requires.hash is_place c.in_default.ensures.entered

pub invariant_of-self-in_default : goal.invariant_of-self-in_default
invariant_of-self-in_default c = added c

pub returns-clause-place : goal.returns-clause-place
returns-clause-place c =
    let is_place : c.len-place.result ≡ length c.self.inside.spans.items = search rules in
    slice_get-added c.self.inside.arena.items c.self.inside.spans.items c.args.text.now c.append.new.arena.items c.append.new.spans.items
    c.in_ok-append.ensures.arena c.in_ok-append.ensures.spans c.self.invariant.lie c.len-place.result is_place

pub returns-clause-texts : goal.returns-clause-texts
returns-clause-texts c =
    spanned-added c.self.inside.arena.items c.self.inside.spans.items c.args.text.now c.append.new.arena.items c.append.new.spans.items
    c.in_ok-append.ensures.arena c.in_ok-append.ensures.spans c.self.invariant.lie
    ∙ ap (λ ts. ts ++ c.args.text.now ∷ []) c.self.view_is ∙ sym (interned-new c.args.self.now c.args.text.now c.requires.absent)

pub returns-clause-once : goal.returns-clause-once
returns-clause-once c = (added c).once
