use Rattle.std.proofs.Common.{arith, ℕ, ◌-◌, ◌∙◌, refl, ap, subst, List, length, set, true}
use Rattle.std.proofs.lemmas.List.{get_or-set_same}
use Rattle.lua_state.specs.Answered.{IsLastLeft}
use Rattle.lua_state.specs.Kept.{HeldBy}
use Rattle.lua_state.proofs.Acting.{acted_at, placed_here, read_history}
use Rattle.lua_state.proofs.objects.Objects.ask_channel.Goals as goal

pub at_channel-requires-clause-placed : goal.at_channel-requires-clause-placed
at_channel-requires-clause-placed c =
    let low = c.get.ensures.range.0 in
    let high = c.get.ensures.range.1 in
    let is = c.get.ensures.number in
    let len = c.len.ensures in
    let within = c.if-at-len.false in
    placed_here c.args.self.now c.requires.kept c.args.channel (omega arith, omega arith) c.index_mut.result.now c.stamp-by.result c.depth_on-depth.result
    (read_history c.args.self.now c.requires.kept c.args.channel (c.get.result - 1) c.index_mut.result.now (omega arith, omega arith) (omega arith) (omega arith) c.index_mut.ensures.value)
    c.depth_on-depth.ensures.depth c.stamp-by.ensures

pub returns-clause-acts : goal.returns-clause-acts
returns-clause-acts c =
    let low = c.get.ensures.range.0 in
    let high = c.get.ensures.range.1 in
    let is = c.get.ensures.number in
    let len = c.len.ensures in
    let within = c.if-at-len.false in
    acted_at c.args.self.now _ c.requires.kept c.args.ask.now _ c.args.channel c.requires.ask.0 c.requires.ask.1 (omega arith, omega arith) (omega arith)
    c.index_mut.result.now c.at_channel.new.channel c.stamp-by.result c.depth_on-depth.result c.in_ok-answer.field-0
    (read_history c.args.self.now c.requires.kept c.args.channel (c.get.result - 1) c.index_mut.result.now (omega arith, omega arith) (omega arith) (omega arith) c.index_mut.ensures.value)
    c.depth_on-depth.ensures.depth c.stamp-by.ensures c.in_ok-answer.ensures c.in-Some.is c.get-2.ensures.number
    (c.length_of-place.ensures ∙ ap length (c.index.ensures ∙ get_or-set_same c.args.self.now.channels.items (c.get.result - 1) c.at_channel.new.channel c.index.result.now (omega arith)))
    refl
    (ap (λ (k : ℕ). set c.args.self.now.channels.items (k - 1) c.at_channel.new.channel) c.get.ensures.number)
    (ap (λ (k : ℕ). set c.args.self.now.depths.items (k - 1) c.depth_by.result) c.get.ensures.number ∙ ap (λ (d : ℕ). set c.args.self.now.depths.items (c.args.channel - 1) d) c.depth_by.ensures)
    (subst (λ (l : List ℕ). HeldBy c.args.ask.now c.in-Some.answer.changed c.args.channel l c.follow.new.held.items) c.in_ok-reserve.ensures.items c.follow.ensures.follows)
    (subst (λ (l : List ℕ). IsLastLeft l c.args.channel c.depth_on-depth.result c.args.ask.now true) c.in_ok-reserve.ensures.items c.if-not-may_leave.ensures)
    refl
