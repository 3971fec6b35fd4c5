use Rattle.std.proofs.Common.{arith, ℕ, ◌-◌, ◌∙◌, refl, sym, ap, subst, set, Some}
use Rattle.love_base.specs.declared.stamp.Stamp.{Stamp}
use Rattle.variant.specs.declared.action.Action.{Action}
use Rattle.variant.specs.Log.{UsesRoom}
use Rattle.lua_state.proofs.Acting.{cut_kept, holder_held, later_held, read_history, there_held}
use Rattle.lua_state.proofs.objects.Objects.leave_last.Goals as goal

pub index_mut-requires : goal.index_mut-requires
index_mut-requires c =
    let low = c.get.ensures.range.0 in
    let high = c.get.ensures.range.1 in
    let is = c.get.ensures.number in
    let there = there_held c.args.self.now c.requires.kept c.pop.new.self.items c.in-Some.channel (omega arith, omega arith) c.in-Some.ensures.items in
    omega arith

pub index_mut-requires-2 : goal.index_mut-requires-2
index_mut-requires-2 c =
    let low = c.get.ensures.range.0 in
    let high = c.get.ensures.range.1 in
    let is = c.get.ensures.number in
    let same = c.requires.kept.stand.same in
    let there = there_held c.args.self.now c.requires.kept c.pop.new.self.items c.in-Some.channel (omega arith, omega arith) c.in-Some.ensures.items in
    omega arith

pub leave-place-requires-clause-inside : goal.leave-place-requires-clause-inside
leave-place-requires-clause-inside c =
    let low = c.get.ensures.range.0 in
    let high = c.get.ensures.range.1 in
    let is = c.get.ensures.number in
    let there = there_held c.args.self.now c.requires.kept c.pop.new.self.items c.in-Some.channel (omega arith, omega arith) c.in-Some.ensures.items in
    holder_held c.args.self.now c.requires.kept c.pop.new.self.items c.in-Some.channel (omega arith, omega arith) c.in-Some.ensures.items c.index_mut.result.now
    (read_history c.args.self.now c.requires.kept c.in-Some.channel (c.get.result - 1) c.index_mut.result.now (omega arith, omega arith) (omega arith) (omega arith) c.index_mut.ensures.value)
    ∙ ap (λ (b : Stamp). Some b.state) (sym c.stamp-by.ensures)

pub leave-place-requires-clause-later : goal.leave-place-requires-clause-later
leave-place-requires-clause-later c =
    let low = c.get.ensures.range.0 in
    let high = c.get.ensures.range.1 in
    let is = c.get.ensures.number in
    let there = there_held c.args.self.now c.requires.kept c.pop.new.self.items c.in-Some.channel (omega arith, omega arith) c.in-Some.ensures.items in
    later_held c.args.self.now c.requires.kept c.pop.new.self.items c.in-Some.channel (omega arith, omega arith) c.in-Some.ensures.items c.index_mut.result.now c.stamp-by.result
    (read_history c.args.self.now c.requires.kept c.in-Some.channel (c.get.result - 1) c.index_mut.result.now (omega arith, omega arith) (omega arith) (omega arith) c.index_mut.ensures.value)
    c.stamp-by.ensures

pub returns-clause-kept : goal.returns-clause-kept
returns-clause-kept c =
    let low = c.get.ensures.range.0 in
    let high = c.get.ensures.range.1 in
    let is = c.get.ensures.number in
    let there = there_held c.args.self.now c.requires.kept c.pop.new.self.items c.in-Some.channel (omega arith, omega arith) c.in-Some.ensures.items in
    cut_kept c.args.self.now _ c.requires.kept c.pop.new.self.items c.in-Some.channel (omega arith, omega arith) there c.in-Some.ensures.items
    c.index_mut.result.now c.leave-place.new.self c.stamp-by.result
    (read_history c.args.self.now c.requires.kept c.in-Some.channel (c.get.result - 1) c.index_mut.result.now (omega arith, omega arith) (omega arith) (omega arith) c.index_mut.ensures.value)
    c.stamp-by.ensures c.leave-place.ensures.entry c.leave-place.ensures.cut c.cut.result c.leave-place.result c.leave-place.ensures.place c.cut.ensures c.put.ensures.actions
    (subst (λ (b : Action). UsesRoom b.deed c.args.self.now.trace.spare c.put.new.self.spare) c.cut.ensures c.put.ensures.room)
    refl
    (ap (λ (k : ℕ). set c.args.self.now.channels.items (k - 1) c.leave-place.new.self) c.get.ensures.number)
    (ap (λ (k : ℕ). set c.args.self.now.depths.items (k - 1) 0) c.get.ensures.number)
    refl refl
