use Rattle.std.proofs.Common.{◌≡◌, ◌∙◌, ℕ, List, [], sym, ap, subst, arith}
use Rattle.variant.specs.declared.message.Variant.{Variant}
use Rattle.lua_tree.specs.Tree.{Block}
use Rattle.lua_meaning.specs.Run.{Start}
use Rattle.lua_machine.specs.Machine.{IsIn, IsStart}
use Rattle.lua_state.specs.Solo.{held_after}
use Rattle.lua_state.specs.Cuts.{AreAsked, LeavesAll, asked_in}
use Rattle.lua_state.specs.Runs.{HoldsAt}
use Rattle.lua_state.proofs.Closing.{asked_as, cuts_follow}
use Rattle.lua_state.proofs.Keeping.{held_short}
use Rattle.lua_state.proofs.Turns.{ran_as, ran_left}
use Rattle.lua_state.proofs.alone.run.Goals as goal

pub leave_all-requires-clause-few : goal.leave_all-requires-clause-few
leave_all-requires-clause-few c =
    let short = held_short c.play-finish.new.objects c.play-finish.ensures.kept in
    let few = c.play-finish.ensures.few in
    let steps = c.requires.steps in
    omega arith

pub left-requires-clause-cuts : goal.left-requires-clause-cuts
left-requires-clause-cuts c =
    let from = c.requires.starts in
    let is : IsStart c.args.program.now c.args.code.now c.new-args.result c.args.steps 0 from.start from.block = subst (λ (l : List Variant). IsStart c.args.program.now c.args.code.now l c.args.steps 0 from.start from.block) (sym c.new-args.ensures) from.is in
    let played = c.play-finish.ensures.played from.start from.block from.ticks (c.in_ok-machine.ensures.begins from.start from.block is) in
    let actions = c.play-finish.new.objects.trace.actions in
    cuts_follow actions c.leave_all.new.self.trace.actions played.all (subst (LeavesAll actions c.leave_all.new.self.trace.actions) c.play-finish.ensures.kept.stand.held c.leave_all.ensures.left)

pub left-requires-clause-holds : goal.left-requires-clause-holds
left-requires-clause-holds c =
    let from = c.requires.starts in
    let is : IsStart c.args.program.now c.args.code.now c.new-args.result c.args.steps 0 from.start from.block = subst (λ (l : List Variant). IsStart c.args.program.now c.args.code.now l c.args.steps 0 from.start from.block) (sym c.new-args.ensures) from.is in
    let played = c.play-finish.ensures.played from.start from.block from.ticks (c.in_ok-machine.ensures.begins from.start from.block is) in
    let actions = c.play-finish.new.objects.trace.actions in
    let held = c.play-finish.ensures.kept.stand.held in
    let same = asked_as actions c.leave_all.new.self.trace.actions (held_after actions) played.all (subst (LeavesAll actions c.leave_all.new.self.trace.actions) held c.leave_all.ensures.left) in
    subst (HoldsAt c.settle-end.result.0) (held ∙ sym (ap held_after same)) c.settle-end.ensures.holds

pub returns-clause-ran : goal.returns-clause-ran
returns-clause-ran c = λ start b ticks code is.
    let actions = c.play-finish.new.objects.trace.actions in
    let after = c.leave_all.new.self.trace.actions in
    let given : IsStart c.args.program.now c.args.code.now c.new-args.result c.args.steps 0 start b = subst (λ (l : List Variant). IsStart c.args.program.now c.args.code.now l c.args.steps 0 start b) (sym c.new-args.ensures) is in
    let played = c.play-finish.ensures.played start b ticks (c.in_ok-machine.ensures.begins start b given) in
    let left = subst (LeavesAll actions after) c.play-finish.ensures.kept.stand.held c.leave_all.ensures.left in
    ran_as start after c.left.result.ran.trace.actions c.play-finish.new.machine.output c.left.result.ran.out c.settle-end.result.0 c.left.result.ran.end c.settle-end.result.1 c.left.result.waiting
    c.left.ensures.trace (c.left.ensures.out ∙ c.abandon.ensures) c.left.ensures.end c.left.ensures.waiting
    (ran_left start b actions after c.play-finish.new.machine c.play-finish.result c.settle-end.result.0 c.settle-end.result.1 code played c.settle-end.ensures.ends left)
