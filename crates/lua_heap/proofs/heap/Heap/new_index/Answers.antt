use Rattle.std.proofs.Common.{◌≡◌, suc, ◌-◌, sym, ap, ◌∙◌, arith}
use Rattle.lua_meaning.specs.Handlers.{setting_within}
use Rattle.lua_heap.specs.Value.{value_view}
use Rattle.lua_heap.specs.Heap.{store_of}
use Rattle.lua_heap.proofs.IndexLemmas.{setting-start, setting-next}
use Rattle.lua_heap.proofs.heap.Heap.new_index.Goals as goal

pub loop-left-init : goal.loop-left-init
loop-left-init c = record { same = setting-start (store_of c.args.self.now) (value_view c.args.self.now.texts c.args.base) (value_view c.args.self.now.texts c.args.key); made = c.requires.base }

pub loop-left-preserved : goal.loop-left-preserved
loop-left-preserved c =
    let left : c.loop-left.left ≡ suc (c.loop-left.left - 1) = omega arith in
    record {
      same =
          c.loop-left.invariant.same ∙ setting-next (store_of c.args.self.now) (value_view c.args.self.now.texts c.args.key) (value_view c.args.self.now.texts c.loop-left.at) _ _ left
          ∙ sym (c.in-Goes.ensures.step (λ h. setting_within (c.loop-left.left - 1) (store_of c.args.self.now) (value_view c.args.self.now.texts c.args.key) h));
      made = c.in-Goes.ensures.made;
    }

pub returns-in-Ends-clause-setting : goal.returns-in-Ends-clause-setting
returns-in-Ends-clause-setting c =
    let left : c.loop-left.left ≡ suc (c.loop-left.left - 1) = omega arith in
    c.in-Ends.ensures.step (λ h. setting_within (c.loop-left.left - 1) (store_of c.args.self.now) (value_view c.args.self.now.texts c.args.key) h)
    ∙ sym (c.loop-left.invariant.same ∙ setting-next (store_of c.args.self.now) (value_view c.args.self.now.texts c.args.key) (value_view c.args.self.now.texts c.loop-left.at) _ _ left)

pub returns-clause-setting : goal.returns-clause-setting
returns-clause-setting c =
    let none : c.loop-left.left ≡ 0 = omega arith in
    sym (c.loop-left.invariant.same ∙ ap (λ n. setting_within n (store_of c.args.self.now) (value_view c.args.self.now.texts c.args.key) (value_view c.args.self.now.texts c.loop-left.at)) none)
