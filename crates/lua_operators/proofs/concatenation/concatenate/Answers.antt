use Rattle.std.proofs.Common.{◌≡◌, ◌≤◌, [], length, true, false, sym, ap, ◌∙◌, rules, arith}
use Rattle.lua_meaning.specs.Value.{str}
use Rattle.lua_heap.specs.Heap.{store_of}
use Rattle.lua_code.specs.Doing.{gives}
use Rattle.lua_operators.specs.Doing.{seen}
use Rattle.lua_operators.proofs.Names.{named}
use Rattle.lua_operators.proofs.Joined.{second_bad, joined}
use Rattle.lua_operators.proofs.concatenation.concatenate.Goals as goal

pub returns-then-not-is_right_text-clause-doing : goal.returns-then-not-is_right_text-clause-doing
returns-then-not-is_right_text-clause-doing c =
    let left : c.in_ok-is_left_text.is_left_text ≡ true = cc in
    let right : c.in_ok-is_right_text.is_right_text ≡ false = cc in
    c.concatenate_by_handler-then-not-is_right_text.ensures.doing
    ∙ sym (second_bad (store_of c.args.heap.now) (seen c.args.heap.now c.args.a.now) (seen c.args.heap.now c.args.b.now) _ _ _ _ _ _ _ c.in_ok-is_left_text.ensures left c.in_ok-is_right_text.ensures right)

pub returns-clause-doing : goal.returns-clause-doing
returns-clause-doing c =
    let left : c.in_ok-is_left_text.is_left_text ≡ true = cc in
    let right : c.in_ok-is_right_text.is_right_text ≡ true = cc in
    let empty : c.clear.new.self.items ≡ [] = search rules in
    let size : length c.put_text-2.new.buffer.items ≤ 16777216 = omega arith in
    let text : c.as_slice.result.now ≡ c.put_text-2.new.buffer.items = search rules in
    ap (λ t. gives (str t)) (named c.intern.new.self.texts c.in_ok-id.id _ c.in_ok-id.ensures.id ∙ text)
    ∙ sym (joined (store_of c.args.heap.now) (seen c.args.heap.now c.args.a.now) (seen c.args.heap.now c.args.b.now) _ _ _ _ _ _ _ empty c.in_ok-is_left_text.ensures left c.in_ok-is_right_text.ensures right size)
