use Rattle.std.proofs.Common.{◌≡◌, true, false, List, map, ap, sym, ◌∙◌}
use Rattle.lua_meaning.specs.Value.{is_true}
use Rattle.lua_meaning.specs.Fault.{raises}
use Rattle.lua_meaning.specs.Arguments.{answers, faults, argument}
use Rattle.lua_meaning.specs.Basic.{assert_message}
use Rattle.lua_heap.specs.declared.value.Value.{Value}
use Rattle.lua_heap.specs.Value.{value_view}
use Rattle.lua_lib.specs.Causes.{values_of}
use Rattle.lua_lib.proofs.Tuples.{assert-true, assert-false, message-is}
use Rattle.lua_lib.proofs.call.tuples.assert.Goals as goal

pub returns-then-is_true-clause-given : goal.returns-then-is_true-clause-given
returns-then-is_true-clause-given c = λ s.
    let texts = c.args.heap.now.texts in
    let vs = values_of c.args.heap.now c.args.args.now in
    let is : is_true (argument 0 vs) ≡ true = sym (c.is_true.ensures texts ∙ ap is_true (c.argument.ensures.value texts)) ∙ c.if-is_true.true in
    assert-true vs s is ∙ ap (λ (ws : List Value). answers (map (value_view texts) ws) s) (sym c.in_ok-made.ensures)

pub returns-in-Nil-clause-given : goal.returns-in-Nil-clause-given
returns-in-Nil-clause-given c = λ s.
    let texts = c.args.heap.now.texts in
    let vs = values_of c.args.heap.now c.args.args.now in
    let is : is_true (argument 0 vs) ≡ false = sym (c.is_true.ensures texts ∙ ap is_true (c.argument.ensures.value texts)) ∙ c.if-is_true.false in
    assert-false vs s is ∙ ap (λ v. faults (raises (assert_message v))) (sym (c.in-Nil.ensures.value texts))

pub returns-in_default : goal.returns-in_default
returns-in_default c =
    let texts = c.args.heap.now.texts in
    let vs = values_of c.args.heap.now c.args.args.now in
    let is : is_true (argument 0 vs) ≡ false = sym (c.is_true.ensures texts ∙ ap is_true (c.argument.ensures.value texts)) ∙ c.if-is_true.false in
    record {
      given = λ s.
          assert-false vs s is
          ∙ (ap (λ v. faults (raises (assert_message v))) (sym (c.argument-2.ensures.value texts))
          ∙ ap (λ v. faults (raises v)) (message-is texts c.argument-2.result c.in_default.not-Nil));
      made = tt;
    }
