use Rattle.std.proofs.Common.{ℕ, sym, ap, ◌∙◌}
use Rattle.std.specs.Prelude.{codes, if◌then◌else◌, ⊤}
use Rattle.lua_meaning.specs.Value as meant
use Rattle.lua_meaning.specs.Fault.{wants}
use Rattle.lua_meaning.specs.Handlers.{is_function}
use Rattle.lua_meaning.specs.Arguments.{Lib, answer, fault}
use Rattle.lua_heap.specs.Value.{value_view}
use Rattle.lua_lib.proofs.call.arguments.function_argument.Goals as goal

-- what a value comes to that is to be a function
abbrev tested : ℕ → meant.Value → Lib ⊤
tested n v = if is_function v then answer tt else fault (wants n (codes "function") v)

pub returns-in-Func-clause-taken : goal.returns-in-Func-clause-taken
returns-in-Func-clause-taken c = λ s.
    let texts = c.args.heap.now.texts in
    ap (λ (v : meant.Value). tested c.args.n v s) (sym (c.argument-value.ensures.value texts) ∙ ap (value_view texts) c.in-Func.is)

pub returns-in-Func-clause-made : goal.returns-in-Func-clause-made
returns-in-Func-clause-made c = c.argument-value.ensures.made c.args.heap.now c.requires

pub returns-in-Native-clause-taken : goal.returns-in-Native-clause-taken
returns-in-Native-clause-taken c = λ s.
    let texts = c.args.heap.now.texts in
    ap (λ (v : meant.Value). tested c.args.n v s) (sym (c.argument-value.ensures.value texts) ∙ ap (value_view texts) c.in-Native.is)

pub returns-in-Native-clause-made : goal.returns-in-Native-clause-made
returns-in-Native-clause-made c = c.argument-value.ensures.made c.args.heap.now c.requires
