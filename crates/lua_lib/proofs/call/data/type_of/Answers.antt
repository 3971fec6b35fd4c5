use Rattle.std.proofs.Common.{List, [], ◌∷◌, Bool, ap, sym, ◌∙◌}
use Rattle.std.proofs.lemmas.Result.{err_from_is_err_and}
use Rattle.lua_meaning.specs.Value.{Value, flag}
use Rattle.lua_meaning.specs.Arguments.{Lib, answers, answer_one, argument, text_argument, ◌>>=◌}
use Rattle.lua_tree.specs.Tree.{Bytes}
use Rattle.lua_meaning.specs.Data as meaning
use Rattle.lua_heap.specs.Heap.{store_of}
use Rattle.lua_lib.specs.Causes.{values_of}
use Rattle.lua_lib.proofs.Binding.{raises-first}
use Rattle.lua_lib.proofs.Running.{refuses-raised, refuses-first, refuses-then, then-at}
use Rattle.lua_lib.proofs.call.data.type_of.Goals as goal

-- what follows when the type is read, and when the name is
abbrev behind_name : List Value → Bytes → Bytes → Lib (List Value)
behind_name vs own name = answer_one (flag (meaning.has_type (argument 0 vs) own name))

abbrev behind_own : List Value → Bytes → Lib (List Value)
behind_own vs own = text_argument 1 vs >>= λ name. behind_name vs own name

pub returns-in_err-own : goal.returns-in_err-own
returns-in_err-own c =
    let p = err_from_is_err_and c.from_residual.result c.from_residual.ensures.1 in
    let h = c.args.heap.now in
    let vs = values_of h c.args.args.now in
    rw (p.1, p.2) (refuses-first (meaning.type_argument vs) (λ own. behind_own vs own) h h _ c.in_err-own.ensures)

pub returns-in_err-name : goal.returns-in_err-name
returns-in_err-name c =
    let h = c.args.heap.now in
    let p = err_from_is_err_and c.from_residual-in_err-name.result c.from_residual-in_err-name.ensures.1 in
    let vs = values_of h c.args.args.now in
    let own = c.in_ok-own.own.now in
    rw (p.1, p.2) (refuses-then (meaning.type_argument vs) (λ own. behind_own vs own) h h own _ c.in_ok-own.ensures
    (refuses-raised h (behind_own vs own) _ (raises-first (text_argument 1 vs) (λ name. behind_name vs own name) _ c.in_err-name.ensures)))

pub returns : goal.returns
returns c =
    let h = c.args.heap.now in
    let s = store_of h in
    let v = argument 0 (values_of h c.args.args.now) in
    let own = c.in_ok-own.own.now in
    let name = c.in_ok-name.name.now in
    then-at _ _ s _ _ c.in_ok-own.ensures (then-at _ _ s _ _ (c.in_ok-name.ensures s)
    (ap (λ (b : Bool). answers (flag b ∷ []) s) (sym (c.has_type.ensures v (c.is_data.ensures h.texts ∙ ap meaning.is_data (c.argument-value.ensures.value h.texts))))))
