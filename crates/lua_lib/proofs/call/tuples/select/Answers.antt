use Rattle.std.proofs.Common.{◌≡◌, true, false, List, pos, length, ap, sym, subst, ◌∙◌}
use Rattle.lua_meaning.specs.Value as meant
use Rattle.lua_meaning.specs.Arguments.{Lib, argument, answer_one}
use Rattle.lua_meaning.specs.Basic.{is_count_mark}
use Rattle.lua_lib.specs.Causes.{values_of, Comes}
use Rattle.lua_lib.specs.Selected.{selected_by}
use Rattle.lua_lib.proofs.Tuples.{select-count, select-values}
use Rattle.lua_lib.proofs.call.tuples.select.Goals as goal

pub is_count_mark-requires : goal.is_count_mark-requires
is_count_mark-requires c = c.argument.ensures.made c.args.heap.now c.requires

pub selected-requires-clause-values : goal.selected-requires-clause-values
selected-requires-clause-values c = c.behind_first-rest.ensures.made c.args.heap.now c.requires

pub returns-then-is_count_mark-clause-given : goal.returns-then-is_count_mark-clause-given
returns-then-is_count_mark-clause-given c =
    let h = c.args.heap.now in
    let vs = values_of h c.args.args.now in
    let mark : is_count_mark (argument 0 vs) ≡ true = sym (c.is_count_mark.ensures ∙ ap is_count_mark (c.argument.ensures.value h.texts)) ∙ c.if-is_count_mark.true in
    let P : Lib (List meant.Value) → Type 0 = λ part. Comes (λ made. values_of h made.items) h part c.count.result in
    let Q : List meant.Value → Type 0 = λ ws. P (answer_one (meant.num (pos (length ws)))) in
    subst P (sym (select-count vs mark)) (subst Q (c.behind_first-rest.ensures.values h.texts) (c.count.ensures.count h))

pub returns-clause-given : goal.returns-clause-given
returns-clause-given c =
    let h = c.args.heap.now in
    let vs = values_of h c.args.args.now in
    let mark : is_count_mark (argument 0 vs) ≡ false = sym (c.is_count_mark.ensures ∙ ap is_count_mark (c.argument.ensures.value h.texts)) ∙ c.if-is_count_mark.false in
    let P : Lib (List meant.Value) → Type 0 = λ part. Comes (λ made. values_of h made.items) h part c.selected.result in
    let Q : List meant.Value → Type 0 = λ ws. P (selected_by vs ws) in
    subst P (sym (select-values vs mark)) (subst Q (c.behind_first-rest.ensures.values h.texts) c.selected.ensures.given)
