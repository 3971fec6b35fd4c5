use Rattle.std.proofs.Common.{◌≡◌, true, false, ap, sym, ◌∙◌}
use Rattle.lua_meaning.specs.Tables.{are_numbers, are_texts}
use Rattle.lua_lib.specs.Causes.{values_of}
use Rattle.lua_lib.specs.Sorts.{set_in_order}
use Rattle.lua_lib.proofs.Arranged.{sort-kind, sort-numbers}
use Rattle.lua_lib.proofs.call.sorts.sort_values.Goals as goal

pub sort_numbers-requires : goal.sort_numbers-requires
sort_numbers-requires c = λ texts. sym (c.are_numbers.ensures texts) ∙ c.if-are_numbers.true

pub sort_texts-requires : goal.sort_texts-requires
sort_texts-requires c = sym (c.are_texts.ensures c.args.heap.now.texts) ∙ c.if-are_texts.true

pub returns-then-are_numbers-clause-ok : goal.returns-then-are_numbers-clause-ok
returns-then-are_numbers-clause-ok c = λ table.
    let texts = c.args.heap.now.texts in
    sort-numbers table (values_of c.args.heap.now c.args.values.now) (sym (c.are_numbers.ensures texts) ∙ c.if-are_numbers.true)
    ∙ ap (set_in_order table) (sym (c.sort_numbers.ensures.sorted texts))

pub returns-then-are_texts-clause-ok : goal.returns-then-are_texts-clause-ok
returns-then-are_texts-clause-ok c = λ table.
    let texts = c.args.heap.now.texts in
    let vs = values_of c.args.heap.now c.args.values.now in
    let numbers : are_numbers vs ≡ false = sym (c.are_numbers.ensures texts) ∙ c.if-are_numbers.false in
    let strings : are_texts vs ≡ true = sym (c.are_texts.ensures texts) ∙ c.if-are_texts.true in
    sort-kind table vs false true numbers strings ∙ ap (set_in_order table) (sym c.sort_texts.ensures.sorted)

pub returns-else-are_texts-clause-err : goal.returns-else-are_texts-clause-err
returns-else-are_texts-clause-err c = λ table s.
    let texts = c.args.heap.now.texts in
    let vs = values_of c.args.heap.now c.args.values.now in
    let numbers : are_numbers vs ≡ false = sym (c.are_numbers.ensures texts) ∙ c.if-are_numbers.false in
    let strings : are_texts vs ≡ false = sym (c.are_texts.ensures texts) ∙ c.if-are_texts.false in
    ap (λ part. part s) (sort-kind table vs false false numbers strings)
