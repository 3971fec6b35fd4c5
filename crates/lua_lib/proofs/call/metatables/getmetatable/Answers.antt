use Rattle.std.proofs.Common.{[], ◌∷◌, ap, sym, ◌∙◌}
use Rattle.lua_meaning.specs.Arguments.{answers}
use Rattle.lua_heap.specs.Value.{value_view}
use Rattle.lua_heap.specs.Heap.{store_of}
use Rattle.lua_heap.proofs.Callers.{IsMade-later}
use Rattle.lua_lib.proofs.Metatables.{got, got-meta, got-field}
use Rattle.lua_lib.proofs.call.metatables.getmetatable.Goals as goal

pub metatable-requires : goal.metatable-requires
metatable-requires c = record { made = c.argument.ensures.made c.args.heap.now c.requires }

pub protection-requires : goal.protection-requires
protection-requires c = c.argument.ensures.made c.args.heap.now c.requires

pub returns-in-Nil-clause-runs : goal.returns-in-Nil-clause-runs
returns-in-Nil-clause-runs c =
    let h = c.args.heap.now in
    let k = c.protection.new.heap in
    let s = store_of h in
    let meta = c.table_or_nil.result in
    ap (λ v. answers (got s v ∷ []) s) (sym (c.argument.ensures.value h.texts))
    ∙ (ap (λ w. answers (w ∷ []) s) (got-meta k.texts s (value_view h.texts c.argument.result) c.in_ok-field.field meta c.metatable.result
    c.in_ok-field.ensures.field c.metatable.ensures.meta (c.table_or_nil.ensures.is k.texts) c.in-Nil.is)
    ∙ ap (answers (value_view k.texts meta ∷ [])) (sym c.protection.ensures.store))

pub returns-in-Nil-clause-made : goal.returns-in-Nil-clause-made
returns-in-Nil-clause-made c =
    let h = c.args.heap.now in
    IsMade-later h c.protection.new.heap c.protection.ensures.extends c.table_or_nil.result (c.table_or_nil.ensures.made h c.metatable.ensures.made)

pub returns-in_default-clause-runs : goal.returns-in_default-clause-runs
returns-in_default-clause-runs c =
    let h = c.args.heap.now in
    let k = c.protection.new.heap in
    let s = store_of h in
    let field = c.in_ok-field.field in
    ap (λ v. answers (got s v ∷ []) s) (sym (c.argument.ensures.value h.texts))
    ∙ (ap (λ w. answers (w ∷ []) s) (got-field k.texts s (value_view h.texts c.argument.result) field c.table_or_nil.result c.metatable.result
    c.in_ok-field.ensures.field c.in_default.not-Nil)
    ∙ ap (answers (value_view k.texts field ∷ [])) (sym c.protection.ensures.store))
