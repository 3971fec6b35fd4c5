use Rattle.std.proofs.Common.{◌≡◌, ◌+◌, ◌-◌, ℕ, List, [], ◌∷◌, ◌++◌, drop, arith, ap, ◌∙◌}
use Rattle.lua_meaning.specs.Value as meant
use Rattle.lua_meaning.specs.Store.{raw_get, border}
use Rattle.lua_meaning.specs.Tables.{items, set_items}
use Rattle.lua_heap.specs.declared.value.Value.{Value}
use Rattle.lua_heap.specs.declared.value.Value.TheVariants.{Nil}
use Rattle.lua_heap.specs.Heap.{store_of}
use Rattle.lua_heap.proofs.Callers.{value_view-later, IsMade-later}
use Rattle.lua_lib.specs.Causes.{values_of}
use Rattle.lua_lib.proofs.Numbered.{AreMade-last, seen-last, length-last}
use Rattle.lua_lib.proofs.call.tables.take_at.Goals as goal

pub get_raw-value-requires-clause-key : goal.get_raw-value-requires-clause-key
get_raw-value-requires-clause-key c = c.position.ensures.made c.args.heap.now

pub returns-clause-value : goal.returns-clause-value
returns-clause-value c =
    let h = c.args.heap.now in
    value_view-later h c.set_items.new.heap c.set_items.ensures.extends c.get_raw-value.result c.get_raw-value.ensures.made
    ∙ (c.get_raw-value.ensures.value ∙ ap (λ k. raw_get (store_of h) c.args.table k) (c.position.ensures.key h.texts))

pub returns-clause-made : goal.returns-clause-made
returns-clause-made c = IsMade-later c.args.heap.now c.set_items.new.heap c.set_items.ensures.extends c.get_raw-value.result c.get_raw-value.ensures.made

pub set_items-requires-clause-last : goal.set_items-requires-clause-last
set_items-requires-clause-last c =
    let same : c.as_slice.result.now ≡ c.push.new.self.items = cc in
    let size = length-last c.in_ok-moved.moved.items Nil c.push.new.self.items c.in_ok-push.ensures.items in
    let count = c.in_ok-moved.ensures.count in
    rw same (omega arith)

pub set_items-requires-clause-values : goal.set_items-requires-clause-values
set_items-requires-clause-values c =
    let same : c.as_slice.result.now ≡ c.push.new.self.items = cc in
    rw same (AreMade-last c.args.heap.now c.in_ok-moved.moved.items Nil c.push.new.self.items c.in_ok-push.ensures.items c.in_ok-moved.ensures.made tt)

pub returns-clause-store : goal.returns-clause-store
returns-clause-store c =
    let h = c.args.heap.now in
    let s = store_of h in
    let t = c.args.table in
    let n = c.args.place in
    let same : c.as_slice.result.now ≡ c.push.new.self.items = cc in
    let place : (n + 1) - 1 ≡ n = omega arith in
    let moved : values_of h c.as_slice.result.now ≡ drop n (items s t (border s t)) ++ meant.nil ∷ [] =
    ap (λ (vs : List Value). values_of h vs) same
    ∙ (seen-last h.texts c.in_ok-moved.moved.items Nil c.push.new.self.items c.in_ok-push.ensures.items
    ∙ ap (λ (vs : List meant.Value). vs ++ meant.nil ∷ [])
    (c.in_ok-moved.ensures.items ∙ (ap (λ (k : ℕ). drop k (items s t c.args.border)) place ∙ ap (λ (b : ℕ). drop n (items s t b)) c.requires.border))) in
    c.in_ok-set_items.ensures.store ∙ ap (λ (vs : List meant.Value). set_items t n vs s) moved
