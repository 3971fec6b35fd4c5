use Rattle.std.proofs.Common.{ℕ, zero, suc, ◌≡◌, ◌<◌, Bool, false, List, [], ◌∷◌, ◌++◌, IfOk, nat_eq, if◌then◌else◌, take, drop, refl, sym, ap, ◌∙◌, subst, codes, arith}
use Rattle.std.proofs.lemmas.Bool.{ne_eqb}
use Rattle.lua_table.specs.Table.{Places}
use Rattle.lua_meaning.specs.Value.{Value, table}
use Rattle.lua_meaning.specs.Store.{Store, Table, love_place, love_thread_place, love_data_place, love_filesystem_place, love_event_place}
use Rattle.lua_meaning.specs.Run.{entry, table_of, first_tables, first_store}
use Rattle.lua_heap.specs.Heap.{HeapView, store_of}
use Rattle.lua_heap.specs.Library.{with_table}
use Rattle.lua_heap.proofs.heap.Heap.for_state.Goals as goal

abbrev with_events : Store → Store
with_events s = with_table love_place (codes "event") love_event_place s

abbrev events_or : Bool → Places Value Value
events_or b = if b then entry (codes "event") (table love_event_place) ∷ [] else []

abbrev love_with : Places Value Value → Places Value Value
love_with more =
    entry (codes "thread") (table love_thread_place) ∷ entry (codes "data") (table love_data_place)
    ∷ entry (codes "filesystem") (table love_filesystem_place)
    ∷ more

abbrev store_with : Table → Store
store_with love = record { tables = take 4 (first_tables 1) ++ love ∷ drop 5 (first_tables 1); cells = []; contents = [] }

other : (n : ℕ) → 0 < n → first_store 1 ≡ first_store n
other n lt =
    let e : nat_eq n 0 ≡ false = ne_eqb n 0 (λ z. let x : ⊥ = omega (arith, lt, z) in x) in
    ap (λ (b : Bool). store_with (table_of (love_with (events_or b)))) (sym e)

main : (n : ℕ) → n ≡ 0 → with_events (first_store 1) ≡ first_store n
main zero e = refl
main (suc n) e = absurd (let x : ⊥ = omega (arith, e) in x)

pub returns-then-state-ne0-clause-store : goal.returns-then-state-ne0-clause-store
returns-then-state-ne0-clause-store c =
    let t = c.if-state-ne0.true in
    subst (λ (s : Store). IfOk c.new.result (λ (heap : HeapView). store_of heap ≡ s)) (other c.args.state (omega (arith, t))) c.new.ensures.store

pub returns-clause-store : goal.returns-clause-store
returns-clause-store c =
    let t = c.if-state-ne0.false in
    c.in_ok-add_events.ensures.store
    ∙ ap with_events c.in_ok-heap.ensures.store
    ∙ main c.args.state (omega (arith, t))
