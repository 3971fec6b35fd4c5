-- What a heap keeps when it makes or changes something, and what its store is then.
use Rattle.std.proofs.Common.{◌≡◌, ℕ, zero, suc, ◌+◌, ◌<◌, ◌≤◌, List, [], ◌∷◌, ◌++◌, length, map, set, get_or, Bool, true, false, cond, is_some, Option, None, Some, refl, sym, ap, subst, ◌∙◌, slice_get, append_assoc, arith, IfSome}
use Rattle.std.specs.Prelude.{unwrap_or, nat_le, pos}
use Rattle.std.specs.Option.{option_map, option_and_then}
use Rattle.lua_heap.specs.Position.{value_at}
use Rattle.lua_meaning.specs.Value as meant
use Rattle.std.specs.List.{AllByRecursion}
use Rattle.std.proofs.lemmas.Option.{none-some, same_Some, slice_get-map, slice_get_read}
use Rattle.std.proofs.lemmas.List.{length-append, length-set, map-set, append-nil, set-get_or, length-map}
use Rattle.love_base.specs.Data.{Contents}
use Rattle.love_base.specs.Prefix.{IsPrefix}
use Rattle.std.specs.Bool.{Decides}
use Rattle.lua_table.specs.Table.{Places, get, has_place, clear_key, set as set_key, value_at as at_position_value, run_length, border as least_border}
use Rattle.lua_tree.specs.Tree.{Bytes}
use Rattle.lua_meaning.specs.Store.{Store, Table, table_at, raw_get, raw_set, with_value, position, border, set_table, set_cell, set_meta, no_table}
use Rattle.lua_heap.specs.declared.entries.Function.{Function}
use Rattle.lua_heap.specs.declared.entries.TableEntry.{TableEntry}
use Rattle.lua_heap.specs.declared.value.Value.{Value}
use Rattle.lua_heap.specs.declared.value.Value.TheVariants.{Nil, Bool as Flag, Num, Str, Table as TableValue, Func, Native, Channel, Thread, Data}
use Rattle.lua_heap.specs.Texts.{AreOnce}
use Rattle.lua_heap.specs.Alike.{value_eq, alike, alike_same}
use Rattle.lua_heap.specs.Raw.{is_nil, with_raw}
use Rattle.lua_heap.specs.Value.{value_view, place_view, places_view, Counts, IsCounted, AreCounted}
use Rattle.lua_heap.specs.Heap.{HeapView, table_view, store_of, Becomes, counts, IsMade, IsMadeTable, AreMadeCells, IsMadeEntry, IsHeap, Extends}
use Rattle.lua_heap.proofs.Positions.{slice_get-append_left}
use Rattle.lua_heap.proofs.ValueLemmas.{Fewer, IsCounted-more, AreCounted-more, value_view-longer, places_view-longer, values_view-longer, eq-view, get-view, get-counted, has_place-view, set-view, clear_key-view, set-counted, clear_key-counted}

-- ---- what holds of all items

module _ {X : Type 0} where
  pub all-last : (P : X → Type 0) (xs : List X) (x : X) → AllByRecursion P xs → P x → AllByRecursion P (xs ++ x ∷ [])
  all-last P [] x all own = (own, tt)
  all-last P (y ∷ xs) x all own = (all.0, all-last P xs x all.1 own)

  pub all-set : (P : X → Type 0) (xs : List X) (i : ℕ) (x : X) → AllByRecursion P xs → P x → AllByRecursion P (set xs i x)
  all-set P [] i x all own = tt
  all-set P (y ∷ xs) zero x all own = (own, all.1)
  all-set P (y ∷ xs) (suc i) x all own = (all.0, all-set P xs i x all.1 own)

  pub all-at : (P : X → Type 0) (xs : List X) (i : ℕ) (x : X) → AllByRecursion P xs → slice_get xs i ≡ Some x → P x
  all-at P [] i x all there = absurd (none-some x there)
  all-at P (y ∷ xs) zero x all there = let same = same_Some y x there in subst P same all.0
  all-at P (y ∷ xs) (suc i) x all there = all-at P xs i x all.1 there

  pub all-weaker : (P Q : X → Type 0) (xs : List X) → ((x : X) → P x → Q x) → AllByRecursion P xs → AllByRecursion Q xs
  all-weaker P Q [] weaker all = tt
  all-weaker P Q (y ∷ xs) weaker all = (weaker y all.0, all-weaker P Q xs weaker all.1)

-- ---- with more counted

IsMadeEntry-more : {c d : Counts} → Fewer c d → (entry : TableEntry) → IsMadeEntry c entry → IsMadeEntry d entry
IsMadeEntry-more {c} {d} fewer entry made = (AreCounted-more fewer entry.table made.0, some entry.meta made.1)
  where
    some : (meta : Option ℕ) → IfSome meta (λ id. id < c.tables) → IfSome meta (λ id. id < d.tables)
    some None p = tt
    some (Some id) p = let more = fewer.tables in omega arith

-- a heap that has made more of anything but what it newly says of its strings, tables, cells and functions
module _ (h : HeapView) (is : IsHeap h) where
  pub IsHeap-with-cells : (cells : List Value) → length h.cells ≤ length cells → AllByRecursion (IsCounted (counts h)) cells
      → IsHeap (record { texts = h.texts; tables = h.tables; cells = cells; functions = h.functions; contents = h.contents })
  IsHeap-with-cells cells more all =
      record {
        once = is.once;
        index_name = is.index_name;
        newindex_name = is.newindex_name;
        tables = is.tables;
        cells = all;
        functions = all-weaker _ _ h.functions (λ f made. all-weaker _ _ f.cells (λ id within. omega arith) made) is.functions;
        first_tables = is.first_tables;
      }

  pub IsHeap-with-cell : (cells : List Value) (v : Value) → cells ≡ h.cells ++ v ∷ [] → IsMade h v
      → IsHeap (record { texts = h.texts; tables = h.tables; cells = cells; functions = h.functions; contents = h.contents })
  IsHeap-with-cell cells v grown made =
      let P : List Value → Type 0 = λ vs. AllByRecursion (IsCounted (counts h)) vs in
      let size : length cells ≡ length h.cells + 1 = ap length grown ∙ length-append h.cells (v ∷ []) in
      IsHeap-with-cells cells (omega arith) (subst P (sym grown) (all-last _ h.cells v is.cells made))

  pub IsHeap-set_cell : (i : ℕ) (v : Value) → IsMade h v
      → IsHeap (record { texts = h.texts; tables = h.tables; cells = set h.cells i v; functions = h.functions; contents = h.contents })
  IsHeap-set_cell i v made =
      let size : length (set h.cells i v) ≡ length h.cells = length-set h.cells i v in
      IsHeap-with-cells (set h.cells i v) (omega arith) (all-set _ h.cells i v is.cells made)

  pub IsHeap-with-table : (tables : List TableEntry) → tables ≡ h.tables ++ record { table = []; meta = None } ∷ []
      → IsHeap (record { texts = h.texts; tables = tables; cells = h.cells; functions = h.functions; contents = h.contents })
  IsHeap-with-table tables grown =
      let size : length tables ≡ length h.tables + 1 = ap length grown ∙ length-append h.tables (record { table = []; meta = None } ∷ []) in
      let low = is.first_tables in
      let c : Counts = record { texts = length h.texts; tables = length tables; functions = length h.functions; contents = length h.contents } in
      let fewer : Fewer (counts h) c = record { texts = omega arith; tables = omega arith; functions = omega arith; contents = omega arith } in
      let P : List TableEntry → Type 0 = λ es. AllByRecursion (IsMadeEntry c) es in
      record {
        once = is.once;
        index_name = is.index_name;
        newindex_name = is.newindex_name;
        tables = subst P (sym grown) (all-last _ h.tables (record { table = []; meta = None }) (all-weaker _ _ h.tables (λ e made. IsMadeEntry-more fewer e made) is.tables) (tt, tt));
        cells = all-weaker _ _ h.cells (λ v made. IsCounted-more fewer v made) is.cells;
        functions = is.functions;
        first_tables = omega arith;
      }

  pub IsHeap-set_entry : (i : ℕ) (entry : TableEntry) → IsMadeEntry (counts h) entry
      → IsHeap (record { texts = h.texts; tables = set h.tables i entry; cells = h.cells; functions = h.functions; contents = h.contents })
  IsHeap-set_entry i entry made =
      let size : length (set h.tables i entry) ≡ length h.tables = length-set h.tables i entry in
      let low = is.first_tables in
      let c : Counts = record { texts = length h.texts; tables = length (set h.tables i entry); functions = length h.functions; contents = length h.contents } in
      let fewer : Fewer (counts h) c = record { texts = omega arith; tables = omega arith; functions = omega arith; contents = omega arith } in
      record {
        once = is.once;
        index_name = is.index_name;
        newindex_name = is.newindex_name;
        tables = all-set _ h.tables i entry (all-weaker _ _ h.tables (λ e made. IsMadeEntry-more fewer e made) is.tables) (IsMadeEntry-more fewer entry made);
        cells = all-weaker _ _ h.cells (λ v made. IsCounted-more fewer v made) is.cells;
        functions = is.functions;
        first_tables = omega arith;
      }

  pub IsHeap-with-function : (functions : List Function) (f : Function) → functions ≡ h.functions ++ f ∷ [] → AreMadeCells h f.cells
      → IsHeap (record { texts = h.texts; tables = h.tables; cells = h.cells; functions = functions; contents = h.contents })
  IsHeap-with-function functions f grown made =
      let size : length functions ≡ length h.functions + 1 = ap length grown ∙ length-append h.functions (f ∷ []) in
      let c : Counts = record { texts = length h.texts; tables = length h.tables; functions = length functions; contents = length h.contents } in
      let fewer : Fewer (counts h) c = record { texts = omega arith; tables = omega arith; functions = omega arith; contents = omega arith } in
      let P : List Function → Type 0 = λ fs. AllByRecursion (λ (g : Function). AreMadeCells h g.cells) fs in
      record {
        once = is.once;
        index_name = is.index_name;
        newindex_name = is.newindex_name;
        tables = all-weaker _ _ h.tables (λ e made. IsMadeEntry-more fewer e made) is.tables;
        cells = all-weaker _ _ h.cells (λ v made. IsCounted-more fewer v made) is.cells;
        functions = subst P (sym grown) (all-last _ h.functions f is.functions made);
        first_tables = is.first_tables;
      }

  pub IsHeap-with-contents : (contents : List Contents) → length h.contents ≤ length contents
      → IsHeap (record { texts = h.texts; tables = h.tables; cells = h.cells; functions = h.functions; contents = contents })
  IsHeap-with-contents contents more =
      let c : Counts = record { texts = length h.texts; tables = length h.tables; functions = length h.functions; contents = length contents } in
      let fewer : Fewer (counts h) c = record { texts = omega arith; tables = omega arith; functions = omega arith; contents = omega arith } in
      record {
        once = is.once;
        index_name = is.index_name;
        newindex_name = is.newindex_name;
        tables = all-weaker _ _ h.tables (λ e made. IsMadeEntry-more fewer e made) is.tables;
        cells = all-weaker _ _ h.cells (λ v made. IsCounted-more fewer v made) is.cells;
        functions = is.functions;
        first_tables = is.first_tables;
      }

  pub IsHeap-with-texts : (texts rest : List Bytes) → texts ≡ h.texts ++ rest → AreOnce texts
      → IsHeap (record { texts = texts; tables = h.tables; cells = h.cells; functions = h.functions; contents = h.contents })
  IsHeap-with-texts texts rest grown once =
      let size : length texts ≡ length h.texts + length rest = ap length grown ∙ length-append h.texts rest in
      let c : Counts = record { texts = length texts; tables = length h.tables; functions = length h.functions; contents = length h.contents } in
      let fewer : Fewer (counts h) c = record { texts = omega arith; tables = omega arith; functions = omega arith; contents = omega arith } in
      record {
        once = once;
        index_name = ap (λ ts. slice_get ts 0) grown ∙ slice_get-append_left h.texts rest 0 _ is.index_name;
        newindex_name = ap (λ ts. slice_get ts 1) grown ∙ slice_get-append_left h.texts rest 1 _ is.newindex_name;
        tables = all-weaker _ _ h.tables (λ e made. IsMadeEntry-more fewer e made) is.tables;
        cells = all-weaker _ _ h.cells (λ v made. IsCounted-more fewer v made) is.cells;
        functions = is.functions;
        first_tables = is.first_tables;
      }

  -- a longer list of texts changes nothing that the store says
  pub store_of-with-texts : (texts rest : List Bytes) → texts ≡ h.texts ++ rest
      → store_of (record { texts = texts; tables = h.tables; cells = h.cells; functions = h.functions; contents = h.contents }) ≡ store_of h
  store_of-with-texts texts rest grown =
      let Of : List Bytes → Store = λ ts. store_of (record { texts = ts; tables = h.tables; cells = h.cells; functions = h.functions; contents = h.contents }) in
      let tables = tables_longer h.tables is.tables in
      let cells = values_view-longer h.texts rest (counts h) refl h.cells is.cells in
      ap Of grown ∙ (let P : List Table → Store = λ ts. record { tables = ts; cells = map (value_view (h.texts ++ rest)) h.cells; contents = h.contents } in
      let Q : List meant.Value → Store = λ vs. record { tables = map (table_view h.texts) h.tables; cells = vs; contents = h.contents } in
      ap P tables ∙ ap Q cells)
    where
      tables_longer : (es : List TableEntry) → AllByRecursion (IsMadeEntry (counts h)) es → map (table_view (h.texts ++ rest)) es ≡ map (table_view h.texts) es
      tables_longer [] all = refl
      tables_longer (e ∷ es) all =
          let own = places_view-longer h.texts rest (counts h) refl e.table all.0.0 in
          let later = tables_longer es all.1 in
          let P : Places meant.Value meant.Value → Table = λ ps. record { places = ps; meta = e.meta } in
          let here : table_view (h.texts ++ rest) e ≡ table_view h.texts e = ap P own in
          cc

-- ---- the store

pub table_at-view : (h : HeapView) (t : ℕ) (entry : TableEntry) → slice_get h.tables t ≡ Some entry → table_at (store_of h) t ≡ table_view h.texts entry
table_at-view h t entry there =
    ap (λ o. unwrap_or o no_table) (slice_get-map (table_view h.texts) h.tables t ∙ ap (λ o. option_map (table_view h.texts) o) there)

pub Becomes-set_cell : (h g : HeapView) (i j : ℕ) (v : Value) → h ≡ g → i ≡ j
    → Becomes g (record { texts = h.texts; tables = h.tables; cells = set h.cells i v; functions = h.functions; contents = h.contents }) (λ s. set_cell s j (value_view g.texts v))
Becomes-set_cell h g i j v same at =
    let new : HeapView = record { texts = h.texts; tables = h.tables; cells = set h.cells i v; functions = h.functions; contents = h.contents } in
    let P : HeapView → Type 0 = λ k. Becomes k new (λ s. set_cell s j (value_view k.texts v)) in
    let Q : ℕ → Type 0 = λ n. Becomes h new (λ s. set_cell s n (value_view h.texts v)) in
    subst P same (subst Q at (record {
      texts = refl;
      functions = refl;
      store =
          let Of : List meant.Value → Store = λ vs. record { tables = map (table_view h.texts) h.tables; cells = vs; contents = h.contents } in
          ap Of (map-set (value_view h.texts) h.cells i v);
    }))

-- the entry of a table that is there
pub entry-there : (h g : HeapView) (i j : ℕ) (entry : TableEntry) → h ≡ g → i ≡ j → j < length g.tables → entry ≡ get_or h.tables i entry → slice_get h.tables i ≡ Some entry
entry-there h g i j entry same at within is =
    let size : length h.tables ≡ length g.tables = ap (λ (k : HeapView). length k.tables) same in
    slice_get_read h.tables (length h.tables) i entry refl (omega arith) is

-- a table's entry changes as the store's table does
pub Becomes-set_entry : (h g : HeapView) (i j : ℕ) (entry : TableEntry) (change : Store → Store) → h ≡ g → i ≡ j
    → (set_table (store_of h) i (table_view h.texts entry) ≡ change (store_of h))
    → Becomes g (record { texts = h.texts; tables = set h.tables i entry; cells = h.cells; functions = h.functions; contents = h.contents }) change
Becomes-set_entry h g i j entry change same at changes =
    let new : HeapView = record { texts = h.texts; tables = set h.tables i entry; cells = h.cells; functions = h.functions; contents = h.contents } in
    let P : HeapView → Type 0 = λ k. Becomes k new change in
    subst P same (record {
      texts = refl;
      functions = refl;
      store =
          let Of : List Table → Store = λ ts. record { tables = ts; cells = map (value_view h.texts) h.cells; contents = h.contents } in
          ap Of (map-set (table_view h.texts) h.tables i entry) ∙ changes;
    })

pub Becomes-set_meta : (h g : HeapView) (i j : ℕ) (entry : TableEntry) (meta : Option ℕ) → h ≡ g → i ≡ j → slice_get h.tables i ≡ Some entry
    → Becomes g (record { texts = h.texts; tables = set h.tables i (record { table = entry.table; meta = meta }); cells = h.cells; functions = h.functions; contents = h.contents })
    (λ s. set_meta s j meta)
Becomes-set_meta h g i j entry meta same at there =
    Becomes-set_entry h g i j (record { table = entry.table; meta = meta }) (λ s. set_meta s j meta) same at (let Of : Table → Store = λ t. set_table (store_of h) i (record { places = t.places; meta = meta }) in
    ap Of (sym (table_at-view h i entry there)) ∙ ap (λ n. set_meta (store_of h) n meta) at)

pub IsHeap-set_meta : (h g : HeapView) → IsHeap h → h ≡ g → (i : ℕ) (entry : TableEntry) (meta : Option ℕ) → slice_get h.tables i ≡ Some entry → IsMadeTable g meta
    → IsHeap (record { texts = h.texts; tables = set h.tables i (record { table = entry.table; meta = meta }); cells = h.cells; functions = h.functions; contents = h.contents })
IsHeap-set_meta h g is same i entry meta there made =
    let P : HeapView → Type 0 = λ k. IsMadeTable k meta in
    IsHeap-set_entry h is i (record { table = entry.table; meta = meta }) ((all-at (IsMadeEntry (counts h)) h.tables i entry is.tables there).0, subst P (sym same) made)

pub Extends-same : (h : HeapView) → Extends h h
Extends-same h =
    record {
      texts = ([], sym (append-nil h.texts));
      tables = omega arith;
      cells = omega arith;
      functions = ([], sym (append-nil h.functions));
      contents = ([], sym (append-nil h.contents));
    }

pub Extends-texts : (h g : HeapView) (texts rest : List Bytes) → h ≡ g → texts ≡ h.texts ++ rest
    → Extends g (record { texts = texts; tables = h.tables; cells = h.cells; functions = h.functions; contents = h.contents })
Extends-texts h g texts rest same grown =
    let new : HeapView = record { texts = texts; tables = h.tables; cells = h.cells; functions = h.functions; contents = h.contents } in
    let P : HeapView → Type 0 = λ k. Extends k new in
    subst P same (record {
      texts = (rest, grown);
      tables = omega arith;
      cells = omega arith;
      functions = ([], sym (append-nil h.functions));
      contents = ([], sym (append-nil h.contents));
    })

pub Extends-tables : (h g : HeapView) (tables : List TableEntry) → h ≡ g → length h.tables ≤ length tables
    → Extends g (record { texts = h.texts; tables = tables; cells = h.cells; functions = h.functions; contents = h.contents })
Extends-tables h g tables same more =
    let new : HeapView = record { texts = h.texts; tables = tables; cells = h.cells; functions = h.functions; contents = h.contents } in
    let P : HeapView → Type 0 = λ k. Extends k new in
    subst P same (record {
      texts = ([], sym (append-nil h.texts));
      tables = more;
      cells = omega arith;
      functions = ([], sym (append-nil h.functions));
      contents = ([], sym (append-nil h.contents));
    })

prefix-trans : {X : Type 0} (a b c : List X) → IsPrefix a b → IsPrefix b c → IsPrefix a c
prefix-trans a b c p q = (p.0 ++ q.0, q.1 ∙ ap (λ xs. xs ++ q.0) p.1 ∙ append_assoc a p.0 q.0)

pub Extends-trans : (f g h : HeapView) → Extends f g → Extends g h → Extends f h
Extends-trans f g h p q =
    record {
      texts = prefix-trans f.texts g.texts h.texts p.texts q.texts;
      tables = let a = p.tables in let b = q.tables in omega arith;
      cells = let a = p.cells in let b = q.cells in omega arith;
      functions = prefix-trans f.functions g.functions h.functions p.functions q.functions;
      contents = prefix-trans f.contents g.contents h.contents p.contents q.contents;
    }

pub AreMadeCells-same : (h g : HeapView) (cells given : List ℕ) → h ≡ g → cells ≡ given → AreMadeCells g given → AreMadeCells h cells
AreMadeCells-same h g cells given same is made =
    let P : HeapView → Type 0 = λ k. AreMadeCells k given in
    let Q : List ℕ → Type 0 = λ ids. AreMadeCells h ids in
    subst Q (sym is) (subst P (sym same) made)

-- ---- a heap later on

fewer-counts : (h k : HeapView) → Extends h k → Fewer (counts h) (counts k)
fewer-counts h k more =
    record {
      texts = prefix-length h.texts k.texts more.texts;
      tables = more.tables;
      functions = prefix-length h.functions k.functions more.functions;
      contents = prefix-length h.contents k.contents more.contents;
    }
  where
    prefix-length : {X : Type 0} (part whole : List X) → IsPrefix part whole → length part ≤ length whole
    prefix-length part whole p = let size : length whole ≡ length part + length p.0 = ap length p.1 ∙ length-append part p.0 in omega arith

-- a value that a heap made is made and the same text later on
pub IsMade-later : (h k : HeapView) → Extends h k → (v : Value) → IsMade h v → IsMade k v
IsMade-later h k more v made = IsCounted-more (fewer-counts h k more) v made

pub value_view-later : (h k : HeapView) → Extends h k → (v : Value) → IsMade h v → value_view k.texts v ≡ value_view h.texts v
value_view-later h k more v made =
    ap (λ ts. value_view ts v) more.texts.1 ∙ value_view-longer h.texts more.texts.0 (counts h) refl v made

-- ---- reading and setting a key

decides : (a b : Value) → Decides (value_eq a b) (a ≡ b)
decides a b = (alike a b, λ e. let P : Value → Type 0 = λ v. value_eq a v ≡ true in subst P e (alike_same a))

-- values that `==` calls equal are those that the definitions call the same
pub is_same-view : (h g : HeapView) → IsHeap h → h ≡ g → (a b : Value) → IsMade g a → IsMade g b → value_eq a b ≡ meant.same (value_view g.texts a) (value_view g.texts b)
is_same-view h g is same a b a_made b_made =
    let A : HeapView → Type 0 = λ k. IsMade k a in
    let B : HeapView → Type 0 = λ k. IsMade k b in
    let P : HeapView → Type 0 = λ k. value_eq a b ≡ meant.same (value_view k.texts a) (value_view k.texts b) in
    subst P same (eq-view h.texts is.once (counts h) refl value_eq decides a b (subst A (sym same) a_made) (subst B (sym same) b_made))

pub raw_get-view : (h g : HeapView) → IsHeap h → h ≡ g → (i j : ℕ) → i ≡ j → (entry : TableEntry) → slice_get h.tables i ≡ Some entry → (key : Value) → IsMade g key
    → (found : Option Value) → get value_eq entry.table key ≡ found
    → value_view g.texts (unwrap_or found Nil) ≡ raw_get (store_of g) j (value_view g.texts key)
raw_get-view h g is same i j at entry there key made found gives =
    let K : HeapView → Type 0 = λ k. IsMade k key in
    let own : IsMade h key = subst K (sym same) made in
    let all = (all-at (IsMadeEntry (counts h)) h.tables i entry is.tables there).0 in
    let P : HeapView → Type 0 = λ k. value_view k.texts (unwrap_or found Nil) ≡ raw_get (store_of k) j (value_view k.texts key) in
    let Q : ℕ → Type 0 = λ n. value_view h.texts (unwrap_or found Nil) ≡ raw_get (store_of h) n (value_view h.texts key) in
    subst P same (subst Q at (
    view found
    ∙ ap (λ o. unwrap_or (option_map (value_view h.texts) o) meant.nil) (sym gives)
    ∙ ap (λ o. unwrap_or o meant.nil) (get-view h.texts is.once (counts h) refl value_eq decides entry.table key all own)
    ∙ ap (λ (t : Table). unwrap_or (get meant.same t.places (value_view h.texts key)) meant.nil) (sym (table_at-view h i entry there))))
  where
    view : (o : Option Value) → value_view h.texts (unwrap_or o Nil) ≡ unwrap_or (option_map (value_view h.texts) o) meant.nil
    view None = refl
    view (Some v) = refl

pub raw_get-made : (h g : HeapView) → IsHeap h → h ≡ g → (i : ℕ) (entry : TableEntry) → slice_get h.tables i ≡ Some entry → (key : Value)
    → (found : Option Value) → get value_eq entry.table key ≡ found → IsMade g (unwrap_or found Nil)
raw_get-made h g is same i entry there key found gives =
    let all = (all-at (IsMadeEntry (counts h)) h.tables i entry is.tables there).0 in
    let P : Option Value → Type 0 = λ o. IfSome o (λ v. IsCounted (counts h) v) in
    let Q : HeapView → Type 0 = λ k. IsMade k (unwrap_or found Nil) in
    subst Q same (by found (subst P gives (get-counted (counts h) value_eq entry.table key all)))
  where
    by : (o : Option Value) → IfSome o (λ v. IsCounted (counts h) v) → IsMade h (unwrap_or o Nil)
    by None made = tt
    by (Some v) made = made

is_nil-view : (texts : List Bytes) (v : Value) → is_nil v ≡ meant.is_nil (value_view texts v)
is_nil-view texts Nil = refl
is_nil-view texts (Flag b) = refl
is_nil-view texts (Num n) = refl
is_nil-view texts (Str id) = refl
is_nil-view texts (TableValue id) = refl
is_nil-view texts (Func id) = refl
is_nil-view texts (Native f) = refl
is_nil-view texts (Channel n) = refl
is_nil-view texts (Thread n) = refl
is_nil-view texts (Data id) = refl

with_raw-view : (h : HeapView) → IsHeap h → (places : Places Value Value) (key value : Value) → AreCounted (counts h) places → IsMade h key
    → places_view h.texts (with_raw places key value) ≡ with_value (places_view h.texts places) (value_view h.texts key) (value_view h.texts value)
with_raw-view h is places key value all own =
    by (is_nil value) (clear_key value_eq places key) (set_key value_eq places key value)
    (clear_key meant.same (places_view h.texts places) (value_view h.texts key)) (set_key meant.same (places_view h.texts places) (value_view h.texts key) (value_view h.texts value))
    (clear_key-view h.texts is.once (counts h) refl value_eq decides places key all own) (set-view h.texts is.once (counts h) refl value_eq decides places key value all own)
    ∙ ap (λ b. cond b (clear_key meant.same (places_view h.texts places) (value_view h.texts key)) (set_key meant.same (places_view h.texts places) (value_view h.texts key) (value_view h.texts value))) (is_nil-view h.texts value)
  where
    by : (b : Bool) (p q : Places Value Value) (r s : Places meant.Value meant.Value) → places_view h.texts p ≡ r → places_view h.texts q ≡ s → places_view h.texts (cond b p q) ≡ cond b r s
    by true p q r s e f = e
    by false p q r s e f = f

with_raw-counted : (c : Counts) (places : Places Value Value) (key value : Value) → AreCounted c places → IsCounted c key → IsCounted c value → AreCounted c (with_raw places key value)
with_raw-counted c places key value all own given =
    by (is_nil value) (clear_key value_eq places key) (set_key value_eq places key value) (clear_key-counted c value_eq places key all) (set-counted c value_eq places key value all own given)
  where
    by : (b : Bool) (p q : Places Value Value) → AreCounted c p → AreCounted c q → AreCounted c (cond b p q)
    by true p q e f = e
    by false p q e f = f

module _ (h g : HeapView) (is : IsHeap h) (same : h ≡ g) (i j : ℕ) (at : i ≡ j) (entry : TableEntry) (there : slice_get h.tables i ≡ Some entry)
    (key value : Value) (key_made : IsMade g key) (table : Places Value Value) where
  pub IsHeap-set_raw : IsMade g value → table ≡ with_raw entry.table key value
      → IsHeap (record { texts = h.texts; tables = set h.tables i (record { table = table; meta = entry.meta }); cells = h.cells; functions = h.functions; contents = h.contents })
  IsHeap-set_raw value_made gives =
      let K : HeapView → Type 0 = λ k. IsMade k key in
      let V : HeapView → Type 0 = λ k. IsMade k value in
      let made = all-at (IsMadeEntry (counts h)) h.tables i entry is.tables there in
      let P : Places Value Value → Type 0 = λ ps. AreCounted (counts h) ps in
      IsHeap-set_entry h is i (record { table = table; meta = entry.meta })
      (subst P (sym gives) (with_raw-counted (counts h) entry.table key value made.0 (subst K (sym same) key_made) (subst V (sym same) value_made)), made.1)

  pub Becomes-set_raw : table ≡ with_raw entry.table key value
      → Becomes g (record { texts = h.texts; tables = set h.tables i (record { table = table; meta = entry.meta }); cells = h.cells; functions = h.functions; contents = h.contents })
      (λ s. raw_set s j (value_view g.texts key) (value_view g.texts value))
  Becomes-set_raw gives =
      let K : HeapView → Type 0 = λ k. IsMade k key in
      let made = all-at (IsMadeEntry (counts h)) h.tables i entry is.tables there in
      Becomes-set_entry h g i j (record { table = table; meta = entry.meta }) (λ s. raw_set s j (value_view g.texts key) (value_view g.texts value)) same at (let s = store_of h in
      let View : Places meant.Value meant.Value → Store = λ ps. set_table s i (record { places = ps; meta = entry.meta }) in
      let Of : Table → Store = λ t. set_table s i (record { places = with_value t.places (value_view h.texts key) (value_view h.texts value); meta = t.meta }) in
      ap View (ap (λ ps. places_view h.texts ps) gives ∙ with_raw-view h is entry.table key value made.0 (subst K (sym same) key_made))
      ∙ ap Of (sym (table_at-view h i entry there))
      ∙ ap (λ n. raw_set s n (value_view h.texts key) (value_view h.texts value)) at
      ∙ ap (λ (k : HeapView). raw_set s j (value_view k.texts key) (value_view k.texts value)) same)

  pub has_place-raw : has_place meant.same (table_at (store_of g) j).places (value_view g.texts key) ≡ true → has_place value_eq entry.table key ≡ true
  has_place-raw e =
      let K : HeapView → Type 0 = λ k. IsMade k key in
      let made = all-at (IsMadeEntry (counts h)) h.tables i entry is.tables there in
      has_place-view h.texts is.once (counts h) refl value_eq decides entry.table key made.0 (subst K (sym same) key_made)
      ∙ ap (λ (t : Table). has_place meant.same t.places (value_view h.texts key)) (sym (table_at-view h i entry there))
      ∙ ap (λ n. has_place meant.same (table_at (store_of h) n).places (value_view h.texts key)) at
      ∙ ap (λ (k : HeapView). has_place meant.same (table_at (store_of k) j).places (value_view k.texts key)) same
      ∙ e

-- an entry that is put back as it was
pub same_tables : (tables : List TableEntry) (i : ℕ) (entry : TableEntry) (table : Places Value Value) → entry ≡ get_or tables i entry → table ≡ entry.table
    → set tables i (record { table = table; meta = entry.meta }) ≡ tables
same_tables tables i entry table is put_back =
    let Of : Places Value Value → List TableEntry = λ t. set tables i (record { table = t; meta = entry.meta }) in
    ap Of put_back ∙ ap (λ e. set tables i e) is ∙ set-get_or tables i entry

-- ---- the border

at-view : (texts : List Bytes) (n : ℕ) → option_map (value_view texts) (value_at n) ≡ position n
at-view texts zero = refl
at-view texts (suc n) = by (nat_le (suc n) 99999999999999)
  where
    by : (b : Bool) → option_map (value_view texts) (cond b (Some (Num (pos (suc n)))) None) ≡ cond b (Some (meant.num (pos (suc n)))) None
    by true = refl
    by false = refl

at-counted : (c : Counts) (n : ℕ) → IfSome (value_at n) (λ v. IsCounted c v)
at-counted c zero = tt
at-counted c (suc n) = by (nat_le (suc n) 99999999999999)
  where
    by : (b : Bool) → IfSome (cond b (Some (Num (pos (suc n)))) None) (λ v. IsCounted c v)
    by true = tt
    by false = tt

module _ (h : HeapView) (is : IsHeap h) (places : Places Value Value) (all : AreCounted (counts h) places) where
  has-view : (n : ℕ) → is_some (at_position_value value_eq value_at places n) ≡ is_some (at_position_value meant.same position (places_view h.texts places) n)
  has-view n = by (value_at n) (at-counted (counts h) n) ∙ ap (λ key. is_some (option_and_then (get meant.same (places_view h.texts places)) key)) (at-view h.texts n)
    where
      same_some : (o : Option Value) → is_some o ≡ is_some (option_map (value_view h.texts) o)
      same_some None = refl
      same_some (Some v) = refl

      by : (key : Option Value) → IfSome key (λ v. IsCounted (counts h) v)
          → is_some (option_and_then (get value_eq places) key) ≡ is_some (option_and_then (get meant.same (places_view h.texts places)) (option_map (value_view h.texts) key))
      by None made = refl
      by (Some key) made = same_some (get value_eq places key) ∙ ap is_some (get-view h.texts is.once (counts h) refl value_eq decides places key all made)

  run-view : (n among : ℕ) → run_length value_eq value_at places n among ≡ run_length meant.same position (places_view h.texts places) n among
  run-view n zero = refl
  run-view n (suc among) =
      ap (λ b. cond b (suc (run_length value_eq value_at places (suc n) among)) 0) (has-view n)
      ∙ ap (λ m. cond (is_some (at_position_value meant.same position (places_view h.texts places) n)) (suc m) 0) (run-view (suc n) among)

  border-places : least_border value_eq value_at places ≡ least_border meant.same position (places_view h.texts places)
  border-places = run-view 1 (length places) ∙ ap (λ n. run_length meant.same position (places_view h.texts places) 1 n) (sym (length-map places (λ p. place_view h.texts p)))

pub border-view : (h g : HeapView) → IsHeap h → h ≡ g → (i j : ℕ) → i ≡ j → (entry : TableEntry) → slice_get h.tables i ≡ Some entry
    → least_border value_eq value_at entry.table ≡ border (store_of g) j
border-view h g is same i j at entry there =
    let all = (all-at (IsMadeEntry (counts h)) h.tables i entry is.tables there).0 in
    border-places h is entry.table all
    ∙ ap (λ (t : Table). least_border meant.same position t.places) (sym (table_at-view h i entry there))
    ∙ ap (λ n. border (store_of h) n) at ∙ ap (λ k. border (store_of k) j) same

-- a field's value is set where the table, its name and the value are what they are called
pub put_store : (s before after : Store) (t u : ℕ) (key name value given : meant.Value) → after ≡ raw_set before t key value → before ≡ s → t ≡ u → key ≡ name → value ≡ given
    → after ≡ raw_set s u name given
put_store s before after t u key name value given is was at named same =
    is ∙ ap (λ x. raw_set x t key value) was ∙ ap (λ n. raw_set s n key value) at ∙ ap (λ k. raw_set s u k value) named ∙ ap (λ v. raw_set s u name v) same
