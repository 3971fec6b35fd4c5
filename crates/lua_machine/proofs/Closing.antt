-- New functions.
use Rattle.std.proofs.Common.{◌≡◌, ℕ, zero, suc, ◌+◌, ◌<◌, ◌≤◌, List, [], ◌∷◌, ◌++◌, length, set, take, refl, sym, ap, ◌∙◌, subst, Some, slice_get, arith}
use Rattle.std.specs.Prelude.{map}
use Rattle.std.specs.List.{AllByRecursion}
use Rattle.std.proofs.lemmas.List.{length-map, map-append}
use Rattle.lua_tree.specs.Tree.{Bytes}
use Rattle.lua_meaning.specs.Value as meant
use Rattle.lua_machine.specs.Past.{Past}
use Rattle.lua_meaning.specs.Store.{Store}
use Rattle.lua_heap.specs.declared.entries.Function.{Function}
use Rattle.lua_heap.specs.declared.value.Value.TheVariants.{Func}
use Rattle.lua_heap.specs.Heap.{HeapView, store_of}
use Rattle.lua_code.specs.Instr as i
use Rattle.lua_code.specs.declared.instr.Instr.TheVariants.{Close}
use Rattle.lua_code.specs.View.{ProtoView, Inner, inner_at, inners, code_at}
use Rattle.lua_code.specs.Valid.{cells_at, captures_of, captures_at}
use Rattle.lua_code.specs.State.{put, Made, Config, on}
use Rattle.lua_machine.specs.declared.status.Status.TheVariants.{Goes}
use Rattle.lua_machine.specs.View.{EngineView, cell_at, protos_at, proto_at, no_proto, slots_view, registers_of, frames_of, made_view, modules_in, config_in, config_of}
use Rattle.lua_machine.specs.Ready.{IsCode, IsLoaded, IsReadyFor}
use Rattle.lua_machine.specs.Does.{with_slot, at_pc, HasCell, Takes}
use Rattle.lua_machine.specs.Changes.{held_cells}
use Rattle.lua_machine.proofs.Doing.{slots_set}
use Rattle.lua_machine.proofs.Keeping.{get_in, goes_on}
use Rattle.lua_machine.proofs.Fetching.{captures_is}
use Rattle.lua_machine.proofs.Loads.{all_last}
use Rattle.lua_machine.proofs.Taking.{length_set}

-- ---- what is there

take_at : (xs : List Inner) (n k : ℕ) → n < k → inner_at (take k xs) n ≡ inner_at xs n
take_at xs n zero lt = absurd (let e : ⊥ = omega (arith, lt) in e)
take_at [] n (suc k) lt = refl
take_at (x ∷ xs) zero (suc k) lt = refl
take_at (x ∷ xs) (suc n) (suc k) lt = take_at xs n k (omega (arith, lt))

module _ (m : EngineView) (to n : ℕ) (r : IsReadyFor (Close to n) m) where
  abbrev ps : List ProtoView
  ps = protos_at m.chunks m.chunk

  abbrev p : ProtoView
  p = proto_at m.chunks m.chunk n

  pub known : n < length ps
  known = let lt = r.uses.0 in let le = r.ready.placed.known in omega (arith, lt, le)

  here : slice_get ps n ≡ Some p
  here = get_in ps n no_proto known

  captures_same : captures_at ps n ≡ p.captures
  captures_same = ap captures_of here

  pub cells_there : AllByRecursion (HasCell m) p.captures
  cells_there = there p.captures (subst (AllByRecursion (λ (c : ℕ). c < cells_at m.proto m.pc)) captures_same r.uses.1)
    where
      there : (cs : List ℕ) → AllByRecursion (λ (c : ℕ). c < cells_at m.proto m.pc) cs → AllByRecursion (HasCell m) cs
      there [] all = tt
      there (c ∷ cs) all = (let lt = all.0 in let le = r.cells in omega (arith, lt, le), there cs all.1)

  abbrev made : Function
  made = record { code = m.chunk; proto = n; cells = held_cells m n }

  is_code : IsCode m.chunks made
  is_code = record { func = known; cells = length-map p.captures (λ c. cell_at m.cells (m.cell_base + c)) }

  -- the function that is made, to the definitions
  abbrev first : Made
  first = record { code = (inner_at (take m.func (inners ps)) n).code; cells = map (λ c. cell_at m.cells (m.cell_base + c)) (inner_at (take m.func (inners ps)) n).captures }

  made_is : first ≡ made_view m.chunks made
  made_is =
      ap made_of (take_at (inners ps) n m.func r.uses.0)
      ∙ ap (λ (cs : List ℕ). as_made (code_at ps n) (map (λ c. cell_at m.cells (m.cell_base + c)) cs)) (captures_is ps n p here)
    where
      as_made : i.Proto → List ℕ → Made
      as_made code cells = record { code = code; cells = cells }

      made_of : Inner → Made
      made_of x = as_made x.code (map (λ c. cell_at m.cells (m.cell_base + c)) x.captures)

  pub takes_close : (h : HeapView) (id : ℕ) → id ≡ length m.heap.functions → h.functions ≡ m.heap.functions ++ made ∷ [] → h.texts ≡ m.heap.texts → store_of h ≡ store_of m.heap → Takes (Close to n) Goes m (with_slot (record m { heap = h }) to (Func id))
  takes_close h id is_id functions texts store =
      let slots : m.base + suc to ≤ length m.values = r.slots in
      let long = length_set m.values (m.base + to) (Func id) in
      record {
        step = λ past.
            ap (λ k. on (with_all past (put (slots_view m.heap.texts m.values) (m.base + to) (meant.func k)) (map (made_view m.chunks) m.heap.functions ++ first ∷ []))) (length-map m.heap.functions (made_view m.chunks) ∙ sym is_id)
            ∙ ap (λ (slots : ℕ → meant.Value). on (with_all past slots (map (made_view m.chunks) m.heap.functions ++ first ∷ []))) (slots_set m.heap.texts m.values (m.base + to) (Func id) (omega (arith, slots)))
            ∙ ap (λ (x : Made). on (with_all past (slots_view m.heap.texts (set m.values (m.base + to) (Func id))) (map (made_view m.chunks) m.heap.functions ++ x ∷ []))) made_is
            ∙ ap (λ (fs : List Made). on (with_all past (slots_view m.heap.texts (set m.values (m.base + to) (Func id))) fs)) (sym (map-append (made_view m.chunks) m.heap.functions (made ∷ [])))
            ∙ ap (λ (fs : List Function). on (config_in m.heap.texts fs (store_of m.heap) past (with_slot m to (Func id)))) (sym functions)
            ∙ ap (λ (s : Store). on (config_in m.heap.texts h.functions s past (with_slot m to (Func id)))) (sym store)
            ∙ ap (λ (ts : List Bytes). on (config_in ts h.functions (store_of h) past (with_slot m to (Func id)))) (sym texts);
        kept = goes_on m (with_slot (record m { heap = h }) to (Func id)) (cells_at m.proto m.pc) r.ready (subst (λ (ts : List Bytes). AllByRecursion (IsLoaded ts) m.chunks) (sym texts) r.ready.fit.chunks)
            (record {
              chunks = refl;
              proto = refl;
              chunk = refl;
              func = refl;
              base = refl;
              cell_base = refl;
              frames = refl;
              functions = λ all. subst (AllByRecursion (IsCode m.chunks)) (sym functions) (all_last (IsCode m.chunks) m.heap.functions made all is_code);
              slots = omega (arith, long);
              cells = omega arith;
            }) r.cells r.leads;
      }
    where
      with_all : Past → (ℕ → meant.Value) → List Made → Config
      with_all past slots fs = record {
        active = (config_of past (at_pc m (m.pc + 1))).active;
        frames = frames_of m;
        registers = record { slots = slots; cells = (registers_of m).cells; tail = (registers_of m).tail };
        state = record {
          store = store_of m.heap;
          functions = fs;
          modules = modules_in m.heap.texts m;
          output = past.output;
          ends = past.ends;
          ticks = m.ticks;
          asks = past.asks;
        };
      }

-- the same, where the engine is seen through its fields
pub takes_close_of : (e m : EngineView) → e ≡ m → (to n : ℕ) → IsReadyFor (Close to n) m → (h : HeapView) (id : ℕ) (cells : List ℕ) → cells ≡ held_cells m n → id ≡ length e.heap.functions → h.functions ≡ e.heap.functions ++ record { code = e.chunk; proto = n; cells = cells } ∷ [] → h.texts ≡ e.heap.texts → store_of h ≡ store_of e.heap → Takes (Close to n) Goes m (with_slot (record e { heap = h }) to (Func id))
takes_close_of e m seen to n r h id cells held is_id functions texts store =
    subst (λ (y : EngineView). Takes (Close to n) Goes y (with_slot (record e { heap = h }) to (Func id))) seen
    (takes_close e to n (subst (IsReadyFor (Close to n)) (sym seen) r) h id is_id
    (functions ∙ ap (λ (cs : List ℕ). e.heap.functions ++ record { code = e.chunk; proto = n; cells = cs } ∷ []) (held ∙ ap (λ (y : EngineView). held_cells y n) (sym seen)))
    texts store)
