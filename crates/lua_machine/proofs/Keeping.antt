-- An engine that is ready has what its next instruction names, and stays ready.
use Rattle.std.proofs.Common.{◌≡◌, ℕ, zero, suc, ◌+◌, ◌<◌, ◌≤◌, List, [], ◌∷◌, ◌++◌, length, refl, sym, ap, ◌∙◌, subst, Some, slice_get, arith}
use Rattle.std.specs.Prelude.{unwrap_or, map, reverse}
use Rattle.std.specs.List.{AllByRecursion}
use Rattle.std.proofs.lemmas.Option.{none-some, same_Some}
use Rattle.std.proofs.lemmas.List.{reverse-append}
use Rattle.lua_tree.specs.Tree.{Bytes}
use Rattle.lua_heap.specs.declared.value.Value.{Value}
use Rattle.lua_heap.specs.Value.{value_view}
use Rattle.lua_heap.specs.Heap.{HeapView, Extends}
use Rattle.lua_heap.proofs.Callers.{value_view-later}
use Rattle.lua_code.specs.declared.instr.Instr.{Instr}
use Rattle.lua_code.specs.declared.instr.Instr.TheVariants.{Tick}
use Rattle.lua_code.specs.View.{ProtoView}
use Rattle.lua_code.specs.Within.{IsWithin}
use Rattle.lua_code.specs.Valid.{Leads, Reaches, Uses, IsFine, IsSound, IsSoundOf, AreValid, instr_at, cells_at, cells_behind}
use Rattle.lua_machine.specs.declared.frame.Wants.{Wants}
use Rattle.lua_machine.specs.declared.frame.Wants.TheVariants.{ToSlot, TruthTo, UntruthTo, ToTail, Nothing}
use Rattle.lua_machine.specs.declared.frame.Role.{Role}
use Rattle.lua_machine.specs.declared.frame.Role.TheVariants.{Waits, Serves}
use Rattle.lua_machine.specs.declared.frame.Frame.{Frame}
use Rattle.lua_machine.specs.declared.chunk.Chunk.{Chunk}
use Rattle.lua_machine.specs.View.{EngineView, protos_at, proto_at, no_proto}
use Rattle.lua_machine.specs.Made.{AreMade, IsMadeChunk, IsEngine}
use Rattle.lua_machine.specs.Ready.{IsPlaced, WantsFit, IsWaitingAs, IsWaiting, IsCode, IsLoaded, AreFit, IsReady, IsReadyFor, Stays}

-- ---- lists

module _ {A : Type 0} where
  pub get_in : (xs : List A) (n : ℕ) (d : A) → n < length xs → slice_get xs n ≡ Some (unwrap_or (slice_get xs n) d)
  get_in [] n d lt = absurd (let e : ⊥ = omega (arith, lt) in e)
  get_in (x ∷ xs) zero d lt = refl
  get_in (x ∷ xs) (suc n) d lt = get_in xs n d (omega (arith, lt))

  pub all_in : (P : A → Type 0) (xs : List A) (n : ℕ) (x : A) → slice_get xs n ≡ Some x → AllByRecursion P xs → P x
  all_in P [] n x e all = absurd (none-some x e)
  all_in P (y ∷ xs) zero x e all = subst P (same_Some y x e) all.0
  all_in P (y ∷ xs) (suc n) x e all = all_in P xs n x e all.1

  pub weaker : (P Q : A → Type 0) (xs : List A) → ((x : A) → P x → Q x) → AllByRecursion P xs → AllByRecursion Q xs
  weaker P Q [] f all = tt
  weaker P Q (x ∷ xs) f all = (f x all.0, weaker P Q xs f all.1)

  all_append : (P : A → Type 0) (xs ys : List A) → AllByRecursion P xs → AllByRecursion P ys → AllByRecursion P (xs ++ ys)
  all_append P [] ys a b = b
  all_append P (x ∷ xs) ys a b = (a.0, all_append P xs ys a.1 b)

  pub all_reversed : (P : A → Type 0) (xs : List A) → AllByRecursion P xs → AllByRecursion P (reverse xs)
  all_reversed P [] all = tt
  all_reversed P (x ∷ xs) all = subst (AllByRecursion P) (sym (reverse-append (x ∷ []) xs)) (all_append P (reverse xs) (x ∷ []) (all_reversed P xs all.1) (all.0, tt))

-- ---- code that was loaded

-- a chunk that has functions is in order
pub valid_in : (texts : List Bytes) (chunks : List Chunk) (n k : ℕ) → AllByRecursion (IsLoaded texts) chunks → k < length (protos_at chunks n) → AreValid (protos_at chunks n)
valid_in texts [] n k all lt = absurd (let e : ⊥ = omega (arith, lt) in e)
valid_in texts (x ∷ chunks) zero k all lt = all.0.valid
valid_in texts (x ∷ chunks) (suc n) k all lt = valid_in texts chunks n k all.1 lt

-- a function of a chunk is in order
pub sound_at : (m : EngineView) (chunk func : ℕ) → AreFit m → func < length (protos_at m.chunks chunk) → IsSound (protos_at m.chunks chunk) func (proto_at m.chunks chunk func)
sound_at m chunk func fit lt =
    let ps : List ProtoView = protos_at m.chunks chunk in
    subst (IsSoundOf ps func) (get_in ps func no_proto lt) ((valid_in m.heap.texts m.chunks chunk func fit.chunks lt).each func lt)

-- ---- the next instruction

module _ (m : EngineView) (r : IsReady m) where
  abbrev ps : List ProtoView
  ps = protos_at m.chunks m.chunk

  pub sound_here : IsSound ps m.func m.proto
  sound_here = subst (IsSound ps m.func) (sym r.proto) (sound_at m m.chunk m.func r.fit r.placed.known)

  pub inside : m.pc < length m.proto.instrs
  inside = subst (λ (p : ProtoView). m.pc < length p.instrs) (sym r.proto) r.placed.inside

  module _ (x : Instr) (next : slice_get m.proto.instrs m.pc ≡ Some x) where
    at_is : instr_at m.proto m.pc ≡ x
    at_is = ap (λ o. unwrap_or o Tick) next

    fine : IsFine ps m.func m.proto m.pc
    fine = sound_here.each m.pc inside

    within : IsWithin m.proto.size (length m.proto.constants) x
    within = all_in (IsWithin m.proto.size (length m.proto.constants)) m.proto.instrs m.pc x next sound_here.held.within

    room : m.base + m.proto.size ≤ length m.values
    room = subst (λ (p : ProtoView). m.base + p.size ≤ length m.values) (sym r.proto) r.placed.room

    -- what it names is there
    pub ready_for : IsReadyFor x m
    ready_for =
        let short = sound_here.short in
        let less = inside in
        let space = room in
        let slots = within.slots in
        record {
          ready = r;
          next = next;
          short = omega (arith, short, less);
          bounded = short;
          slots = omega (arith, space, slots);
          cells = subst (λ (p : ProtoView). m.cell_base + cells_at p m.pc ≤ length m.cells) (sym r.proto) r.placed.height;
          uses = subst (Uses ps m.func (cells_at m.proto m.pc)) at_is fine.uses;
          known = within.constants;
          leads = subst (λ y. Reaches m.proto (cells_behind (cells_at m.proto m.pc) y) m.pc y) at_is fine.reaches;
        }

-- ---- more slots and cells, and a heap that has made more

wants_more : (base slots more : ℕ) (w : Wants) → slots ≤ more → WantsFit base slots w → WantsFit base more w
wants_more base slots more (ToSlot n) le fits = omega (arith, le, fits)
wants_more base slots more (TruthTo n) le fits = omega (arith, le, fits)
wants_more base slots more (UntruthTo n) le fits = omega (arith, le, fits)
wants_more base slots more ToTail le fits = tt
wants_more base slots more Nothing le fits = tt

more_as : (chunks : List Chunk) (slots more cells further : ℕ) → slots ≤ more → cells ≤ further → (f : Frame) (role : Role) → IsWaitingAs role chunks slots cells f → IsWaitingAs role chunks more further f
more_as chunks slots more cells further le lf f (Waits wants) w =
    let s = w.placed.room in
    let c = w.placed.height in
    record {
      placed = record { known = w.placed.known; inside = w.placed.inside; room = omega (arith, le, s); height = omega (arith, lf, c) };
      wants = wants_more f.base slots more wants le w.wants;
    }
more_as chunks slots more cells further le lf f (Serves duty) w =
    let s = w.0 in
    let c = w.1 in
    (omega (arith, le, s), omega (arith, lf, c))

pub waiting_more : (chunks : List Chunk) (slots more cells further : ℕ) → slots ≤ more → cells ≤ further → (f : Frame) → IsWaiting chunks slots cells f → IsWaiting chunks more further f
waiting_more chunks slots more cells further le lf f w = more_as chunks slots more cells further le lf f f.role w

module _ (h k : HeapView) (more : Extends h k) where
  pub views_later : (vs : List Value) → AreMade h vs → map (value_view k.texts) vs ≡ map (value_view h.texts) vs
  views_later [] made = refl
  views_later (v ∷ vs) made =
      ap (λ w. w ∷ map (value_view k.texts) vs) (value_view-later h k more v made.0)
      ∙ ap (λ ws. value_view h.texts v ∷ ws) (views_later vs made.1)

  pub lists_later : (lists : List (List Value)) → AllByRecursion (AreMade h) lists → map (map (value_view k.texts)) lists ≡ map (map (value_view h.texts)) lists
  lists_later [] made = refl
  lists_later (vs ∷ lists) made =
      ap (λ ws. ws ∷ map (map (value_view k.texts)) lists) (views_later vs made.0)
      ∙ ap (λ rest. map (value_view h.texts) vs ∷ rest) (lists_later lists made.1)

  pub loaded_later : (chunks : List Chunk) → AllByRecursion (IsMadeChunk h) chunks → AllByRecursion (IsLoaded h.texts) chunks → AllByRecursion (IsLoaded k.texts) chunks
  loaded_later [] made all = tt
  loaded_later (x ∷ chunks) made all = (record { valid = all.0.valid; constants = lists_later x.constants.items made.0 ∙ all.0.constants }, loaded_later chunks made.1 all.1)

-- where no function was made
pub fit_grown : (m : EngineView) (h : HeapView) → IsEngine m → Extends m.heap h → h.functions ≡ m.heap.functions → AreFit m → AreFit (record m { heap = h })
fit_grown m h is more functions fit =
    record {
      frames = fit.frames;
      functions = subst (AllByRecursion (IsCode m.chunks)) (sym functions) fit.functions;
      chunks = loaded_later m.heap h more m.chunks is.chunks fit.chunks;
    }

-- ---- what stays ready

pub stays_fit : (old new : EngineView) → AreFit old → AllByRecursion (IsLoaded new.heap.texts) old.chunks → Stays old new → AreFit new
stays_fit old new fit loaded s =
    let slots = s.slots in
    let cells = s.cells in
    record {
      frames = subst (λ cs. AllByRecursion (IsWaiting cs (length new.values) (length new.cells)) new.frames) (sym s.chunks)
          (subst (AllByRecursion (IsWaiting old.chunks (length new.values) (length new.cells))) (sym s.frames)
          (weaker (IsWaiting old.chunks (length old.values) (length old.cells)) (IsWaiting old.chunks (length new.values) (length new.cells)) old.frames
          (waiting_more old.chunks (length old.values) (length new.values) (length old.cells) (length new.cells) slots cells) fit.frames));
      functions = subst (λ cs. AllByRecursion (IsCode cs) new.heap.functions) (sym s.chunks) (s.functions fit.functions);
      chunks = subst (AllByRecursion (IsLoaded new.heap.texts)) (sym s.chunks) loaded;
    }

-- at an instruction inside, with so many cells before it
pub goes_on : (old new : EngineView) (cells : ℕ) → IsReady old → AllByRecursion (IsLoaded new.heap.texts) old.chunks → Stays old new → old.cell_base + cells ≤ length new.cells → Leads old.proto cells new.pc → IsReady new
goes_on old new cells r loaded s there leads =
    let slots = s.slots in
    let room = r.placed.room in
    let inside = subst (λ (p : ProtoView). new.pc < length p.instrs) r.proto leads.inside in
    let height = subst (λ (p : ProtoView). cells_at p new.pc ≤ cells) r.proto leads.height in
    let placed : IsPlaced old.chunks (length new.values) (length new.cells) old.chunk old.func new.pc old.base old.cell_base = record { known = r.placed.known; inside = inside; room = omega (arith, slots, room); height = omega (arith, there, height) } in
    record {
      placed = subst (λ cs. IsPlaced cs (length new.values) (length new.cells) new.chunk new.func new.pc new.base new.cell_base) (sym s.chunks)
          (subst (λ n. IsPlaced old.chunks (length new.values) (length new.cells) n new.func new.pc new.base new.cell_base) (sym s.chunk)
          (subst (λ n. IsPlaced old.chunks (length new.values) (length new.cells) old.chunk n new.pc new.base new.cell_base) (sym s.func)
          (subst (λ n. IsPlaced old.chunks (length new.values) (length new.cells) old.chunk old.func new.pc n new.cell_base) (sym s.base)
          (subst (λ n. IsPlaced old.chunks (length new.values) (length new.cells) old.chunk old.func new.pc old.base n) (sym s.cell_base) placed))));
      proto = s.proto ∙ r.proto ∙ ap (λ cs. proto_at cs old.chunk old.func) (sym s.chunks) ∙ ap (λ n. proto_at new.chunks n old.func) (sym s.chunk) ∙ ap (λ n. proto_at new.chunks new.chunk n) (sym s.func);
      fit = stays_fit old new r.fit loaded s;
    }
