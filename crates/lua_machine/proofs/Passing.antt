-- `print` comes from one value to the next.
use Rattle.std.proofs.Common.{◌≡◌, ℕ, zero, suc, ◌+◌, ◌-◌, ◌<◌, ◌≤◌, List, [], ◌∷◌, ◌++◌, length, map, take, drop, refl, sym, ap, ◌∙◌, subst, Bool, true, false, Some, None, slice_get, get_or, arith}
use Rattle.std.specs.Prelude.{codes, set, reverse, unwrap_or}
use Rattle.std.proofs.lemmas.List.{take_all, take-take, take-set-le, take_more_set, drop-set-add, drop-set-lt, drop_all, drop-append-le, take-append-le, length-take-le, length-set, length-map, length-drop, length-append, map-set, map-append}
use Rattle.std.specs.List.{AllByRecursion}
use Rattle.std.proofs.lemmas.Option.{slice_get-get_or}
use Rattle.lua_tree.specs.Tree.{Bytes}
use Rattle.lua_meaning.specs.Value as meant
use Rattle.lua_meaning.specs.World.{failed}
use Rattle.lua_meaning.specs.Store.{handler}
use Rattle.lua_meaning.specs.Control.{value_text}
use Rattle.lua_heap.specs.declared.value.Value.{Value}
use Rattle.lua_heap.specs.declared.value.Value.TheVariants.{Nil, Str}
use Rattle.lua_heap.specs.Value.{value_view, IsCounted}
use Rattle.lua_heap.specs.Heap.{HeapView, counts, store_of, Extends}
use Rattle.lua_code.specs.State as s
use Rattle.lua_code.specs.State.{Registers, State, Config, Step, prints, serves}
use Rattle.lua_code.specs.Frames.{by_text, printing, calling_with, finish}
use Rattle.lua_machine.specs.declared.frame.Frame.{Frame}
use Rattle.lua_machine.specs.declared.chunk.Chunk.{Chunk}
use Rattle.lua_machine.specs.Past.{Past}
use Rattle.lua_machine.specs.View.{EngineView, value_at, text_of, kept_in, frame_in, frames_below, frames_of, registers_of, state_of, config_of}
use Rattle.lua_machine.specs.Made.{AreBelow, IsEngine}
use Rattle.lua_machine.specs.Ready.{AreFit, IsServing}
use Rattle.lua_machine.specs.Back.{kept_of}
use Rattle.lua_machine.specs.Texts.{is_file_data}
use Rattle.lua_machine.specs.Printing.{out_of, printing_step, Passes}
use Rattle.lua_machine.proofs.Doing.{later_at}
use Rattle.lua_machine.proofs.Keeping.{fit_grown}
use Rattle.lua_machine.proofs.Growing.{same_kept, grown}
use Rattle.lua_machine.proofs.Shown.{file_text, other_text}

-- ---- frames take no notice of what is kept behind them

same_taken : (texts : List Bytes) (chunks : List Chunk) (xs ys : List Value) (top : ℕ) (fs : List Frame) → take top xs ≡ take top ys → AreBelow top fs → frames_below texts chunks xs top fs ≡ frames_below texts chunks ys top fs
same_taken texts chunks xs ys top [] same below = refl
same_taken texts chunks xs ys top (g ∷ fs) same below =
    let less : take g.extra_base xs ≡ take g.extra_base ys = sym (take-take g.extra_base top xs below.0) ∙ ap (take g.extra_base) same ∙ take-take g.extra_base top ys below.0 in
    ap (λ (vs : List Value). frame_in chunks (map (value_view texts) (drop g.extra_base vs)) g ∷ frames_below texts chunks xs g.extra_base fs) same
    ∙ ap (λ (rest : List s.Frame). frame_in chunks (kept_in texts ys g.extra_base top) g ∷ rest) (same_taken texts chunks xs ys g.extra_base fs less below.1)

-- other values are kept, and the heap has more strings
abbrev pub keeping : EngineView → HeapView → List Value → EngineView
keeping m h extras = record m { heap = h; extras = extras }

module _ (m : EngineView) (h : HeapView) (extras : List Value) (is : IsEngine m) (more : Extends m.heap h) (store : store_of h ≡ store_of m.heap) (functions : h.functions ≡ m.heap.functions) (below : take m.extra_base extras ≡ take m.extra_base m.extras) where
  pub moved : (does : List s.Frame → Registers → State → Step) (past : Past) → does (frames_of (keeping m h extras)) (registers_of (keeping m h extras)) (state_of past (keeping m h extras)) ≡ does (frames_of m) (registers_of m) (state_of past m)
  moved does past =
      ap (λ (fs : List s.Frame). does fs (registers_of (keeping m h extras)) (state_of past (keeping m h extras))) (same_taken h.texts m.chunks extras m.extras m.extra_base (reverse m.frames) below is.below)
      ∙ ap (λ (c : Config). does c.frames c.registers c.state) (grown m h is more store functions past)

  pub keeping_serving : IsServing m → IsServing (keeping m h extras)
  keeping_serving r =
      let fit = fit_grown m h is more functions r.fit in
      record { fit = record { frames = fit.frames; functions = fit.functions; chunks = fit.chunks }; slots = r.slots; cells = r.cells }

-- ---- what is kept

pub kept_is : (m : EngineView) → kept_of m ≡ map (value_view m.heap.texts) (drop m.extra_base m.extras)
kept_is m = ap (λ (vs : List Value). map (value_view m.heap.texts) (drop m.extra_base vs)) (take_all (length m.extras) m.extras (omega arith))

pub kept_long : (m : EngineView) → length (kept_of m) ≡ length m.extras - m.extra_base
kept_long m = ap (λ (vs : List meant.Value). length vs) (kept_is m) ∙ length-map (drop m.extra_base m.extras) (value_view m.heap.texts) ∙ length-drop m.extra_base m.extras

value_dropped : (xs : List Value) (b n : ℕ) → value_at (drop b xs) n ≡ value_at xs (b + n)
value_dropped xs zero n = ap (λ k. value_at xs k) (let e : n ≡ 0 + n = omega arith in e)
value_dropped [] (suc b) n = refl
value_dropped (x ∷ xs) (suc b) n = value_dropped xs b n ∙ ap (λ k. value_at (x ∷ xs) k) (let e : suc (b + n) ≡ suc b + n = omega arith in e)

drop_at : (f : Value → meant.Value) (xs : List Value) (n : ℕ) → n < length xs → drop n (map f xs) ≡ f (value_at xs n) ∷ drop (suc n) (map f xs)
drop_at f [] n lt = absurd (let e : ⊥ = omega (arith, lt) in e)
drop_at f (x ∷ xs) zero lt = refl
drop_at f (x ∷ xs) (suc n) lt = drop_at f xs n (omega (arith, lt))

take_at : (f : Value → meant.Value) (xs : List Value) (n : ℕ) → n < length xs → take (suc n) (map f xs) ≡ take n (map f xs) ++ f (value_at xs n) ∷ []
take_at f [] n lt = absurd (let e : ⊥ = omega (arith, lt) in e)
take_at f (x ∷ xs) zero lt = refl
take_at f (x ∷ xs) (suc n) lt = ap (λ (vs : List meant.Value). f x ∷ vs) (take_at f xs n (omega (arith, lt)))

module _ (m : EngineView) (n : ℕ) (lt : m.extra_base + n < length m.extras) where
  abbrev kept_value : meant.Value
  kept_value = value_view m.heap.texts (value_at m.extras (m.extra_base + n))

  kept_lt : n < length (drop m.extra_base m.extras)
  kept_lt = let long = length-drop m.extra_base m.extras in omega (arith, lt, long)

  pub kept_next : drop n (kept_of m) ≡ kept_value ∷ drop (suc n) (kept_of m)
  kept_next =
      ap (drop n) (kept_is m)
      ∙ drop_at (value_view m.heap.texts) (drop m.extra_base m.extras) n kept_lt
      ∙ ap (λ (v : Value). value_view m.heap.texts v ∷ drop (suc n) (map (value_view m.heap.texts) (drop m.extra_base m.extras))) (value_dropped m.extras m.extra_base n)
      ∙ ap (λ (vs : List meant.Value). kept_value ∷ drop (suc n) vs) (sym (kept_is m))

  pub kept_so_far : take (suc n) (kept_of m) ≡ take n (kept_of m) ++ kept_value ∷ []
  kept_so_far =
      ap (take (suc n)) (kept_is m)
      ∙ take_at (value_view m.heap.texts) (drop m.extra_base m.extras) n kept_lt
      ∙ ap (λ (v : Value). take n (map (value_view m.heap.texts) (drop m.extra_base m.extras)) ++ value_view m.heap.texts v ∷ []) (value_dropped m.extras m.extra_base n)
      ∙ ap (λ (vs : List meant.Value). take n vs ++ kept_value ∷ []) (sym (kept_is m))

  -- one of them is another value
  module _ (h : HeapView) (is : IsEngine m) (more : Extends m.heap h) (v : Value) where
    abbrev instead : EngineView
    instead = keeping m h (set m.extras (m.extra_base + n) v)

    pub kept_instead : kept_of instead ≡ set (kept_of m) n (value_view h.texts v)
    kept_instead =
        kept_is instead
        ∙ ap (map (value_view h.texts)) (drop-set-add m.extra_base m.extras n v)
        ∙ map-set (value_view h.texts) (drop m.extra_base m.extras) n v
        ∙ ap (λ (vs : List Value). set (map (value_view h.texts) (drop m.extra_base vs)) n (value_view h.texts v)) (sym (take_all (length m.extras) m.extras (omega arith)))
        ∙ ap (λ (vs : List meant.Value). set vs n (value_view h.texts v)) (same_kept m.heap h more m m.extra_base (length m.extras) is.extras)

    pub instead_below : take m.extra_base (set m.extras (m.extra_base + n) v) ≡ take m.extra_base m.extras
    instead_below = take-set-le m.extra_base m.extras (m.extra_base + n) v (omega arith)

    pub instead_taken : take (suc n) (kept_of instead) ≡ take n (kept_of m) ++ value_view h.texts v ∷ []
    instead_taken =
        ap (take (suc n)) kept_instead
        ∙ ap (λ k. take k (set (kept_of m) n (value_view h.texts v))) (let e : suc n ≡ n + 1 = omega arith in e)
        ∙ take_more_set (kept_of m) n (value_view h.texts v) (let long = kept_long m in omega (arith, lt, long))

    pub instead_left : drop (suc n) (kept_of instead) ≡ drop (suc n) (kept_of m)
    instead_left = ap (drop (suc n)) kept_instead ∙ drop-set-lt (suc n) (kept_of m) n (value_view h.texts v) (omega arith)

-- ---- a value has no handler, or it has one

abbrev pub printing_on : EngineView → Past → List Bytes → List meant.Value → Step
printing_on m past made left =
    printing made left (frames_of m) m.base m.cell_base (registers_of m) (state_of past m) (out_of m)

abbrev pub asking_on : EngineView → Past → List Bytes → meant.Value → List meant.Value → meant.Value → Step
asking_on m past made v left h =
    calling_with (λ e st. out_of m (failed e) st) h (v ∷ []) (serves (prints made left) m.base m.cell_base ∷ frames_of m) m.base m.cell_base (registers_of m) (state_of past m)

passes : (m : EngineView) (past : Past) (made : List Bytes) (v : meant.Value) (left : List meant.Value) → handler (store_of m.heap) v (codes "__tostring") ≡ meant.nil → printing_on m past made (v ∷ left) ≡ printing_on m past (made ++ value_text (store_of m.heap) v ∷ []) left
passes m past made v left plain = ap (λ (h : meant.Value). by_text h (printing_on m past (made ++ value_text (store_of m.heap) v ∷ []) left) (asking_on m past made v left)) plain

pub asked_by : (own : Step) (asking : meant.Value → Step) (h : meant.Value) → (h ≡ meant.nil → ⊥) → by_text h own asking ≡ asking h
asked_by own asking meant.nil some = absurd (some refl)
asked_by own asking (meant.flag b) some = refl
asked_by own asking (meant.num z) some = refl
asked_by own asking (meant.str t) some = refl
asked_by own asking (meant.table t) some = refl
asked_by own asking (meant.func f) some = refl
asked_by own asking (meant.native f) some = refl
asked_by own asking (meant.channel c) some = refl
asked_by own asking (meant.thread t) some = refl
asked_by own asking (meant.datum d) some = refl

pub asks_on : (m : EngineView) (past : Past) (made : List Bytes) (v : meant.Value) (left : List meant.Value) (h : meant.Value) → h ≡ handler (store_of m.heap) v (codes "__tostring") → (h ≡ meant.nil → ⊥) → printing_on m past made (v ∷ left) ≡ asking_on m past made v left h
asks_on m past made v left h is some =
    ap (λ (g : meant.Value). by_text g (printing_on m past (made ++ value_text (store_of m.heap) v ∷ []) left) (asking_on m past made v left)) (sym is)
    ∙ asked_by (printing_on m past (made ++ value_text (store_of m.heap) v ∷ []) left) (asking_on m past made v left) h some

-- so `print` comes past a value, in whose place its text may stand
module _ (m : EngineView) (past : Past) (other : List meant.Value) (n : ℕ) (v w : meant.Value) where
  pass_on : drop n (kept_of m) ≡ v ∷ drop (suc n) other → take (suc n) other ≡ take n (kept_of m) ++ w ∷ [] → text_of w ≡ value_text (store_of m.heap) v → handler (store_of m.heap) v (codes "__tostring") ≡ meant.nil → printing_step n past m ≡ printing_on m past (map text_of (take (suc n) other)) (drop (suc n) other)
  pass_on left made text plain =
      ap (λ (vs : List meant.Value). printing_on m past (map text_of (take n (kept_of m))) vs) left
      ∙ passes m past (map text_of (take n (kept_of m))) v (drop (suc n) other) plain
      ∙ ap (λ (ts : List Bytes). printing_on m past ts (drop (suc n) other)) made_so
    where
      made_so : map text_of (take n (kept_of m)) ++ value_text (store_of m.heap) v ∷ [] ≡ map text_of (take (suc n) other)
      made_so =
          ap (λ (t : Bytes). map text_of (take n (kept_of m)) ++ t ∷ []) (sym text)
          ∙ sym (map-append text_of (take n (kept_of m)) (w ∷ []))
          ∙ ap (λ (vs : List meant.Value). map text_of vs) (sym made)

module _ (m : EngineView) (n : ℕ) (r : IsServing m) (lt : m.extra_base + n < length m.extras) (plain : handler (store_of m.heap) (kept_value m n lt) (codes "__tostring") ≡ meant.nil) where
  -- its own text is that of the value
  pub passes_same : is_file_data m.heap (value_at m.extras (m.extra_base + n)) ≡ false → Passes n (suc n) m m
  passes_same other =
      record {
        step = λ past. pass_on m past (kept_of m) n (kept_value m n lt) (kept_value m n lt) (kept_next m n lt) (kept_so_far m n lt) (other_text m.heap (value_at m.extras (m.extra_base + n)) other) plain;
        ready = r;
        base = refl;
        long = refl;
        frames = refl;
      }

  -- the text comes to its place
  pub passes_file : (h : HeapView) (id : ℕ) → IsEngine m → Extends m.heap h → store_of h ≡ store_of m.heap → h.functions ≡ m.heap.functions → slice_get h.texts id ≡ Some (codes "FileData") → is_file_data m.heap (value_at m.extras (m.extra_base + n)) ≡ true → Passes n (suc n) m (keeping m h (set m.extras (m.extra_base + n) (Str id)))
  passes_file h id is more store functions there file =
      let new = keeping m h (set m.extras (m.extra_base + n) (Str id)) in
      let below = instead_below m n lt h is more (Str id) in
      record {
        step = λ past.
            pass_on m past (kept_of new) n (kept_value m n lt) (value_view h.texts (Str id))
            (kept_next m n lt ∙ ap (λ (vs : List meant.Value). kept_value m n lt ∷ vs) (sym (instead_left m n lt h is more (Str id))))
            (instead_taken m n lt h is more (Str id))
            (ap (λ o. unwrap_or o []) there ∙ file_text m.heap (value_at m.extras (m.extra_base + n)) file)
            plain
            ∙ sym (moved m h (set m.extras (m.extra_base + n) (Str id)) is more store functions below (λ fs r st. printing (map text_of (take (suc n) (kept_of new))) (drop (suc n) (kept_of new)) fs m.base m.cell_base r st (λ o st. finish o fs r st)) past);
        ready = keeping_serving m h (set m.extras (m.extra_base + n) (Str id)) is more store functions below r;
        base = refl;
        long = length-set m.extras (m.extra_base + n) (Str id);
        frames = refl;
      }

-- ---- by what the engine was seen as

value_is : (xs : List Value) (i : ℕ) (v : Value) → i < length xs → v ≡ get_or xs i v → v ≡ value_at xs i
value_is xs i v lt at = at ∙ sym (ap (λ o. unwrap_or o Nil) (slice_get-get_or xs i v lt))

pub file_seen : (e m : EngineView) → e ≡ m → (n : ℕ) → m.extra_base + n < length m.extras → (v : Value) → v ≡ get_or e.extras (e.extra_base + n) v → (b : Bool) → is_file_data e.heap v ≡ b → is_file_data e.heap (value_at e.extras (e.extra_base + n)) ≡ b
file_seen e m seen n lt v at b is = ap (is_file_data e.heap) (sym (value_is e.extras (e.extra_base + n) v (subst (λ (y : EngineView). y.extra_base + n < length y.extras) (sym seen) lt) at)) ∙ is

pub value_seen : (e m : EngineView) → e ≡ m → (n : ℕ) → m.extra_base + n < length m.extras → (v : Value) → v ≡ get_or e.extras (e.extra_base + n) v → v ≡ value_at m.extras (m.extra_base + n)
value_seen e m seen n lt v at = subst (λ (y : EngineView). y.extra_base + n < length y.extras → v ≡ value_at y.extras (y.extra_base + n)) seen (λ lt. value_is e.extras (e.extra_base + n) v lt at) lt

abbrev settles : EngineView → EngineView → ℕ → Type 0
settles new y n = IsServing y → y.extra_base + n < length y.extras → handler (store_of y.heap) (value_view y.heap.texts (value_at y.extras (y.extra_base + n))) (codes "__tostring") ≡ meant.nil → Passes n (suc n) y new

pub settles_file : (e m : EngineView) → e ≡ m → IsEngine e → (h : HeapView) (id : ℕ) → Extends e.heap h → store_of h ≡ store_of e.heap → h.functions ≡ e.heap.functions → slice_get h.texts id ≡ Some (codes "FileData") → (n : ℕ) → is_file_data e.heap (value_at e.extras (e.extra_base + n)) ≡ true → settles (keeping e h (set e.extras (e.extra_base + n) (Str id))) m n
settles_file e m seen is h id more store functions there n file =
    subst (λ (y : EngineView). settles (keeping e h (set e.extras (e.extra_base + n) (Str id))) y n) seen
    (λ r lt plain. passes_file e n r lt plain h id is more store functions there file)

pub settles_same : (e m : EngineView) → e ≡ m → (n : ℕ) → is_file_data e.heap (value_at e.extras (e.extra_base + n)) ≡ false → settles m m n
settles_same e m seen n other r lt plain =
    passes_same m n r lt plain (subst (λ (y : EngineView). is_file_data y.heap (value_at y.extras (y.extra_base + n)) ≡ false) seen other)

made_set : (P : Value → Type 0) (xs : List Value) (n : ℕ) (v : Value) → AllByRecursion P xs → P v → AllByRecursion P (set xs n v)
made_set P [] n v all made = tt
made_set P (x ∷ xs) zero v all made = (made, all.1)
made_set P (x ∷ xs) (suc n) v all made = (all.0, made_set P xs n v all.1 made)

pub settled_is : (e : EngineView) (h : HeapView) (at id : ℕ) → IsEngine e → Extends e.heap h → id < length h.texts → IsEngine (keeping e h (set e.extras at (Str id)))
settled_is e h at id is more made =
    let later = later_at e h e.pc more is in
    let long = length-set e.extras at (Str id) in
    let extra = is.extra in
    record {
      events = later.events;
      extra = omega (arith, extra, long);
      below = later.below;
      values = later.values;
      tail = later.tail;
      extras = made_set (IsCounted (counts h)) e.extras at (Str id) later.extras made;
      args = later.args;
      cells = later.cells;
      chunks = later.chunks;
      modules = later.modules;
    }
