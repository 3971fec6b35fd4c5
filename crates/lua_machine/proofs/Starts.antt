-- The beginning of a chunk.
use Rattle.std.proofs.Common.{◌≡◌, ℕ, zero, suc, ◌-◌, ◌<◌, List, [], ◌∷◌, length, Bool, true, false, replicate, refl, sym, ap, ◌∙◌, subst, slice_get, get_or, take, arith}
use Rattle.std.specs.Prelude.{◌==◌, if◌then◌else◌, map, unwrap_or}
use Rattle.std.specs.List.{AllByRecursion}
use Rattle.lua_tree.specs.Tree.{Bytes}
use Rattle.lua_meaning.specs.Value as meant
use Rattle.lua_meaning.specs.Store.{Store}
use Rattle.lua_meaning.specs.Run.{first_store}
use Rattle.lua_heap.specs.declared.entries.Function.{Function}
use Rattle.lua_heap.specs.declared.value.Value.{Value}
use Rattle.lua_heap.specs.declared.value.Value.TheVariants.{Nil}
use Rattle.lua_heap.specs.Value.{value_view}
use Rattle.lua_heap.specs.Heap.{HeapView, store_of, Extends}
use Rattle.lua_code.specs.Instr as i
use Rattle.lua_code.specs.View.{ProtoView, code_at}
use Rattle.lua_code.specs.Valid.{IsSound, captures_of}
use Rattle.lua_code.specs.State.{put, put_values, Made, Config, lua}
use Rattle.lua_code.specs.Frames.{runs, extra_of, begun}
use Rattle.lua_code.specs.Follows.{no_registers}
use Rattle.lua_code.specs.Trees.{chunk_of}
use Rattle.lua_machine.specs.Past.{no_past}
use Rattle.lua_operators.specs.declared.events.Events.{Events}
use Rattle.lua_operators.specs.Events.{AreEvents}
use Rattle.lua_machine.specs.declared.frame.Frame.{Frame}
use Rattle.lua_machine.specs.declared.chunk.Chunk.{Chunk}
use Rattle.lua_machine.specs.declared.module.Module.{Module}
use Rattle.lua_machine.specs.View.{EngineView, value_at, slots_view, proto_at, no_proto, made_view, config_of}
use Rattle.lua_machine.specs.Made.{AreMade, IsMadeChunk, IsEngine}
use Rattle.lua_machine.specs.Ready.{IsCode, IsLoaded, AreFit, IsReady}
use Rattle.lua_machine.specs.Starting.{TakesAll, first_config, Begins}
use Rattle.lua_machine.proofs.Keeping.{get_in, sound_at, loaded_later}
use Rattle.lua_machine.proofs.Doing.{later_at}

-- ---- slots that are nil

nil_at : (n k : ℕ) → value_at (replicate n Nil) k ≡ Nil
nil_at zero k = refl
nil_at (suc n) zero = refl
nil_at (suc n) (suc k) = nil_at n k

abbrev all_nil : ℕ → meant.Value
all_nil k = meant.nil

slots_nil : (texts : List Bytes) (n : ℕ) → slots_view texts (replicate n Nil) ≡ all_nil
slots_nil texts n = λ i k. value_view texts (nil_at n k i)

all_of : (xs : List Value) → take (length xs) xs ≡ xs
all_of [] = refl
all_of (x ∷ xs) = ap (λ (ys : List Value). x ∷ ys) (all_of xs)

-- ---- the engine

abbrev pub first_engine : HeapView → Events → Chunk → List Value → (extras : List Value) → (func : ℕ) → ProtoView → (ticks : ℕ) → EngineView
first_engine heap events chunk values extras func proto ticks =
    record {
      heap = heap;
      events = events;
      chunks = chunk ∷ [];
      proto = proto;
      values = values;
      cells = [];
      tail = [];
      extras = extras;
      args = [];
      frames = [];
      modules = [];
      chunk = 0;
      func = func;
      pc = 0;
      base = 0;
      cell_base = 0;
      extra_base = 0;
      ticks = ticks;
    }

-- the engine that was made, by its lists
pub first_same : (heap : HeapView) (events : Events) (chunk : Chunk) (func : ℕ) (proto : ProtoView) (ticks n : ℕ) (extras : List Value) (chunks : List Chunk) (values : List Value) (cells : List ℕ) (tail args : List Value) (frames : List Frame) (modules : List Module) → chunks ≡ chunk ∷ [] → values ≡ replicate n Nil → cells ≡ [] → tail ≡ [] → args ≡ [] → frames ≡ [] → modules ≡ []
    → record {
      heap = heap;
      events = events;
      chunks = chunks;
      proto = proto;
      values = values;
      cells = cells;
      tail = tail;
      extras = extras;
      args = args;
      frames = frames;
      modules = modules;
      chunk = 0;
      func = func;
      pc = 0;
      base = 0;
      cell_base = 0;
      extra_base = 0;
      ticks = ticks;
    } ≡ first_engine heap events chunk (replicate n Nil) extras func proto ticks
first_same heap events chunk func proto ticks n extras chunks values cells tail args frames modules a b d e g h j = λ i. record {
  heap = heap;
  events = events;
  chunks = a i;
  proto = proto;
  values = b i;
  cells = d i;
  tail = e i;
  extras = extras;
  args = g i;
  frames = h i;
  modules = j i;
  chunk = 0;
  func = func;
  pc = 0;
  base = 0;
  cell_base = 0;
  extra_base = 0;
  ticks = ticks;
}

nils_made : (h : HeapView) (n : ℕ) → AreMade h (replicate n Nil)
nils_made h zero = tt
nils_made h (suc n) = (tt, nils_made h n)

-- what was made before the arguments came is there
pub first_made : (before heap : HeapView) (events : Events) (chunk : Chunk) (n : ℕ) (extras : List Value) (func : ℕ) (proto : ProtoView) (ticks : ℕ) → Extends before heap → AreEvents before.texts events → IsMadeChunk before chunk → AreMade heap extras → IsEngine (first_engine heap events chunk (replicate n Nil) extras func proto ticks)
first_made before heap events chunk n extras func proto ticks more named made all =
    let first : EngineView = first_engine before events chunk (replicate n Nil) [] func proto ticks in
    let is : IsEngine first = record {
      events = named;
      extra = omega arith;
      below = tt;
      values = nils_made before n;
      tail = tt;
      extras = tt;
      args = tt;
      cells = tt;
      chunks = (made, tt);
      modules = tt;
    } in
    let later = later_at first heap first.pc more is in
    record {
      events = later.events;
      extra = omega arith;
      below = tt;
      values = nils_made heap n;
      tail = tt;
      extras = all;
      args = tt;
      cells = tt;
      chunks = later.chunks;
      modules = tt;
    }

pub loaded_now : (before heap : HeapView) (chunk : Chunk) → Extends before heap → IsMadeChunk before chunk → IsLoaded before.texts chunk → IsLoaded heap.texts chunk
loaded_now before heap chunk more made loaded = (loaded_later before heap more (chunk ∷ []) (made, tt) (loaded, tt)).0

module _ (heap : HeapView) (events : Events) (chunk : Chunk) (n : ℕ) (extras : List Value) (func ticks : ℕ) (proto : ProtoView) (loaded : IsLoaded heap.texts chunk) (none : heap.functions ≡ []) (last : func ≡ length chunk.code.now - 1) (is : proto ≡ proto_at (chunk ∷ []) 0 func) where
  abbrev m : EngineView
  m = first_engine heap events chunk (replicate n Nil) extras func proto ticks

  fit : AreFit m
  fit = record { frames = tt; functions = subst (AllByRecursion (IsCode (chunk ∷ []))) (sym none) tt; chunks = (loaded, tt) }

  known : func < length chunk.code.now
  known = let main = loaded.valid.main in omega (arith, main, last)

  sound : IsSound chunk.code.now func (proto_at (chunk ∷ []) 0 func)
  sound = sound_at m 0 func fit known

  no_captures : (proto_at (chunk ∷ []) 0 func).captures ≡ []
  no_captures =
      ap captures_of (sym (get_in chunk.code.now func no_proto known))
      ∙ ap (λ k. captures_of (slice_get chunk.code.now k)) last
      ∙ loaded.valid.holds_none

  pub first_ready : proto.size ≡ n → IsReady m
  first_ready size =
      let room : (proto_at (chunk ∷ []) 0 func).size ≡ n = ap (λ (p : ProtoView). p.size) (sym is) ∙ size in
      let long = length-replicate n in
      let height = sound.begins.height in
      let none : length (proto_at (chunk ∷ []) 0 func).captures ≡ 0 = ap (λ (cs : List ℕ). length cs) no_captures in
      record {
        placed = record {
          known = known;
          inside = sound.begins.inside;
          room = omega (arith, room, long);
          height = omega (arith, height, none);
        };
        proto = is;
        fit = fit;
      }
    where
      length-replicate : (n : ℕ) → length (replicate n Nil) ≡ n
      length-replicate zero = refl
      length-replicate (suc n) = ap suc (length-replicate n)

  pub first_begins : (values : List meant.Value) (store : Store) → map (value_view heap.texts) extras ≡ values → store_of heap ≡ store → TakesAll (chunk_of chunk.code.now) → config_of no_past m ≡ first_config (chunk_of chunk.code.now) (values, store) ticks
  first_begins values store given made takes =
      ap (λ (slots : ℕ → meant.Value). config (code_at chunk.code.now func) slots (map (value_view heap.texts) (take (length extras) extras)) (store_of heap) (map (made_view (chunk ∷ [])) heap.functions)) (slots_nil heap.texts n)
      ∙ ap (λ (vs : List Value). config (code_at chunk.code.now func) all_nil (map (value_view heap.texts) vs) (store_of heap) (map (made_view (chunk ∷ [])) heap.functions)) (all_of extras)
      ∙ ap (λ (vs : List meant.Value). config (code_at chunk.code.now func) all_nil vs (store_of heap) (map (made_view (chunk ∷ [])) heap.functions)) given
      ∙ ap (λ (s : Store). config (code_at chunk.code.now func) all_nil values s (map (made_view (chunk ∷ [])) heap.functions)) made
      ∙ ap (λ (fs : List Function). config (code_at chunk.code.now func) all_nil values store (map (made_view (chunk ∷ [])) fs)) none
      ∙ ap (λ k. config (code_at chunk.code.now k) all_nil values store []) last
      ∙ sym (ap (λ p. config (chunk_of chunk.code.now) (put_values all_nil 0 p values) (extra_of (i.is_vararg (chunk_of chunk.code.now)) p values) store []) takes.params
      ∙ ap (λ v. config (chunk_of chunk.code.now) all_nil (extra_of v 0 values) store []) takes.varargs)
    where
      config : i.Proto → (ℕ → meant.Value) → List meant.Value → Store → List Made → Config
      config code slots extra s made = record {
        active = lua (record { code = code; pc = 0; base = 0; cell_base = 0; extra = extra });
        frames = [];
        registers = record { slots = slots; cells = λ n. 0; tail = [] };
        state = record { store = s; functions = made; modules = []; output = []; ends = []; ticks = ticks; asks = [] };
      }

-- an item of a list that has it
pub read_is : (ps : List ProtoView) (n : ℕ) (p : ProtoView) → n < length ps → get_or ps n p ≡ unwrap_or (slice_get ps n) no_proto
read_is [] n p lt = absurd (let e : ⊥ = omega (arith, lt) in e)
read_is (q ∷ ps) zero p lt = refl
read_is (q ∷ ps) (suc n) p lt = read_is ps n p (omega (arith, lt))
