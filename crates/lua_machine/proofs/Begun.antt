-- A function of Lua that began is where the definitions' machine begins it.
use Rattle.std.proofs.Common.{◌≡◌, ℕ, ◌+◌, ◌-◌, ◌<◌, ◌≤◌, List, [], ◌∷◌, ◌++◌, length, take, drop, Bool, refl, sym, ap, ◌∙◌, subst, Option, Some, None, slice_get, arith}
use Rattle.std.specs.Prelude.{map, reverse}
use Rattle.std.proofs.lemmas.List.{take_all, take-append-le}
use Rattle.lua_tree.specs.Tree.{Bytes}
use Rattle.lua_meaning.specs.Value as meant
use Rattle.lua_machine.specs.Past.{Past}
use Rattle.lua_meaning.specs.Fault.{Place}
use Rattle.lua_heap.specs.declared.entries.Function.{Function}
use Rattle.lua_heap.specs.declared.value.Value.{Value}
use Rattle.lua_heap.specs.declared.native.Native.{Native}
use Rattle.lua_heap.specs.Native.{native_view}
use Rattle.lua_heap.specs.Value.{value_view}
use Rattle.lua_code.specs.Instr as i
use Rattle.lua_code.specs.declared.instr.Site.{Site}
use Rattle.lua_code.specs.View.{ProtoView}
use Rattle.lua_code.specs.Valid.{IsSound, cells_of, cells_at}
use Rattle.lua_code.specs.State as s
use Rattle.lua_code.specs.State.{put_values, Config, waits, lua, library}
use Rattle.lua_code.specs.Frames.{built_in, extra_of, begun}
use Rattle.lua_code.specs.Act.{next, at_line}
use Rattle.lua_machine.specs.declared.arguments.Behind.{Behind}
use Rattle.lua_machine.specs.declared.frame.Wants.{Wants}
use Rattle.lua_machine.specs.declared.frame.Frame.{Frame}
use Rattle.lua_machine.specs.declared.chunk.Chunk.{Chunk}
use Rattle.lua_machine.specs.View.{EngineView, cell_at, slots_view, protos_at, proto_at, no_proto, code_of, wants_view, line_at, line_of, place_of, kept_in, frame_in, frames_below, frames_of, registers_of, run_of, state_of, config_of, serving_config}
use Rattle.lua_machine.specs.Made.{AreBelow, IsEngine}
use Rattle.lua_machine.specs.Frames.{waiting, pushed}
use Rattle.lua_machine.specs.Ready.{IsWaiting, IsCode, AreFit, IsServing, IsReady}
use Rattle.lua_machine.specs.Does.{site_or, site_at}
use Rattle.lua_machine.specs.Arguments.{args_at}
use Rattle.lua_machine.specs.Callees.{callee_for}
use Rattle.lua_machine.specs.Entering.{proto_for, CanCall, CanBegin, free_cells, called, begun_with, HasBegun}
use Rattle.lua_machine.specs.Calling.{calling_frames}
use Rattle.lua_machine.proofs.Keeping.{get_in, weaker, waiting_more, sound_at}
use Rattle.lua_machine.proofs.Fetching.{code_is}
use Rattle.lua_machine.proofs.Loads.{all_last}
use Rattle.lua_machine.proofs.Waiting.{pushed_frames}

-- ---- lists

drop_front : {A : Type 0} (xs ys : List A) → drop (length xs) (xs ++ ys) ≡ ys
drop_front [] ys = refl
drop_front (x ∷ xs) ys = drop_front xs ys

all_taken : {A : Type 0} (xs : List A) → take (length xs) xs ≡ xs
all_taken xs = take_all (length xs) xs (omega arith)

-- ---- sites

site_line : (o : Option Site) → line_at o ≡ (site_or o).line
site_line None = refl
site_line (Some s) = refl

pub site_cells : (o : Option Site) → cells_of o ≡ (site_or o).cells
site_cells None = refl
site_cells (Some s) = refl

-- the place of the call that is made
pub waiting_place : (m : EngineView) (wants : Wants) → m.proto ≡ proto_at m.chunks m.chunk m.func → Some (place_of m.chunks (waiting m wants)) ≡ at_line (run_of m) (site_at m.proto m.pc)
waiting_place m wants proto =
    ap (λ (p : ProtoView). at (line_of p (m.pc + 1))) (sym proto)
    ∙ ap (λ n. at (line_at (slice_get m.proto.sites n))) (let e : m.pc + 1 - 1 ≡ m.pc = omega arith in e)
    ∙ ap at (site_line (slice_get m.proto.sites m.pc))
  where
    at : ℕ → Option Place
    at line = Some (record { file = i.file_of (code_of m.chunks m.chunk m.func); line = line })

-- ---- frames over more extra arguments

pub same_below : (texts : List Bytes) (chunks : List Chunk) (extras extra : List Value) (top : ℕ) (fs : List Frame) → top ≤ length extras → AreBelow top fs → frames_below texts chunks (extras ++ extra) top fs ≡ frames_below texts chunks extras top fs
same_below texts chunks extras extra top [] le below = refl
same_below texts chunks extras extra top (f ∷ fs) le below =
    ap (λ (xs : List Value). frame_in chunks (map (value_view texts) (drop f.extra_base xs)) f ∷ frames_below texts chunks (extras ++ extra) f.extra_base fs) (take-append-le top extras extra le)
    ∙ ap (λ (rest : List s.Frame). frame_in chunks (kept_in texts extras f.extra_base top) f ∷ rest) (same_below texts chunks extras extra f.extra_base fs (let b = below.0 in omega (arith, le, b)) below.1)

-- the frames of a call
pub calling_is : (m : EngineView) (wants : Wants) → m.proto ≡ proto_at m.chunks m.chunk m.func → frames_of (pushed m wants) ≡ calling_frames wants m
calling_is m wants proto =
    pushed_frames m wants
    ∙ ap (λ (o : Option Place). waits (next (run_of m)) (wants_view wants) o ∷ frames_of m) (waiting_place m wants proto)

-- where the function that makes the call waits
waits_here : (m : EngineView) (wants : Wants) (first count : ℕ) → CanCall wants first count m → IsWaiting m.chunks (length m.values) (length m.cells) (waiting m wants)
waits_here m wants first count r =
    let inside = subst (λ (q : ProtoView). m.pc + 1 < length q.instrs) r.ready.proto r.leads.inside in
    let height = subst (λ (q : ProtoView). cells_at q (m.pc + 1) ≤ cells_at q m.pc) r.ready.proto r.leads.height in
    let there = r.ready.placed.height in
    record {
      placed = record { known = r.ready.placed.known; inside = inside; room = r.ready.placed.room; height = omega (arith, there, height) };
      wants = r.fits;
    }

-- ---- the running function waits

module _ (m : EngineView) (wants : Wants) (first count : ℕ) (r : CanCall wants first count m) where
  pub pushed_fit : AreFit (pushed m wants)
  pushed_fit =
      record {
        frames = all_last (IsWaiting m.chunks (length m.values) (length m.cells)) m.frames (waiting m wants) r.ready.fit.frames (waits_here m wants first count r);
        functions = r.ready.fit.functions;
        chunks = r.ready.fit.chunks;
      }

  pub cells_there : free_cells m ≤ length m.cells
  cells_there = subst (λ (q : ProtoView). m.cell_base + cells_at q m.pc ≤ length m.cells) (sym r.ready.proto) r.ready.placed.height

  pub can_begin : CanBegin first (free_cells m) count (pushed m wants)
  can_begin = record { fit = pushed_fit; top = refl; slots = r.slots; cells = cells_there }

  -- a function of the library is to run
  abbrev serves : (past : Past) → Native → List s.Frame → List meant.Value → Config
  serves past f frames args = record { active = library (native_view f) args first (free_cells m); frames = frames; registers = registers_of m; state = state_of past m }

  pub called_config : (f : Native) (args : List Value) (meant_args : List meant.Value) (new : EngineView) → new ≡ called wants first args m → map (value_view m.heap.texts) args ≡ meant_args → (past : Past) → serving_config f past new ≡ begun (built_in (native_view f)) meant_args (calling_frames wants m) first (free_cells m) (registers_of m) (state_of past m)
  called_config f args meant_args new is same past =
      ap (λ (y : EngineView). serving_config f past y) is
      ∙ ap (λ (frames : List s.Frame). serves past f frames (map (value_view m.heap.texts) args)) (calling_is m wants r.ready.proto)
      ∙ ap (λ (vs : List meant.Value). serves past f (calling_frames wants m) vs) same

  pub called_serving : (args : List Value) (new : EngineView) → new ≡ called wants first args m → IsServing new
  called_serving args new is =
      let fit = pushed_fit in
      let slots = r.slots in
      subst IsServing (sym is)
      (record {
        fit = record { frames = fit.frames; functions = fit.functions; chunks = fit.chunks };
        slots = omega (arith, slots);
        cells = cells_there;
      })

-- ---- the function that began

module _ (m : EngineView) (fun : Function) (first cell_base count : ℕ) (behind : Behind) (r : CanBegin first cell_base count m) (f : IsCode m.chunks fun) where
  abbrev p : ProtoView
  p = proto_for m fun

  abbrev code : i.Proto
  code = code_of m.chunks fun.code fun.proto

  sound : IsSound (protos_at m.chunks fun.code) fun.proto p
  sound = sound_at m fun.code fun.proto r.fit f.func

  here : slice_get (protos_at m.chunks fun.code) fun.proto ≡ Some p
  here = get_in (protos_at m.chunks fun.code) fun.proto no_proto f.func

  params_are : p.params ≡ i.params_of code
  params_are = ap i.params_of (sym (code_is (protos_at m.chunks fun.code) fun.proto p here))

  varargs_are : p.varargs ≡ i.is_vararg code
  varargs_are = ap i.is_vararg (sym (code_is (protos_at m.chunks fun.code) fun.proto p here))

  -- slots for its parameters
  pub params_fit : p.params ≤ p.size
  params_fit = sound.held.params

  abbrev begins : Past → List s.Frame → (ℕ → meant.Value) → (ℕ → ℕ) → List meant.Value → Config
  begins past frames slots cells extra =
      record {
        active = lua (record { code = code; pc = 0; base = first; cell_base = cell_base; extra = extra });
        frames = frames;
        registers = record { slots = slots; cells = cells; tail = map (value_view m.heap.texts) m.tail };
        state = state_of past m;
      }

  module _ (is : IsEngine m) (new : EngineView) (e : HasBegun fun first cell_base count behind m new) where
    abbrev x : EngineView
    x = begun_with fun first cell_base e.values e.cells e.extra m

    own_extra : kept_in m.heap.texts (m.extras ++ e.extra) m.extra_base (length (m.extras ++ e.extra)) ≡ extra_of (i.is_vararg code) (i.params_of code) (args_at m first count behind)
    own_extra =
        ap (λ n. map (value_view m.heap.texts) (drop n (take (length (m.extras ++ e.extra)) (m.extras ++ e.extra)))) r.top
        ∙ ap (λ (xs : List Value). map (value_view m.heap.texts) (drop (length m.extras) xs)) (all_taken (m.extras ++ e.extra))
        ∙ ap (map (value_view m.heap.texts)) (drop_front m.extras e.extra)
        ∙ e.extra_is
        ∙ ap (λ (b : Bool). extra_of b p.params (args_at m first count behind)) varargs_are
        ∙ ap (λ (n : ℕ). extra_of (i.is_vararg code) n (args_at m first count behind)) params_are

    slots_begin : slots_view m.heap.texts e.values ≡ put_values (slots_view m.heap.texts m.values) first (i.params_of code) (args_at m first count behind)
    slots_begin = e.slots_are ∙ ap (λ n. put_values (slots_view m.heap.texts m.values) first n (args_at m first count behind)) params_are

    pub begun_config : (past : Past) → config_of past new ≡ begun (callee_for m fun) (args_at m first count behind) (frames_of m) first cell_base (registers_of m) (state_of past m)
    begun_config past =
        ap (λ (y : EngineView). config_of past y) e.is
        ∙ ap (λ (vs : List meant.Value). begins past (frames_of x) (slots_view m.heap.texts e.values) (cell_at e.cells) vs) own_extra
        ∙ ap (λ (fs : List s.Frame). begins past fs (slots_view m.heap.texts e.values) (cell_at e.cells) extra_then) (same_below m.heap.texts m.chunks m.extras e.extra m.extra_base (reverse m.frames) is.extra is.below)
        ∙ ap (λ (slots : ℕ → meant.Value). begins past (frames_of m) slots (cell_at e.cells) extra_then) slots_begin
        ∙ ap (λ (cells : ℕ → ℕ). begins past (frames_of m) (put_values (slots_view m.heap.texts m.values) first (i.params_of code) (args_at m first count behind)) cells extra_then) e.cells_are
      where
        extra_then : List meant.Value
        extra_then = extra_of (i.is_vararg code) (i.params_of code) (args_at m first count behind)

    pub begun_ready : IsReady new
    begun_ready =
        let begin = sound.begins.height in
        let high = e.height in
        let cells = f.cells in
        subst IsReady (sym e.is)
        (record {
          placed = record { known = f.func; inside = sound.begins.inside; room = e.room; height = omega (arith, begin, high, cells) };
          proto = refl;
          fit = record {
            frames = weaker (IsWaiting m.chunks (length m.values) (length m.cells)) (IsWaiting m.chunks (length e.values) (length e.cells)) m.frames
                (waiting_more m.chunks (length m.values) (length e.values) (length m.cells) (length e.cells) e.longer e.taller) r.fit.frames;
            functions = r.fit.functions;
            chunks = r.fit.chunks;
          };
        })
