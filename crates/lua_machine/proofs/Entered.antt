-- A function began: its slots, cells and extra arguments are those of the definitions.
use Rattle.std.proofs.Common.{◌≡◌, ℕ, ◌+◌, ◌-◌, ◌<◌, ◌≤◌, List, ◌++◌, length, take, drop, Bool, true, false, refl, sym, ap, ◌∙◌, subst, arith}
use Rattle.std.specs.Prelude.{map}
use Rattle.std.specs.List.{AllByRecursion}
use Rattle.std.proofs.lemmas.List.{map-append, drop-map}
use Rattle.lua_meaning.specs.Value as meant
use Rattle.lua_heap.specs.declared.entries.Function.{Function}
use Rattle.lua_heap.specs.declared.value.Value.{Value}
use Rattle.lua_heap.specs.Value.{value_view}
use Rattle.lua_heap.specs.Heap.{function_at}
use Rattle.lua_code.specs.View.{ProtoView}
use Rattle.lua_code.specs.State.{put_values}
use Rattle.lua_code.specs.Frames.{extra_of}
use Rattle.lua_machine.specs.declared.arguments.Behind.{Behind}
use Rattle.lua_machine.specs.View.{EngineView, slots_view}
use Rattle.lua_machine.specs.Ready.{IsCode, AreFit}
use Rattle.lua_machine.specs.Arguments.{filled, all_put, behind_of, given, extra_given, args_at}
use Rattle.lua_machine.specs.Entering.{HasGrown, HasFunction, proto_for, CanBegin, begun_at, begun_with, HasBegun}
use Rattle.lua_machine.proofs.Keeping.{all_in, get_in}
use Rattle.lua_machine.proofs.Leaving.{row_taken}
use Rattle.lua_machine.proofs.InSlots.{filled_long, slots_filled, in_place, all_put_long, all_put_view}
use Rattle.lua_machine.proofs.Begun.{params_fit}

-- ---- arguments

pub given_view : (m : EngineView) (first count : ℕ) (behind : Behind) → first + count ≤ length m.values → map (value_view m.heap.texts) (given m first count behind) ≡ args_at m first count behind
given_view m first count behind le =
    map-append (value_view m.heap.texts) (take (first + count - first) (drop first m.values)) (behind_of behind m)
    ∙ ap (λ k. map (value_view m.heap.texts) (take k (drop first m.values)) ++ map (value_view m.heap.texts) (behind_of behind m)) (let e : first + count - first ≡ count = omega arith in e)
    ∙ ap (λ (vs : List meant.Value). vs ++ map (value_view m.heap.texts) (behind_of behind m)) (row_taken m.heap.texts m.values first count le)

extra_view : (m : EngineView) (varargs : Bool) (params first count : ℕ) (behind : Behind) → first + count ≤ length m.values → map (value_view m.heap.texts) (extra_given varargs params (given m first count behind)) ≡ extra_of varargs params (args_at m first count behind)
extra_view m true params first count behind le =
    sym (drop-map (value_view m.heap.texts) params (given m first count behind)) ∙ ap (λ (vs : List meant.Value). drop params vs) (given_view m first count behind le)
extra_view m false params first count behind le = refl

-- ---- a function of the heap

function_in : (m : EngineView) (id : ℕ) → AllByRecursion (IsCode m.chunks) m.heap.functions → id < length m.heap.functions → IsCode m.chunks (function_at m.heap id)
function_in m id all lt = all_in (IsCode m.chunks) m.heap.functions id (function_at m.heap id) (get_in m.heap.functions id _ lt) all

pub has_function : (m : EngineView) (id : ℕ) → AreFit m → id < length m.heap.functions → HasFunction m id
has_function m id fit lt = record { made = lt; code = function_in m id fit.functions lt }

-- ---- what is called began

module _ (m : EngineView) (fun : Function) (first cell_base count : ℕ) (behind : Behind) (r : CanBegin first cell_base count m) (f : IsCode m.chunks fun) where
  abbrev p : ProtoView
  p = proto_for m fun

  abbrev extra : List Value
  extra = extra_given p.varargs p.params (given m first count behind)

  abbrev kept : EngineView
  kept = record m { extras = m.extras ++ extra }

  abbrev cells : List ℕ
  cells = all_put m.cells cell_base fun.cells

  -- slots for the parameters that have no argument in their place
  pub fill_fits : (grown : EngineView) (g : HasGrown (first + p.size) kept grown) → first + count + (p.params - count) ≤ length g.values
  fill_fits grown g =
      let fit = params_fit m fun first cell_base count behind r f in
      let long = g.long in
      let longer = g.longer in
      let slots = r.slots in
      omega (arith, fit, long, longer, slots)

  module _ (grown new : EngineView) (g : HasGrown (first + p.size) kept grown) where
    abbrev values : List Value
    values = filled g.values (first + count) (p.params - count) (behind_of behind m)

    pub begun_so : new ≡ begun_with fun first cell_base values cells extra m → HasBegun fun first cell_base count behind m new
    begun_so is =
        let long = filled_long g.values (first + count) (p.params - count) (behind_of behind m) in
        let room = g.long in
        let longer = g.longer in
        let put = all_put_long m.cells cell_base fun.cells r.cells in
        record {
          values = values;
          cells = cells;
          extra = extra;
          is = is;
          slots_are =
              slots_filled m.heap.texts g.values (first + count) (p.params - count) (behind_of behind m) (fill_fits grown g)
              ∙ ap (λ (s : ℕ → meant.Value). put_values s (first + count) (p.params - count) (map (value_view m.heap.texts) (behind_of behind m))) g.same
              ∙ sym (in_place (slots_view m.heap.texts m.values) first count p.params (map (value_view m.heap.texts) (behind_of behind m)));
          cells_are = all_put_view m.cells cell_base fun.cells r.cells;
          extra_is = extra_view m p.varargs p.params first count behind r.slots;
          room = omega (arith, long, room);
          longer = omega (arith, long, longer);
          height = put.1;
          taller = put.0;
        }

-- room was made behind its extra arguments
pub grown_by : (m k g : EngineView) (id first cell_base count params size : ℕ) (varargs : Bool) (behind : Behind) (r : CanBegin first cell_base count m) (f : HasFunction m id) → varargs ≡ (proto_for m (function_at m.heap id)).varargs → params ≡ (proto_for m (function_at m.heap id)).params → size ≡ (proto_for m (function_at m.heap id)).size → k ≡ record m { extras = m.extras ++ extra_given varargs params (given m first count behind) } → HasGrown (first + size) k g → HasGrown (first + (proto_for m (function_at m.heap id)).size) (kept m (function_at m.heap id) first cell_base count behind r f.code) g
grown_by m k g id first cell_base count params size varargs behind r f is_varargs is_params is_size keep grow =
    let fun = function_at m.heap id in
    let kept_is : k ≡ kept m fun first cell_base count behind r f.code =
    keep
    ∙ ap (λ (b : Bool). record m { extras = m.extras ++ extra_given b params (given m first count behind) }) is_varargs
    ∙ ap (λ (n : ℕ). record m { extras = m.extras ++ extra_given (proto_for m fun).varargs n (given m first count behind) }) is_params in
    subst (λ (y : EngineView). HasGrown (first + (proto_for m fun).size) y g) kept_is (subst (λ n. HasGrown (first + n) k g) is_size grow)

-- by the steps in which it begins
pub begun_by : (m k g x c new : EngineView) (id first cell_base count params size : ℕ) (varargs : Bool) (behind : Behind) → CanBegin first cell_base count m → HasFunction m id → varargs ≡ (proto_for m (function_at m.heap id)).varargs → params ≡ (proto_for m (function_at m.heap id)).params → size ≡ (proto_for m (function_at m.heap id)).size → k ≡ record m { extras = m.extras ++ extra_given varargs params (given m first count behind) } → HasGrown (first + size) k g → x ≡ record g { values = filled g.values (first + count) (params - count) (behind_of behind g) } → c ≡ record x { cells = all_put x.cells cell_base (function_at x.heap id).cells } → new ≡ begun_at c (function_at c.heap id) first cell_base → HasBegun (function_at m.heap id) first cell_base count behind m new
begun_by m k g x c new id first cell_base count params size varargs behind r f is_varargs is_params is_size keep grow fill put begin =
    let fun = function_at m.heap id in
    let grown = grown_by m k g id first cell_base count params size varargs behind r f is_varargs is_params is_size keep grow in
    begun_so m fun first cell_base count behind r f.code g new grown
    (begin
    ∙ ap (λ (y : EngineView). begun_at y (function_at y.heap id) first cell_base) (put
    ∙ ap (λ (y : EngineView). record y { cells = all_put y.cells cell_base (function_at y.heap id).cells }) (fill
    ∙ ap (λ (n : ℕ). record g { values = filled g.values (first + count) (n - count) (behind_of behind g) }) is_params
    ∙ ap (λ (y : EngineView). record y { values = filled y.values (first + count) ((proto_for m fun).params - count) (behind_of behind y) }) grown.is)))
