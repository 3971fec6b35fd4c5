-- Calls, and what results and errors do to the frames that wait.
use Rattle.std.specs.Prelude.{ℕ, zero, suc, ◌+◌, Bool, true, false, not, List, [], ◌∷◌, ◌++◌, length, drop, map, Option, Some, None, slice_get, if◌then◌else◌, nat_lt, codes}
use Rattle.lua_tree.specs.Tree.{Bytes}
use Rattle.lua_meaning.specs.Native.{Native}
use Rattle.lua_meaning.specs.Value.{Value, nil, flag, str, func, native, first, is_true}
use Rattle.lua_meaning.specs.Text.{as_text}
use Rattle.lua_meaning.specs.Store.{Store, handler}
use Rattle.lua_meaning.specs.Message.{Ask}
use Rattle.lua_meaning.specs.World.{Module, loaded, Outcome, given, failed}
use Rattle.lua_meaning.specs.Fault.{Place, placed, call_text}
use Rattle.lua_meaning.specs.Calls.{Calls, caller}
use Rattle.lua_meaning.specs.Control.{tried, value_text, line_of, module_value}
use Rattle.lua_code.specs.Instr.{Wants, to_slot, truth_to, untruth_to, to_tail, nothing, Proto, params_of, is_vararg}
use Rattle.lua_code.specs.State.{put_values, put_all, Registers, with_tail, put_slot, Made, State, Running, Duty, tries, converts, prints, requires, guards, Frame, waits, serves, Active, lua, library, Config, End, ended, no_ticks, Errand, comes_out, Pending, Step, on, stop, asks}
use Rattle.lua_code.specs.State as state

-- ---- places

-- the place of the call that a frame waits for
abbrev pub place_of : Frame → Option Place
place_of (waits run wants at) = at
place_of (serves duty base cell_base) = None

-- the active calls
abbrev pub places : List Frame → Calls
places frames = map place_of frames

-- whether one more call may be active; the frame on top is the one that makes it
abbrev pub has_room : List Frame → Bool
has_room [] = true
has_room (f ∷ frames) = nat_lt (length frames) 4096

-- ---- calls

-- what can be called: code with its cells, or a function of the library
pub data Callee : Type 0 where
  runs : Proto → (cells : List ℕ) → Callee
  built_in : Native → Callee

abbrev pub callee_made : Option Made → Option Callee
callee_made None = None
callee_made (Some made) = Some (runs made.code made.cells)

abbrev pub callee_of : List Made → Value → Option Callee
callee_of made (func f) = callee_made (slice_get made f)
callee_of made (native f) = Some (built_in f)
callee_of made v = None

abbrev pub with_args : Option Callee → List Value → Option (Callee × List Value)
with_args None args = None
with_args (Some callee) args = Some (callee, args)

-- what a call of a value runs, and on what
abbrev pub called : List Made → Store → Value → List Value → Option (Callee × List Value)
called made s (func f) args = with_args (callee_of made (func f)) args
called made s (native f) args = with_args (callee_of made (native f)) args
called made s v args = with_args (callee_of made (handler s v (codes "__call"))) (v ∷ args)

-- with a tick less
abbrev pub ticking : ℕ → State → (State → Step) → Step
ticking zero st next = stop (no_ticks st)
ticking (suc n) st next = next (record st { ticks = n })

-- the arguments behind the parameters, where they are kept
abbrev pub extra_of : (varargs : Bool) → (params : ℕ) → List Value → List Value
extra_of true params args = drop params args
extra_of false params args = []

-- a callee's first slots are its parameters, its first cells those that it found around it
abbrev pub entry : Proto → List ℕ → List Value → (base cell_base : ℕ) → Registers → Registers
entry code cells args base cell_base r =
    record {
      slots = put_values r.slots base (params_of code) args;
      cells = put_all r.cells cell_base cells;
      tail = r.tail;
    }

abbrev pub begun : Callee → List Value → List Frame → (base cell_base : ℕ) → Registers → State →
    Config
begun (runs code cells) args frames base cell_base r st =
    record {
      active = lua (record {
        code = code;
        pc = 0;
        base = base;
        cell_base = cell_base;
        extra = extra_of (is_vararg code) (params_of code) args;
      });
      frames = frames;
      registers = entry code cells args base cell_base r;
      state = st;
    }
begun (built_in f) args frames base cell_base r st =
    record {
      active = library f args base cell_base;
      frames = frames;
      registers = r;
      state = st;
    }

-- what an error leads to
abbrev pub Raising : Type 0
Raising = Value → State → Step

-- a call takes its tick when callee and arguments are known; then the limit on active calls is tested
abbrev pub entering : Raising → Callee → List Value → List Frame → (base cell_base : ℕ) →
    Registers → State → Step
entering raising callee args frames base cell_base r st =
    ticking st.ticks st (λ st. if has_room frames
    then on (begun callee args frames base cell_base r st)
    else raising (str (placed (caller (places frames)) (codes "stack overflow"))) st)

abbrev pub entering_called : Raising → Value → Option (Callee × List Value) → List Frame →
    (base cell_base : ℕ) → Registers → State → Step
entering_called raising f None frames base cell_base r st =
    raising (str (placed (caller (places frames)) (call_text f))) st
entering_called raising f (Some c) frames base cell_base r st =
    entering raising c.0 c.1 frames base cell_base r st

-- calls a value; the frames begin with the one that waits for it, and slots and cells are free from two places on
abbrev pub calling_with : Raising → Value → List Value → List Frame → (base cell_base : ℕ) →
    Registers → State → Step
calling_with raising f args frames base cell_base r st =
    entering_called raising f (called st.functions st.store f args) frames base cell_base r st

-- ---- library functions that go on

-- what values or an error lead to
abbrev pub Out : Type 0
Out = Outcome (List Value) → State → Step

abbrev pub add_line : List ℕ → State → State
add_line line st = record st {
  output = st.output ++ line;
  ends = st.ends ++ length (st.output ++ line) ∷ [];
}

abbrev pub no_text : List Frame → Value
no_text frames =
    str (placed (caller (places frames)) (codes "'tostring' must return a string to 'print'"))

-- a value without a handler has a text of its own
abbrev pub by_text : (handler : Value) → (own : Step) → (asking : Value → Step) → Step
by_text nil own asking = own
by_text h own asking = asking h

-- the texts of values one after the other, then the line; `frames` are those of who called `print`
abbrev pub printing : (made : List Bytes) → (left : List Value) → List Frame →
    (base cell_base : ℕ) → Registers → State → Out → Step
printing made [] frames base cell_base r st out = out (given []) (add_line (line_of made) st)
printing made (v ∷ left) frames base cell_base r st out =
    by_text (handler st.store v (codes "__tostring"))
    (printing (made ++ value_text st.store v ∷ []) left frames base cell_base r st out)
    (λ h. calling_with (λ e st. out (failed e) st) h (v ∷ [])
    (serves (prints made left) base cell_base ∷ frames) base cell_base r st)

abbrev pub printed : (made : List Bytes) → (left : List Value) → Option Bytes → List Frame →
    (base cell_base : ℕ) → Registers → State → Out → Step
printed made left None frames base cell_base r st out = out (failed (no_text frames)) st
printed made left (Some text) frames base cell_base r st out =
    printing (made ++ text ∷ []) left frames base cell_base r st out

abbrev pub keep_module : Bytes → Module → State → State
keep_module name m st = record st { modules = (name, m) ∷ st.modules }

-- what a library function does with results or an error; `frames` are those of its caller
abbrev pub serving : Duty → Outcome (List Value) → List Frame → (base cell_base : ℕ) → Registers →
    State → Out → Step
serving tries o frames base cell_base r st out = out (given (tried o)) st
serving converts (given vs) frames base cell_base r st out = out (given (first vs ∷ [])) st
serving converts (failed v) frames base cell_base r st out = out (failed v) st
serving (prints made left) (given vs) frames base cell_base r st out =
    printed made left (as_text (first vs)) frames base cell_base r st out
serving (prints made left) (failed v) frames base cell_base r st out = out (failed v) st
serving (requires name) (given vs) frames base cell_base r st out =
    out (given (module_value (first vs) ∷ []))
    (keep_module name (loaded (module_value (first vs))) st)
serving (requires name) (failed v) frames base cell_base r st out = out (failed v) st
serving (guards c) o frames base cell_base r st out =
    asks (Ask.leave c) (record {
      errand = comes_out o;
      base = base;
      cell_base = cell_base;
      frames = frames;
      registers = r;
      state = st;
    })

-- ---- results and errors

-- what a frame wants of results
abbrev pub received : Wants → List Value → (base : ℕ) → Registers → Registers
received (to_slot n) vs base r = put_slot r (base + n) (first vs)
received (truth_to n) vs base r = put_slot r (base + n) (flag (is_true (first vs)))
received (untruth_to n) vs base r = put_slot r (base + n) (flag (not (is_true (first vs))))
received to_tail vs base r = with_tail r vs
received nothing vs base r = r

abbrev pub end_of : Outcome (List Value) → State → End
end_of (given vs) st = ended vs st
end_of (failed v) st = state.failed v st

-- values or an error for the frames that wait
abbrev pub finish : Outcome (List Value) → List Frame → Registers → State → Step
finish o [] r st = stop (end_of o st)
finish (given vs) (waits run wants at ∷ frames) r st =
    on (record {
      active = lua run;
      frames = frames;
      registers = received wants vs run.base r;
      state = st;
    })
finish (failed v) (waits run wants at ∷ frames) r st = finish (failed v) frames r st
finish o (serves duty base cell_base ∷ frames) r st =
    serving duty o frames base cell_base r st (λ o st. finish o frames r st)

-- an error, and a call whose errors go to the frames
abbrev pub raised : List Frame → Registers → Raising
raised frames r v st = finish (failed v) frames r st

abbrev pub calling : Value → List Value → List Frame → (base cell_base : ℕ) → Registers → State → Step
calling f args frames base cell_base r st =
    calling_with (raised frames r) f args frames base cell_base r st
