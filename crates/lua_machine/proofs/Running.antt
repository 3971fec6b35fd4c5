-- The loop over steps.
use Rattle.std.proofs.Common.{◌≡◌, ℕ, zero, suc, ◌+◌, ◌<◌, List, [], ◌∷◌, ◌++◌, length, ap, ◌∙◌, subst, arith}
use Rattle.std.specs.Prelude.{map, reverse}
use Rattle.std.specs.List.{AllByRecursion}
use Rattle.lua_meaning.specs.Value as meant
use Rattle.lua_machine.specs.Past.{Past, no_past}
use Rattle.lua_heap.specs.declared.entries.Function.{Function}
use Rattle.lua_heap.specs.declared.native.Native.{Native}
use Rattle.lua_code.specs.Instr as i
use Rattle.lua_code.specs.Sound.{IsSoundCode, IsFrame, AreFrames, AreMade, IsSoundProgram, IsKept, KeptBelow, weight}
use Rattle.lua_code.specs.State.{Config, Step, on, stop, asks}
use Rattle.lua_code.specs.Natives.{Program}
use Rattle.lua_code.specs.Act.{act}
use Rattle.lua_code.proofs.Trees.{all_sound}
use Rattle.lua_code.proofs.Stepping.{keeping}
use Rattle.lua_machine.specs.declared.status.Status.{Status}
use Rattle.lua_machine.specs.declared.status.Turn.{Turn}
use Rattle.lua_machine.specs.declared.status.Turn.TheVariants as turns
use Rattle.lua_machine.specs.declared.status.Turn.TheVariants.{Goes, Pauses}
use Rattle.lua_machine.specs.declared.status.Pause.{Pause}
use Rattle.lua_machine.specs.declared.frame.Role.{Role}
use Rattle.lua_machine.specs.declared.frame.Role.TheVariants.{Waits, Serves}
use Rattle.lua_machine.specs.declared.frame.Frame.{Frame}
use Rattle.lua_machine.specs.View.{EngineView, protos_at, proto_at, no_proto, code_of, kept_in, frame_as, frames_below, made_view, config_of, serving_config}
use Rattle.lua_machine.specs.Ready.{IsPlaced, IsWaitingAs, IsWaiting, IsCode, AreFit, IsReady}
use Rattle.lua_machine.specs.Does.{step_as}
use Rattle.lua_machine.specs.Serving.{Served}
use Rattle.lua_machine.specs.Runs.{Steps, turn_as, IsKeptTurn, Lands, stepped, Runs}
use Rattle.lua_machine.proofs.Keeping.{get_in, valid_in, sound_at, all_reversed}
use Rattle.lua_machine.proofs.Fetching.{code_length}

-- ---- a ready engine is a machine of the definitions that is kept

module _ (m : EngineView) (fit : AreFit m) where
  code_sound : (chunk func : ℕ) → func < length (protos_at m.chunks chunk) → IsSoundCode (code_of m.chunks chunk func)
  code_sound chunk func known = all_sound (protos_at m.chunks chunk) (valid_in m.heap.texts m.chunks chunk func fit.chunks known) func known

  code_inside : (slots cells chunk func pc base cell_base : ℕ) → IsPlaced m.chunks slots cells chunk func pc base cell_base → pc < length (i.code_of (code_of m.chunks chunk func))
  code_inside slots cells chunk func pc base cell_base placed =
      let inside = placed.inside in
      let long = code_length (protos_at m.chunks chunk) func (proto_at m.chunks chunk func) (get_in (protos_at m.chunks chunk) func no_proto placed.known) (sound_at m chunk func fit placed.known).held.sites in
      omega (arith, inside, long)

  frame_kept : (slots cells : ℕ) (kept : List meant.Value) (f : Frame) (role : Role) → IsWaitingAs role m.chunks slots cells f → IsFrame (frame_as role m.chunks kept f)
  frame_kept slots cells kept f (Waits wants) w =
      record {
        sound = code_sound f.chunk f.func w.placed.known;
        inside = code_inside slots cells f.chunk f.func f.pc f.base f.cell_base w.placed;
      }
  frame_kept slots cells kept f (Serves duty) w = tt

  frames_kept : (slots cells top : ℕ) (fs : List Frame) → AllByRecursion (IsWaiting m.chunks slots cells) fs → AreFrames (frames_below m.heap.texts m.chunks m.extras top fs)
  frames_kept slots cells top [] all = tt
  frames_kept slots cells top (f ∷ fs) all = (
    frame_kept slots cells (kept_in m.heap.texts m.extras f.extra_base top) f f.role all.0,
    frames_kept slots cells f.extra_base fs all.1,
  )

  made_kept : (fs : List Function) → AllByRecursion (IsCode m.chunks) fs → AreMade (map (made_view m.chunks) fs)
  made_kept [] all = tt
  made_kept (f ∷ fs) all = (code_sound f.code f.proto all.0.func, made_kept fs all.1)

ready_kept : (m : EngineView) (past : Past) → IsReady m → IsKept (config_of past m)
ready_kept m past r =
    record {
      active = record {
        sound = code_sound m r.fit m.chunk m.func r.placed.known;
        inside = code_inside m r.fit (length m.values) (length m.cells) m.chunk m.func m.pc m.base m.cell_base r.placed;
      };
      frames = frames_kept m r.fit (length m.values) (length m.cells) m.extra_base (reverse m.frames) (all_reversed (IsWaiting m.chunks (length m.values) (length m.cells)) m.frames r.fit.frames);
      made = made_kept m r.fit m.heap.functions r.fit.functions;
    }

-- so it is where a function of the library was called
serving_kept : (f : Native) (m : EngineView) (past : Past) → AreFit m → IsKept (serving_config f past m)
serving_kept f m past fit =
    record {
      active = tt;
      frames = frames_kept m fit (length m.values) (length m.cells) m.extra_base (reverse m.frames) (all_reversed (IsWaiting m.chunks (length m.values) (length m.cells)) m.frames fit.frames);
      made = made_kept m fit m.heap.functions fit.functions;
    }

-- ---- the loop

-- the run from a status is at a turn
pub record Running (program : Program) (from : Status) (old : EngineView) (turn : Turn) (now : EngineView) : Type 0 where
  pub kept : IsKeptTurn turn now
  pub comes : (past : Past) → (n : ℕ) × (stepped program n (step_as from past old) ≡ turn_as turn past now)

-- how much is still to be done where it doesn't stand still
abbrev pub left_at : Turn → EngineView → ℕ
left_at Goes m = suc (weight (config_of no_past m))
left_at (turns.Serves f) m = suc (weight (serving_config f no_past m))
left_at turn m = 0

pub running_first : (program : Program) (from : Status) (old now : EngineView) (turn : Turn) → Lands from turn old now → Running program from old turn now
running_first program from old now turn lands = record { kept = lands.kept; comes = λ past. (0, lands.step past) }

-- what was done leaves less
less_left : (w : ℕ) (turn : Turn) (new : EngineView) (x : Step) → x ≡ turn_as turn no_past new → KeptBelow w x → left_at turn new < suc w
less_left w Goes new x is below = let l = (subst (KeptBelow w) is below).1 in omega (arith, l)
less_left w (turns.Serves f) new x is below = let l = (subst (KeptBelow w) is below).1 in omega (arith, l)
less_left w (Pauses pause) new x is below = omega arith

stepped_next : (program : Program) (n : ℕ) (x : Step) (c : Config) → stepped program n x ≡ on c → stepped program (suc n) x ≡ act program c
stepped_next program zero x c e = ap (λ (y : Step). stepped program 1 y) e
stepped_next program (suc n) (on d) c e = stepped_next program n (act program d) c e
stepped_next program (suc n) (stop end) c e = cc
stepped_next program (suc n) (asks question p) c e = cc

module _ (program : Program) (sound : IsSoundProgram program) (from : Status) (old now mid new : EngineView) (turn : Turn) where
  step_more : (past : Past) (c : Config) (x : Step) → (n : ℕ) × (stepped program n (step_as from past old) ≡ on c) → act program c ≡ x → (n : ℕ) × (stepped program n (step_as from past old) ≡ x)
  step_more past c x so e = (suc so.0, stepped_next program so.0 (step_as from past old) c so.1 ∙ e)

  -- after an instruction
  module _ (r : Running program from old Goes now) (status : Status) (s : Steps status now mid) (lands : Lands status turn mid new) where
    abbrev did : (past : Past) → act program (config_of past now) ≡ turn_as turn past new
    did past = (s program).step past ∙ lands.step past

    pub running_next : Running program from old turn new
    running_next = record { kept = lands.kept; comes = λ past. step_more past (config_of past now) (turn_as turn past new) (r.comes past) (did past) }

    pub smaller : left_at turn new < left_at Goes now
    smaller =
        less_left (weight (config_of no_past now)) turn new (act program (config_of no_past now)) (did no_past)
        ((keeping program sound).steps (config_of no_past now) (ready_kept now no_past r.kept))

  -- after a function of the library
  module _ (f : Native) (r : Running program from old (turns.Serves f) now) (status : Status) (s : Served program f status now mid) (lands : Lands status turn mid new) where
    abbrev did_serve : (past : Past) → act program (serving_config f past now) ≡ turn_as turn past new
    did_serve past = s.step past ∙ lands.step past

    pub served_next : Running program from old turn new
    served_next = record { kept = lands.kept; comes = λ past. step_more past (serving_config f past now) (turn_as turn past new) (r.comes past) (did_serve past) }

    pub served_smaller : left_at turn new < left_at (turns.Serves f) now
    served_smaller =
        less_left (weight (serving_config f no_past now)) turn new (act program (serving_config f no_past now)) (did_serve no_past)
        ((keeping program sound).steps (serving_config f no_past now) (serving_kept f now no_past r.kept.fit))

-- where it stands still
pub runs_to : (program : Program) (from : Status) (old now : EngineView) (pause : Pause) → Running program from old (Pauses pause) now → Runs program from pause old now
runs_to program from old now pause r = record { comes = r.comes; kept = r.kept }
