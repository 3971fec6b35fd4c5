-- Calls that wait, and what they get.
use Rattle.std.specs.Prelude.{◌≡◌, ◌+◌, List, [], ◌∷◌, ◌++◌, length, take, Option, Some, None}
use Rattle.lua_machine.specs.declared.frame.Wants.{Wants}
use Rattle.lua_machine.specs.declared.frame.Role.TheVariants.{Waits}
use Rattle.lua_machine.specs.declared.frame.Frame.{Frame}
use Rattle.lua_machine.specs.View.{EngineView, proto_at}

-- the running function waits
abbrev pub waiting : EngineView → Wants → Frame
waiting m wants =
    record {
      chunk = m.chunk;
      func = m.func;
      pc = m.pc + 1;
      base = m.base;
      cell_base = m.cell_base;
      extra_base = m.extra_base;
      role = Waits wants;
    }

abbrev pub pushed : EngineView → Wants → EngineView
pushed m wants =
    record m { frames = m.frames ++ waiting m wants ∷ []; extra_base = length m.extras }

-- a frame that waited goes on
abbrev pub resumed : EngineView → List Frame → Frame → EngineView
resumed m frames f =
    record m {
      frames = frames;
      chunk = f.chunk;
      func = f.func;
      proto = proto_at m.chunks f.chunk f.func;
      pc = f.pc;
      base = f.base;
      cell_base = f.cell_base;
      extra_base = f.extra_base;
      extras = take m.extra_base m.extras;
    }

-- the frame on top, where there is one
abbrev pub IsTop : Option Frame → List Frame → Type 0
IsTop None all = all ≡ []
IsTop (Some f) all = (frames : List Frame) × (all ≡ frames ++ f ∷ [])

-- the frame on top went on
pub record WentOn (f : Frame) (old new : EngineView) : Type 0 where
  pub frames : List Frame
  pub were : old.frames ≡ frames ++ f ∷ []
  pub are : new ≡ resumed old frames f

-- a frame is taken off
abbrev pub taken_off : EngineView → List Frame → Frame → EngineView
taken_off m frames f =
    record m {
      frames = frames;
      base = f.base;
      cell_base = f.cell_base;
      extra_base = f.extra_base;
      extras = take m.extra_base m.extras;
    }

pub record WasTakenOff (f : Frame) (old new : EngineView) : Type 0 where
  pub frames : List Frame
  pub were : old.frames ≡ frames ++ f ∷ []
  pub are : new ≡ taken_off old frames f
