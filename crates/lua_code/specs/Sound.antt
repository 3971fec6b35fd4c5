-- Code whose jumps lead inside, and what a machine that runs it keeps: it's never stuck, and goes down.
use Rattle.std.specs.Prelude.{ℕ, suc, ◌+◌, ◌-◌, ◌*◌, ◌^◌, ◌<◌, List, [], ◌∷◌, length, ⊤}
use Rattle.std.specs.List.{AllByRecursion}
use Rattle.lua_meaning.specs.Message.{Ask, Reply}
use Rattle.lua_code.specs.Instr as i
use Rattle.lua_code.specs.Instr.{Instr, Instrs, no_instrs, instr_and, Proto, proto_of, list_of, code_of}
use Rattle.lua_code.specs.State.{Made, Running, Frame, waits, serves, Active, lua, library, Config, End, ended, failed, no_ticks, needed, stuck, Pending, Step, on, stop, asks}
use Rattle.lua_code.specs.Natives.{FileCode, ready, faulty, not_lua, File, Program, resume}
use Rattle.lua_code.specs.Act.{act}

-- ---- code

abbrev mutual
  -- it has an instruction, and fewer than 2^32
  pub IsSoundCode : Proto → Type 0
  IsSoundCode (proto_of file params varargs code) =
      (0 < length (list_of code)) × (length (list_of code) < 2 ^ 32)
      × AreSound (length (list_of code)) 0 code

  pub AreSound : (len pc : ℕ) → Instrs → Type 0
  AreSound len pc no_instrs = ⊤
  AreSound len pc (instr_and x xs) = GoesOn len pc x × AreSound len (suc pc) xs

  -- an instruction at a place leads to places inside
  pub GoesOn : (len pc : ℕ) → Instr → Type 0
  GoesOn len pc (i.close to code cells) = (pc + 1 < len) × IsSoundCode code
  GoesOn len pc (i.skip n) = pc + 1 + n < len
  GoesOn len pc (i.skip_if from n) = pc + 1 + n < len
  GoesOn len pc (i.skip_unless from n) = pc + 1 + n < len
  GoesOn len pc (i.for_begin s at n) = pc + 1 + n < len
  GoesOn len pc (i.leave from count tailed) = ⊤
  GoesOn len pc x = pc + 1 < len

-- ---- what a machine keeps

-- a function of Lua is at an instruction of sound code
pub record IsInside (run : Running) : Type 0 where
  pub sound : IsSoundCode run.code
  pub inside : run.pc < length (code_of run.code)

abbrev pub IsFrame : Frame → Type 0
IsFrame (waits run wants at) = IsInside run
IsFrame (serves duty base cell_base) = ⊤

abbrev pub IsActive : Active → Type 0
IsActive (lua run) = IsInside run
IsActive (library f args base cell_base) = ⊤

abbrev pub AreFrames : List Frame → Type 0
AreFrames frames = AllByRecursion IsFrame frames

abbrev pub AreMade : List Made → Type 0
AreMade made = AllByRecursion (λ (m : Made). IsSoundCode m.code) made

abbrev pub IsSoundFile : FileCode → Type 0
IsSoundFile (ready code) = IsSoundCode code
IsSoundFile (faulty text) = ⊤
IsSoundFile not_lua = ⊤

abbrev pub IsSoundProgram : Program → Type 0
IsSoundProgram program = AllByRecursion (λ (f : File). IsSoundFile f.code) program.files

pub record IsKept (c : Config) : Type 0 where
  pub active : IsActive c.active
  pub frames : AreFrames c.frames
  pub made : AreMade c.state.functions

-- ---- how much is still to be done

-- how many instructions a function has before it, at most
abbrev pub left_of : Running → ℕ
left_of run = 2 ^ 32 - run.pc

abbrev pub frame_weight : Frame → ℕ
frame_weight (waits run wants at) = left_of run
frame_weight (serves duty base cell_base) = 0

abbrev pub still : List Frame → ℕ
still [] = 0
still (f ∷ frames) = frame_weight f + still frames

abbrev pub active_weight : Active → ℕ
active_weight (lua run) = left_of run
active_weight (library f args base cell_base) = 1

-- a call takes a tick, and so does a jump back; all else goes on in its function or leaves it
abbrev pub weight : Config → ℕ
weight c = (2 ^ 32 + 1) * c.state.ticks + (active_weight c.active + still c.frames)

-- ---- steps

abbrev pub IsEnd : End → Type 0
IsEnd (ended vs st) = ⊤
IsEnd (failed v st) = ⊤
IsEnd (no_ticks st) = ⊤
IsEnd (needed ask st) = ⊤
IsEnd stuck = ⊥

pub record IsPending (p : Pending) : Type 0 where
  pub frames : AreFrames p.frames
  pub made : AreMade p.state.functions

-- what a step leads to is kept, and is below a weight
abbrev pub KeptBelow : ℕ → Step → Type 0
KeptBelow w (on c) = IsKept c × (weight c < w)
KeptBelow w (stop end) = IsEnd end
KeptBelow w (asks question p) = IsPending p

abbrev pub IsKeptStep : Step → Type 0
IsKeptStep (on c) = IsKept c
IsKeptStep (stop end) = IsEnd end
IsKeptStep (asks question p) = IsPending p

-- a machine that runs sound code of a sound program is never stuck, keeps all this, and goes down with each step; so it
-- does with each reply
pub record Keeps (program : Program) : Type 0 where
  pub steps : (c : Config) → IsKept c → KeptBelow (weight c) (act program c)
  pub resumes :
      (question : Ask) (reply : Reply) (p : Pending) → IsPending p →
      IsKeptStep (resume program question reply p)

abbrev pub AllKeep : Type 0
AllKeep = (program : Program) → IsSoundProgram program → Keeps program
