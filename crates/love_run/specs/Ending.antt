-- The exit statuses of the program.
use Rattle.std.specs.Prelude.{◌≡◌, ◌≤◌, ◌⊎◌, ℕ, ℤ, pos, negsuc, nat_le, if◌then◌else◌, List, [], ◌∷◌, Option, Some, None, Result, Ok, Err, ⊤}
use Rattle.love_base.specs.declared.sink.SinkErr.{SinkErr}
use Rattle.love_base.specs.declared.sink.SinkErr.TheVariants as sink
use Rattle.variant.specs.declared.end_kind.EndKind.{EndKind}
use Rattle.variant.specs.declared.end_kind.EndKind.TheVariants as end
use Rattle.lua_state.specs.declared.record.StateRecord.{StateRecord}
use Rattle.love_run.specs.declared.ending.Ending.{Ending}
use Rattle.love_run.specs.declared.ending.Ending.TheVariants.{Done, Usage, NoMain, Unreadable, Unwritten, TooLarge, Waiting, OutOfMemory, Failed, OutOfSteps}
use Rattle.love_run.specs.declared.load_fault.LoadFault.{LoadFault}
use Rattle.love_run.specs.declared.load_fault.LoadFault.TheVariants as load

-- the status with which the program ends so
abbrev pub code_of : Ending → ℕ
code_of (Done status) = status
code_of Usage = 64
code_of NoMain = 65
code_of Unreadable = 66
code_of Unwritten = 67
code_of TooLarge = 68
code_of Waiting = 69
code_of OutOfMemory = 70
code_of Failed = 71
code_of OutOfSteps = 72

-- how the program ends where the game isn't loaded
abbrev pub ending_of : LoadFault → Ending
ending_of load.NoMain = NoMain
ending_of load.Folder = Unreadable
ending_of load.TooLarge = TooLarge
ending_of load.Memory = OutOfMemory

-- ---- the end of state 0

-- the status that a number stands for: itself from 0 to 63, and 0 for any other one
abbrev pub number_status : ℤ → ℕ
number_status (pos n) = if nat_le n 63 then n else 0
number_status (negsuc n) = 0

-- the same of the number that state 0 gave, and 0 where it gave none
abbrev pub done_status : Option ℤ → ℕ
done_status (Some n) = number_status n
done_status None = 0

-- how the program ends after state 0 has ended so, where all is written. One that is told as stopped waits
abbrev pub run_ending : EndKind → Ending
run_ending (end.Done value) = Done (done_status value)
run_ending (end.Error text) = Failed
run_ending end.OutOfSteps = OutOfSteps
run_ending end.Stopped = Waiting
run_ending end.Memory = OutOfMemory

-- the same after the writing, whose fault comes first
abbrev pub written_ending : Ending → Result ⊤ SinkErr → Ending
written_ending ending (Ok all) = ending
written_ending ending (Err sink.Failed) = Unwritten
written_ending ending (Err sink.Memory) = OutOfMemory

-- the status that state 0's end gives, of the records of a game
abbrev pub run_status : List StateRecord → ℕ
run_status [] = code_of OutOfMemory
run_status (main ∷ others) = code_of (run_ending main.end)

-- ---- what a status says

-- the words, the folder or its files were refused
abbrev pub SaysNothingRan : ℕ → Type 0
SaysNothingRan status =
    (status ≡ code_of Usage) ⊎ (status ≡ code_of NoMain) ⊎ (status ≡ code_of Unreadable) ⊎ (status ≡ code_of TooLarge)

-- state 0 is done, failed, is out of steps or waits, and all was written
abbrev pub SaysWritten : ℕ → Type 0
SaysWritten status =
    (status ≤ 63) ⊎ (status ≡ code_of Waiting) ⊎ (status ≡ code_of Failed) ⊎ (status ≡ code_of OutOfSteps)

-- the statuses of the program
abbrev pub IsStatus : ℕ → Type 0
IsStatus status =
    SaysNothingRan status ⊎ SaysWritten status ⊎ (status ≡ code_of Unwritten) ⊎ (status ≡ code_of OutOfMemory)
