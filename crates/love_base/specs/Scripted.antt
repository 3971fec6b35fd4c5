-- Folders and sinks in memory whose failures are chosen beforehand, by the numbers of the calls.
use Rattle.std.specs.Prelude.{ℕ, List, if◌then◌else◌, nat_eq, Bool}
use Rattle.std.specs.List.{list_any}
use Rattle.love_base.specs.Fault.{next_count}
use Rattle.love_base.specs.Folder.{File}

-- which calls fail, by their numbers from 1, and how many were made and failed
pub record Script : Type 0 where
  pub fails : List ℕ
  pub calls : ℕ
  pub faults : ℕ

-- a script of which no call was made
abbrev pub unused : List ℕ → Script
unused fails = record { fails = fails; calls = 0; faults = 0 }

-- whether the next call fails
abbrev pub fails_next : Script → Bool
fails_next script = list_any (nat_eq (next_count script.calls)) script.fails

-- the script after a call that fails, or doesn't
abbrev pub after_call : Script → Script
after_call script = record {
  fails = script.fails;
  calls = next_count script.calls;
  faults = if fails_next script then next_count script.faults else script.faults;
}

-- a folder in memory
pub record ScriptedFolder : Type 0 where
  pub files : List File
  pub script : Script

-- a sink in memory: what it takes at most in one call, and what it has taken
pub record ScriptedSink : Type 0 where
  pub most : ℕ
  pub script : Script
  pub taken : List ℕ
