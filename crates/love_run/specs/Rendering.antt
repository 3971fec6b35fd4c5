-- What is written of the states of a game: what they printed, and how they ended.
use Rattle.std.specs.Prelude.{ℕ, List, [], ◌∷◌, ◌++◌, codes, nat_eq, if◌then◌else◌, unwrap_or}
use Rattle.std.specs.Fmt.{decimal}
use Rattle.variant.specs.declared.end_kind.EndKind.{EndKind}
use Rattle.variant.specs.declared.end_kind.EndKind.TheVariants.{Done, Error, OutOfSteps, Stopped, Memory}
use Rattle.variant.specs.declared.source.Source.{Source}
use Rattle.variant.specs.declared.source.Source.TheVariants.{File, FileData, Code}
use Rattle.lua_state.specs.declared.record.StateRecord.{StateRecord}

-- the line `-- state S TEXT`
abbrev pub line_on : (state : ℕ) → (text : List ℕ) → List ℕ
line_on state text = codes "-- state " ++ (decimal state ++ (codes " " ++ (text ++ 10 ∷ [])))

-- how a state ended. State 0 is never stopped: it waits
abbrev pub end_words : (state : ℕ) → EndKind → List ℕ
end_words state (Done value) = codes "done"
end_words state (Error text) = codes "error: " ++ text
end_words state OutOfSteps = codes "out of steps"
end_words state Stopped = if nat_eq state 0 then codes "waiting" else codes "stopped"
end_words state Memory = codes "out of memory"

-- the name of what a state ran
abbrev pub source_name : Source → List ℕ
source_name (File name) = name
source_name (FileData contents) = unwrap_or contents.name []
source_name (Code text) = codes "code"

-- that state 0 is done isn't said
abbrev pub main_end : (state : ℕ) → EndKind → List ℕ
main_end state (Done value) = []
main_end state end = line_on state (end_words state end)

abbrev pub main_part : StateRecord → List ℕ
main_part r = r.out ++ main_end r.state r.end

-- a further state: which it is, what it printed, and how it ended
abbrev pub other_part : StateRecord → List ℕ
other_part r =
    line_on r.state (source_name r.source) ++ (r.out ++ line_on r.state (end_words r.state r.end))

abbrev pub other_parts : List StateRecord → List ℕ
other_parts [] = []
other_parts (r ∷ records) = other_part r ++ other_parts records

-- state 0 first, then the others in their order
abbrev pub rendering : List StateRecord → List ℕ
rendering [] = []
rendering (main ∷ others) = main_part main ++ other_parts others
