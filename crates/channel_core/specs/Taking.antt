-- Words on the answer of a call that takes a message.
use Rattle.std.specs.Prelude.{Option, Some, None, Result, Ok, Err, ⊤}
use Rattle.channel_core.specs.declared.fault.PutFault.{PutFault}

-- a fact of what was taken, if a message was
abbrev pub IfTaken : {A : Type 0} → Result (Option A) PutFault → (A → Type 0) → Type 0
IfTaken (Ok (Some taken)) P = P taken
IfTaken (Ok None) P = ⊤
IfTaken (Err fault) P = ⊤

-- a fact for where none was taken
abbrev pub UnlessTaken : {A : Type 0} → Result (Option A) PutFault → Type 0 → Type 0
UnlessTaken (Ok (Some taken)) P = ⊤
UnlessTaken (Ok None) P = P
UnlessTaken (Err fault) P = P
