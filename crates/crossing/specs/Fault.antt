-- Refusals of values as messages, and what a call that packs answers.
use Rattle.std.specs.Prelude.{◌≡◌, ⊤, List, ℕ, Result, Ok, Err, codes}
use Rattle.lua_meaning.specs.Value as meant
use Rattle.lua_meaning.specs.Packing as packing
use Rattle.crossing.specs.declared.fault.SentType.{SentType}
use Rattle.crossing.specs.declared.fault.SentType.TheVariants.{Nil, Boolean, Number, String, Table, Function, Userdata, Thread}
use Rattle.crossing.specs.declared.fault.PackFault.{PackFault}
use Rattle.crossing.specs.declared.fault.PackFault.TheVariants.{Kind, Cycle, Key, Depth, Memory}

-- the type that the text of a refusal names
abbrev pub type_of : meant.Value → SentType
type_of meant.nil = Nil
type_of (meant.flag b) = Boolean
type_of (meant.num n) = Number
type_of (meant.str s) = String
type_of (meant.table t) = Table
type_of (meant.func f) = Function
type_of (meant.native f) = Function
type_of (meant.channel c) = Userdata
type_of (meant.thread t) = Thread
type_of (meant.datum d) = Userdata

-- its name
abbrev pub type_bytes : SentType → List ℕ
type_bytes Nil = codes "nil"
type_bytes Boolean = codes "boolean"
type_bytes Number = codes "number"
type_bytes String = codes "string"
type_bytes Table = codes "table"
type_bytes Function = codes "function"
type_bytes Userdata = codes "userdata"
type_bytes Thread = codes "Thread"

-- the refusal that a fault of the definitions is
abbrev pub fault_of : packing.PackFault → PackFault
fault_of (packing.kind v) = Kind (type_of v)
fault_of packing.cycle = Cycle
fault_of (packing.key v) = Key (type_of v)
fault_of packing.depth = Depth

-- the definitions refuse, with this fault
abbrev pub Refuses : {M : Type 0} → Result M packing.PackFault → PackFault → Type 0
Refuses (Ok made) fault = ⊥
Refuses (Err refused) fault = fault ≡ fault_of refused

-- a call answers what the definitions do: what they make, as it is seen, or their refusal; or memory is wanting
abbrev pub Answers : {M V : Type 0} → (view : V → M) → Result M packing.PackFault → Result V PackFault → Type 0
Answers view meaning (Ok made) = meaning ≡ Ok (view made)
Answers view meaning (Err Memory) = ⊤
Answers view meaning (Err fault) = Refuses meaning fault
