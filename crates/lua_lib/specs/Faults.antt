-- Which error each fault is, by the definitions of the library.
use Rattle.std.specs.Prelude.{Option, None, Some, codes, ⊤}
use Rattle.lua_meaning.specs.Value.{str}
use Rattle.lua_meaning.specs.Fault.{Fault as Error, improper, says, raises}
use Rattle.lua_meaning.specs.Arguments.{Lib}
use Rattle.lua_lib.specs.declared.fault.Fault.{Fault}
use Rattle.lua_lib.specs.declared.fault.Fault.TheVariants.{IndexOutOfRange, BaseOutOfRange, NoByte, Negative, NotWhole, OutOfRange, StringTooLong, TooManyValues, PatternsNotAvailable, InvalidFormat, NoSuchKey, KeyIsNil, AssertionFailed, NoMetatable, Protected, PositionOutOfBounds, NoOrder, TakesNoFunction, OutOfBounds, NotSeconds, NoStatus, Memory}
use Rattle.lua_lib.specs.Outcome.{Raises}

-- the error of a fault; want of memory is none that the definitions have
abbrev pub fault_error : Fault → Option Error
fault_error IndexOutOfRange = Some (improper 0 (codes "index out of range"))
fault_error BaseOutOfRange = Some (improper 1 (codes "base out of range"))
fault_error (NoByte argument) = Some (improper argument (codes "0 to 255 expected"))
fault_error (Negative argument) = Some (improper argument (codes "not negative expected"))
fault_error NotWhole = Some (says (codes "number has no whole value"))
fault_error OutOfRange = Some (says (codes "number out of range"))
fault_error StringTooLong = Some (says (codes "string too long"))
fault_error TooManyValues = Some (says (codes "too many values"))
fault_error PatternsNotAvailable = Some (says (codes "patterns are not available"))
fault_error InvalidFormat = Some (says (codes "invalid format"))
fault_error NoSuchKey = Some (improper 1 (codes "no such key"))
fault_error KeyIsNil = Some (says (codes "table index is nil"))
fault_error AssertionFailed = Some (raises (str (codes "assertion failed!")))
fault_error NoMetatable = Some (improper 1 (codes "nil or table expected"))
fault_error Protected = Some (says (codes "cannot change a protected metatable"))
fault_error PositionOutOfBounds = Some (improper 1 (codes "position out of bounds"))
fault_error NoOrder = Some (says (codes "'sort' needs all numbers or all strings"))
fault_error TakesNoFunction = Some (says (codes "'sort' takes no function"))
fault_error (OutOfBounds argument) = Some (improper argument (codes "out of bounds"))
fault_error (NotSeconds argument) = Some (improper argument (codes "0 to 1000000 expected"))
fault_error (NoStatus argument) = Some (improper argument (codes "0 to 63 expected"))
fault_error Memory = None

-- a function raises an error, where there is one
abbrev pub RaisesBy : {A : Type 0} → Lib A → Option Error → Type 0
RaisesBy part None = ⊤
RaisesBy part (Some error) = Raises part error

-- a function has no values because of a fault: it raises that error; the cause of want of memory isn't told
abbrev pub FailsBy : {A : Type 0} → Lib A → Fault → Type 0
FailsBy part fault = RaisesBy part (fault_error fault)
