-- The texts of what is wrong with a source.
use Rattle.std.specs.Prelude.{ℕ, [], Some, codes}
use Rattle.lua_token.specs.declared.fault.LexWhat.{LexWhat}
use Rattle.lua_token.specs.declared.fault.LexWhat.TheVariants as lex
use Rattle.lua_tree.specs.Tree.{Bytes}
use Rattle.lua_tree.specs.declared.fault.ParseFault.{ParseFault}
use Rattle.lua_tree.specs.declared.fault.ParseFault.TheVariants.{Lex, Unexpected, BreakOutside, VarargOutside, TooDeep, TooManyLocals, AmbiguousCall, Memory}
use Rattle.lua_meaning.specs.Fault.{placed}

abbrev pub lex_text : LexWhat → Bytes
lex_text lex.BadByte = codes "unexpected symbol"
lex_text lex.OpenString = codes "unfinished string"
lex_text lex.OpenLong = codes "unfinished long string"
lex_text lex.BadEscape = codes "escape sequence too large"
lex_text lex.BadNumber = codes "malformed number"
lex_text lex.NotWhole = codes "number has no whole value"
lex_text lex.TooLong = codes "source too long"
lex_text lex.Memory = []

-- want of memory is no fault of a source, and says nothing
abbrev pub fault_text : ParseFault → Bytes
fault_text (Lex fault) = lex_text fault.what
fault_text (Unexpected line place) = codes "unexpected symbol"
fault_text (BreakOutside line) = codes "no loop to break"
fault_text (VarargOutside line) = codes "cannot use '...' outside a vararg function"
fault_text (TooDeep line) = codes "nested too deep"
fault_text (TooManyLocals line) = codes "too many local variables"
fault_text (AmbiguousCall line) = codes "ambiguous syntax"
fault_text Memory = []

abbrev pub fault_line : ParseFault → ℕ
fault_line (Lex fault) = fault.line
fault_line (Unexpected line place) = line
fault_line (BreakOutside line) = line
fault_line (VarargOutside line) = line
fault_line (TooDeep line) = line
fault_line (TooManyLocals line) = line
fault_line (AmbiguousCall line) = line
fault_line Memory = 0

-- behind the place, in a file
abbrev pub source_text : (file : Bytes) → ParseFault → Bytes
source_text file fault =
    placed (Some (record { file = file; line = fault_line fault })) (fault_text fault)

abbrev pub upvalues_text : (file : Bytes) → (line : ℕ) → Bytes
upvalues_text file line =
    placed (Some (record { file = file; line = line })) (codes "too many upvalues")
