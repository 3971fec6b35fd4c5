-- What `parse` answers.
use Rattle.std.specs.Prelude.{◌≡◌, ◌==◌, ◌+◌, ℕ, List, drop, length, count_by, slice_get, Option, Some, None, Result, Ok, Err, ◌⊎◌, [], ◌∷◌}
use Rattle.lua_token.specs.Answer.{IsTokensAnswer}
use Rattle.lua_token.specs.declared.token.Token.{Token}
use Rattle.lua_token.specs.declared.fault.LexFault.{LexFault}
use Rattle.lua_token.specs.declared.fault.LexWhat.{LexWhat}
use Rattle.lua_token.specs.declared.fault.LexWhat.TheVariants as lex
use Rattle.lua_tree.specs.declared.fault.ParseFault.{ParseFault}
use Rattle.lua_tree.specs.declared.fault.ParseFault.TheVariants as faults
use Rattle.lua_tree.specs.declared.stop.Stop.{Stop}
use Rattle.lua_tree.specs.declared.stop.Stop.TheVariants as stops
use Rattle.lua_tree.specs.declared.stop.Fault as declared
use Rattle.lua_tree.specs.declared.stop.Fault.TheVariants as stop
use Rattle.lua_tree.specs.declared.tree.Chunk.{Chunk}
use Rattle.lua_tree.specs.Tree.{Block}
use Rattle.lua_tree.specs.Words.{Tok, tok}
use Rattle.lua_tree.specs.Reading.{Fault, Answer, got, stuck, ReadsChunk}
use Rattle.lua_tree.specs.Faults.{IsExact, Agree}
use Rattle.lua_tree.specs.Spelled.{Spelled}
use Rattle.lua_tree.specs.View.{block_view}
use Rattle.lua_tree.specs.Answer.{limits, fault_of}

-- What the words of a source are read as; of want of memory nothing is said.
abbrev pub ChunkAnswers : Result Chunk Stop → List Tok → Type 0
ChunkAnswers (Ok chunk) words = ReadsChunk limits words (got (block_view chunk.block) [])
ChunkAnswers (Err (stops.At fault place)) words = ReadsChunk limits words (stuck (fault_of fault) (drop place words))
ChunkAnswers (Err stops.Memory) words = Unit {0}

-- the fault of a source that isn't cut into tokens
abbrev pub lexical_as : LexWhat → LexFault → ParseFault
lexical_as lex.Memory fault = faults.Memory
lexical_as what fault = faults.Lex fault

abbrev pub lexical_of : LexFault → ParseFault
lexical_of fault = lexical_as fault.what fault

-- this fault is given, unless memory ran out
abbrev pub GivesFault : Result Chunk ParseFault → ParseFault → Type 0
GivesFault (Ok chunk) fault = ⊥
GivesFault (Err found) fault = (found ≡ faults.Memory) ⊎ (found ≡ fault)

-- the line of a token and how many bytes stand before it; at the end the last line, and all of the source's bytes
abbrev pub place_of : List ℕ → Option Token → ℕ × ℕ
place_of source None = (1 + count_by (λ b. b == 10) source, length source)
place_of source (Some t) = (t.line, t.start)

-- a fault of the grammar at such a place
abbrev pub fault_at : declared.Fault → ℕ × ℕ → ParseFault
fault_at stop.Unexpected p = faults.Unexpected p.0 p.1
fault_at stop.BreakOutside p = faults.BreakOutside p.0
fault_at stop.VarargOutside p = faults.VarargOutside p.0
fault_at stop.TooDeep p = faults.TooDeep p.0
fault_at stop.TooManyLocals p = faults.TooManyLocals p.0
fault_at stop.AmbiguousCall p = faults.AmbiguousCall p.0

-- a fault of the grammar is at one of these tokens or at the end
abbrev pub IsAtToken : List ℕ → List Token → ParseFault → Type 0
IsAtToken source ts fault = (what : declared.Fault) × (at : ℕ) × (fault ≡ fault_at what (place_of source (slice_get ts at)))

-- A fault of tokens is the first one of the source. With any other one, or with a tree, the source is cut into tokens, and
-- such a fault is at one of them or at the end.
abbrev pub WasCutFor : List ℕ → ParseFault → Type 0
WasCutFor source (faults.Lex fault) = IsTokensAnswer source (Err fault)
WasCutFor source faults.Memory = Unit {0}
WasCutFor source fault = (ts : List Token) × IsTokensAnswer source (Ok ts) × IsAtToken source ts fault

abbrev pub WasCut : List ℕ → Result Chunk ParseFault → Type 0
WasCut source (Ok chunk) = (ts : List Token) × IsTokensAnswer source (Ok ts)
WasCut source (Err fault) = WasCutFor source fault

-- these are the words of the source
abbrev pub WordsOf : List ℕ → List Tok → Type 0
WordsOf source words = (ts : List Token) × IsTokensAnswer source (Ok ts) × Spelled source 1 ts words

-- where the first of the words that are left stands, or the end
abbrev pub place_before : List ℕ → List Tok → ℕ × ℕ
place_before source [] = (1 + count_by (λ b. b == 10) source, length source)
place_before source (tok v s ∷ rest) = (s.line, s.start)

-- this fault of the grammar, at the words that are left, is what was found
abbrev pub IsFaultAt : List ℕ → ParseFault → Fault → List Tok → Type 0
IsFaultAt source found x rest = (what : declared.Fault) × (fault_of what ≡ x) × (found ≡ fault_at what (place_before source rest))

-- What was answered is exact: a fault of tokens is the first one; a tree is the one chunk that the source's words spell,
-- within the limits; any other fault is the first one of the words, with its place. Of want of memory nothing is said.
abbrev pub IsExactFault : List ℕ → ParseFault → Type 0
IsExactFault source (faults.Lex fault) = IsTokensAnswer source (Err fault)
IsExactFault source faults.Memory = Unit {0}
IsExactFault source found = (words : List Tok) × WordsOf source words
    × ((x : Fault) × (rest : List Tok) × IsExact limits words (stuck x rest) × IsFaultAt source found x rest)

abbrev pub IsParsed : List ℕ → Result Chunk ParseFault → Type 0
IsParsed source (Ok chunk) = (words : List Tok) × WordsOf source words × IsExact limits words (got (block_view chunk.block) [])
IsParsed source (Err found) = IsExactFault source found

-- an exact answer of the words is the one that was given, unless memory ran out
abbrev pub GivesFaultAt : List ℕ → ParseFault → Answer Block → Type 0
GivesFaultAt source faults.Memory r = Unit {0}
GivesFaultAt source found (got b rest) = ⊥
GivesFaultAt source found (stuck x rest) = IsFaultAt source found x rest

abbrev pub GivesAnswer : List ℕ → Result Chunk ParseFault → Answer Block → Type 0
GivesAnswer source (Ok chunk) r = Agree (got (block_view chunk.block) []) r
GivesAnswer source (Err found) r = GivesFaultAt source found r
