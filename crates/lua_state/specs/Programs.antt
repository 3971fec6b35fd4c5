-- The programs that the files of a game's folder are.
use Rattle.std.specs.Prelude.{◌≡◌, ◌≢◌, ◌-◌, ℕ, Bool, true, false, if◌then◌else◌, List, [], ◌∷◌, ◌⊎◌, length, drop, Option, Some, None, bytes_eq, codes}
use Rattle.love_base.specs.Data.{Contents}
use Rattle.lua_tree.specs.Tree.{Bytes, Block}
use Rattle.lua_tree.specs.Words.{Tok}
use Rattle.lua_tree.specs.Reading.{got}
use Rattle.lua_tree.specs.Faults.{IsExact}
use Rattle.lua_tree.specs.Answer.{limits}
use Rattle.lua_tree.specs.Parsed.{WordsOf, IsExactFault}
use Rattle.lua_tree.specs.declared.fault.ParseFault.{ParseFault}
use Rattle.lua_tree.specs.declared.fault.ParseFault.TheVariants.{Memory}
use Rattle.lua_meaning.specs.Control.{Code, ready, faulty, not_lua}
use Rattle.lua_upvalues.specs.Upvalues.{block_fault}
use Rattle.lua_code.specs.Code.{chunk_code}
use Rattle.lua_code.specs.Trees.{chunk_of}
use Rattle.lua_code.specs.Follows.{file_code}
use Rattle.lua_code.specs.Held.{file_code_view}
use Rattle.lua_code.specs.declared.program.File as declared
use Rattle.lua_code.specs.declared.program.FileCode.{FileCode}
use Rattle.lua_code.specs.declared.program.FileCode.TheVariants as variants
use Rattle.lua_state.specs.Faults.{source_text, upvalues_text}

-- ---- sources

-- the name of a program ends in `.lua`
abbrev pub is_lua : (path : Bytes) → Bool
is_lua path = bytes_eq (codes ".lua") (drop (length path - 4) path)

-- the bytes of a source spell this chunk, within the limits
abbrev pub IsChunk : List ℕ → Block → Type 0
IsChunk source b =
    (words : List Tok) × WordsOf source words × IsExact limits words (got b [])

-- this is what is wrong with it: its first fault, or a function with too many upvalues
abbrev pub IsWrong : (path : Bytes) → List ℕ → (text : Bytes) → Type 0
IsWrong path source text =
    ((fault : ParseFault) × IsExactFault source fault × (fault ≢ Memory)
    × (text ≡ source_text path fault))
    ⊎ ((b : Block) × (line : ℕ) × IsChunk source b × (block_fault b [] ≡ Some line)
    × (text ≡ upvalues_text path line))

-- what a file is as a program
abbrev pub IsCodeOf : (path : Bytes) → List ℕ → Code → Type 0
IsCodeOf path source (ready b) =
    (is_lua path ≡ true) × IsChunk source b × (block_fault b [] ≡ None)
IsCodeOf path source (faulty text) = (is_lua path ≡ true) × IsWrong path source text
IsCodeOf path source not_lua = is_lua path ≡ false

-- ---- the programs that are made of them

-- this is the code of what a file is
pub record IsMadeOf (path : Bytes) (source : List ℕ) (made : FileCode) : Type 0 where
  pub meant : Code
  pub is : IsCodeOf path source meant
  pub code : file_code_view made ≡ file_code path meant

-- so is this of a chunk
abbrev pub IsCompiled : (path : Bytes) → Block → FileCode → Type 0
IsCompiled path b (variants.Ready c) =
    (chunk_of c ≡ chunk_code path b) × (block_fault b [] ≡ None)
IsCompiled path b (variants.Faulty text) =
    (line : ℕ) × (block_fault b [] ≡ Some line) × (text ≡ upvalues_text path line)
IsCompiled path b variants.NotLua = ⊥

abbrev pub IsBuilt : declared.File → Type 0
IsBuilt file = IsMadeOf file.name file.content.bytes file.code

-- the name and the bytes of a file
abbrev pub given : declared.File → Bytes × Contents
given file = (file.name, file.content)

-- ---- the main program

abbrev pub main_name : Bytes
main_name = codes "main.lua"

-- the first file of its name
abbrev pub main_of : List declared.File → Option declared.File
main_of [] = None
main_of (file ∷ files) = if bytes_eq file.name main_name then Some file else main_of files
