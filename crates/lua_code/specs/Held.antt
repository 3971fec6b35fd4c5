-- A game's files as the definitions have them.
use Rattle.std.specs.Prelude.{ℕ, map}
use Rattle.lua_code.specs.Natives as n
use Rattle.lua_code.specs.Trees.{chunk_of}
use Rattle.lua_code.specs.declared.program.FileCode.{FileCode}
use Rattle.lua_code.specs.declared.program.FileCode.TheVariants.{Ready, Faulty, NotLua}
use Rattle.lua_code.specs.declared.program.File.{File}
use Rattle.lua_code.specs.declared.program.Program.{Program}

abbrev pub file_code_view : FileCode → n.FileCode
file_code_view (Ready code) = n.ready (chunk_of code)
file_code_view (Faulty text) = n.faulty text
file_code_view NotLua = n.not_lua

abbrev pub file_view : File → n.File
file_view f = record { path = f.name; bytes = f.content.bytes; code = file_code_view f.code }

-- the program of the state of a number
abbrev pub program_view : Program → ℕ → n.Program
program_view p state = record { files = map file_view p.files; state = state }
