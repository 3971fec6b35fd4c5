use Rattle.std.proofs.Common.{◌≡◌, drop}
use Rattle.lua_state.specs.Programs.{main_of}
use Rattle.lua_state.proofs.alone.main_file.Given as goal

abbrev pub invariant-loop-file : goal.invariant-loop-file
invariant-loop-file l = main_of (drop l.file-index l.files) ≡ main_of l.files
