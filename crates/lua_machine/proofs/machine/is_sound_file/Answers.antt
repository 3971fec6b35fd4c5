use Rattle.std.proofs.Common.{◌-◌, List, length, sym, subst, arith}
use Rattle.lua_code.specs.Sound.{IsSoundFile}
use Rattle.lua_code.specs.Held.{file_code_view}
use Rattle.lua_code.specs.declared.program.FileCode.{FileCode}
use Rattle.lua_code.proofs.Trees.{all_sound}
use Rattle.lua_machine.proofs.machine.is_sound_file.Goals as goal

pub returns-in-Ready : goal.returns-in-Ready
returns-in-Ready c =
    let valid = c.protos-protos.ensures.valid in
    let main = valid.main in
    subst (λ (x : FileCode). IsSoundFile (file_code_view x)) (sym c.in-Ready.is)
    (all_sound c.in-Ready.code valid (length c.in-Ready.code - 1) (omega (arith, main)))
