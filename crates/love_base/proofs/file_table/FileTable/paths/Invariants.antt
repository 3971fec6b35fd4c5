use Rattle.std.proofs.Common.{◌≡◌, ◌++◌, drop}
use Rattle.love_base.specs.Folder.{paths, stored}
use Rattle.love_base.proofs.file_table.FileTable.paths.Given as goal

-- the names so far and those to come are all
abbrev pub invariant-loop-path : goal.invariant-loop-path
invariant-loop-path l = l.names.items ++ paths (stored (drop l.path-index l.path-items)) ≡ paths (stored l.path-items)
