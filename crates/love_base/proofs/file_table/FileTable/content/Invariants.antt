use Rattle.std.proofs.Common.{◌≡◌, drop}
use Rattle.love_base.specs.Folder.{content, stored}
use Rattle.love_base.proofs.file_table.FileTable.content.Given as goal

-- the files before have other paths
abbrev pub invariant-loop-other : goal.invariant-loop-other
invariant-loop-other l = content (stored (drop l.other-index l.other-items)) l.path ≡ content (stored l.other-items) l.path
