use Rattle.std.proofs.Common.{◌≡◌, drop}
use Rattle.love_functions.specs.Asking.{content_at}
use Rattle.love_functions.specs.View.{files_view}
use Rattle.love_functions.proofs.files.content_of.Given as goal

-- the files before have other paths
abbrev pub invariant-loop-file : goal.invariant-loop-file
invariant-loop-file l = content_at l.path (files_view (drop l.file-index l.files)) ≡ content_at l.path (files_view l.files)
