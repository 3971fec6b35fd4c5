-- What the system says of links.
use Rattle.std.specs.Prelude.{Bool, true, false}
use Rattle.std.specs.declared.io.ErrorKind.{ErrorKind}
use Rattle.std.specs.declared.io.ErrorKind.TheVariants.{NotFound, NotADirectory, FilesystemLoop}

-- whether an error of looking at a link says that it leads to no file and no folder: to nothing,
-- through a file as if that were a folder, or in a circle
abbrev pub leads_nowhere : ErrorKind → Bool
leads_nowhere NotFound = true
leads_nowhere NotADirectory = true
leads_nowhere FilesystemLoop = true
leads_nowhere _ = false
