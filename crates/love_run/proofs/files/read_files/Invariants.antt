use Rattle.std.proofs.Common.{◌≡◌, ◌+◌, ◌≤◌, length}
use Rattle.love_run.specs.Game.{most_bytes}
use Rattle.love_run.proofs.Loading.{IsReadSoFar}
use Rattle.love_run.proofs.files.read_files.Given as goal

-- no call has failed, and what was read are the first names' files
abbrev pub invariant-loop-name : goal.invariant-loop-name
invariant-loop-name g l =
    let folder = g.F.Folder in
    record {
      read : IsReadSoFar (folder.files l.fn.folder l.at) l.fn.names.items l.name-iterator.rest.items l.made.items l.size;
      small : l.size ≤ most_bytes;
      steady : folder.faults l.folder ≡ folder.faults l.fn.folder;
      kept : folder.files l.folder ≡ folder.files l.fn.folder;
      called : folder.calls l.folder ≤ folder.calls l.fn.folder + length l.made.items;
    }
