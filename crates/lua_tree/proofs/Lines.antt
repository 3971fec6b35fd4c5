-- A text has at most as many newlines as bytes.
use Rattle.std.proofs.lemmas.List.Sums.{count_by-le-length}

pub ruleset lines = (count_by-le-length)
