-- What the ends of states tell.
use Rattle.std.specs.Prelude.{ℕ, List, Option, Some, None, codes}
use Rattle.variant.specs.declared.end_kind.EndKind.{EndKind}
use Rattle.variant.specs.declared.end_kind.EndKind.TheVariants.{Done, Error, OutOfSteps, Stopped, Memory}

-- the text that tells of a failure
abbrev pub end_text : EndKind → Option (List ℕ)
end_text (Done value) = None
end_text (Error text) = Some text
end_text OutOfSteps = Some (codes "out of steps")
end_text Stopped = None
end_text Memory = Some (codes "out of memory")
