use Rattle.std.proofs.Common.{◌≡◌, rules}
use Rattle.std.proofs.lemmas.Fn.{always_returns_same}
use Rattle.lua_lib.specs.Sorts.{number_of}
use Rattle.lua_lib.proofs.Arranged.{numbers-arranged}
use Rattle.lua_lib.proofs.call.sorts.sort_numbers.Goals as goal

pub returns-clause-sorted : goal.returns-clause-sorted
returns-clause-sorted c = λ texts.
    numbers-arranged texts c.args.values.now c.sort_unstable_by_key.new.self c.sort_unstable_by_key.ensures.permutation (c.requires texts)
    (c.sort_unstable_by_key.ensures.sorted number_of (always_returns_same _ (λ a r. r ≡ number_of a.0.now) _ (λ a r f' k. search rules)))
