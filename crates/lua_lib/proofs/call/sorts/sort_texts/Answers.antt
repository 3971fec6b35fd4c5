use Rattle.std.proofs.Common.{◌≡◌, rules}
use Rattle.std.proofs.lemmas.Cmp.{nat_list_cmp_total}
use Rattle.std.proofs.lemmas.Fn.{always_returns_same}
use Rattle.std.proofs.lemmas.List.Sorted.{ranks_by}
use Rattle.std.specs.Cmp.Lexicographic.{slice_cmp}
use Rattle.std.specs.Ordering.{nat_cmp, is_lt}
use Rattle.lua_lib.specs.Sorts.{bytes_of}
use Rattle.lua_lib.proofs.Arranged.{texts-arranged}
use Rattle.lua_lib.proofs.call.sorts.sort_texts.Goals as goal

pub returns-clause-sorted : goal.returns-clause-sorted
returns-clause-sorted c =
    let texts = c.args.heap.now.texts in
    texts-arranged texts c.args.values.now c.sort_unstable_by.new.self c.sort_unstable_by.ensures.permutation c.requires
    (c.sort_unstable_by.ensures.sorted (λ a b. is_lt (slice_cmp nat_cmp (bytes_of texts a) (bytes_of texts b))) (ranks_by nat_list_cmp_total (bytes_of texts))
    (always_returns_same _ (λ a r. is_lt r ≡ is_lt (slice_cmp nat_cmp (bytes_of texts a.0.now) (bytes_of texts a.1.0.now))) _ (λ a r f' k. search rules)))
