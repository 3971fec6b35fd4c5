use Rattle.std.proofs.Common.{Ok, refl, sym, ap, ◌∙◌}
use Rattle.lua_heap.specs.Alike.{value_eq}
use Rattle.lua_heap.proofs.NextLemmas.{next-refused}
use Rattle.lua_heap.proofs.walk.first_pair.Goals as goal

pub returns-in-Ok : goal.returns-in-Ok
returns-in-Ok c = ap (λ o. Ok o) c.copied.ensures ∙ sym c.in-Ok.ensures.pair

pub returns-in-Err : goal.returns-in-Err
returns-in-Err c = next-refused value_eq c.args.table.now c.args.after c.in-Err.refused (c.in-Err.ensures.unknown.0 refl)
