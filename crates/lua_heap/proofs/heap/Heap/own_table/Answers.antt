use Rattle.std.proofs.Common.{ap, subst}
use Rattle.lua_meaning.specs.Value.{is_nil}
use Rattle.lua_heap.specs.declared.value.Value.{Value}
use Rattle.lua_heap.specs.Value.{value_view}
use Rattle.lua_heap.specs.Heap.{store_of, IsMade}
use Rattle.lua_heap.proofs.IndexLemmas.{unset_table, set_table, not_nil}
use Rattle.lua_heap.proofs.heap.Heap.own_table.Goals as goal

pub returns-in-Nil-clause-own : goal.returns-in-Nil-clause-own
returns-in-Nil-clause-own c = λ next.
    unset_table c.args.self.now.texts (store_of c.args.self.now) c.args.base.now c.in-Table.id c.in-Table.is _ _ (c.get_raw.ensures.value)
    (ap (λ v. is_nil (value_view c.args.self.now.texts v)) c.in-Nil.is) next

pub returns-in_default-get_raw : goal.returns-in_default-get_raw
returns-in_default-get_raw c =
    let P : Value → Type 0 = λ v. IsMade c.args.self.now v in
    record {
      own = λ next.
          set_table c.args.self.now.texts (store_of c.args.self.now) c.args.base.now c.in-Table.id c.in-Table.is _ _ (c.get_raw.ensures.value)
          (not_nil c.args.self.now.texts c.get_raw.result c.in_default-get_raw.not-Nil) next;
      made = subst P c.in-Table.is c.requires.base;
    }
