use Rattle.std.proofs.Common.{◌<◌, length, ap, arith}
use Rattle.lua_table.proofs.GapLemmas.{IsTree-written}
use Rattle.lua_table.proofs.gaps.Gaps.mark.Goals as goal

pub invariant_of-self : goal.invariant_of-self
invariant_of-self c =
    let flags = c.self.inside.flags.items in
    let tree = c.self.inside.tree.items in
    let within : c.args.number < length flags = omega (arith, ap length c.self.view_is, c.requires) in
    IsTree-written flags tree c.self.invariant c.args.number c.args.is_in c.first_of_block.result within
    c.deref.result.now c.deref.ensures.value c.first_of_block.ensures
    c.len.result (omega (arith, c.len.ensures, c.self.inside.tree.ok.0)) c.deref_mut.result.now c.deref_mut.ensures.value
    c.update_above.new.tree c.update_above.auto.tree c.update_above.ensures.nodes c.update_above.ensures.leaves
    _ c.self.inside.tree.len (omega (arith, c.self.inside.tree.ok.0))
