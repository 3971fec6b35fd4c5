use Rattle.std.proofs.Common.{◌<◌, length, sym, ap, ◌∙◌, arith}
use Rattle.std.proofs.lemmas.List.{get_or_read}
use Rattle.lua_table.specs.Gaps.{has_gap}
use Rattle.lua_table.proofs.GapLemmas.{root-least, root-there, no-gaps}
use Rattle.lua_table.proofs.gaps.Gaps.least.Goals as goal

pub returns-then-least-clause-none : goal.returns-then-least-clause-none
returns-then-least-clause-none c =
    let flags = c.self.inside.flags.items in
    let tree = c.self.inside.tree.items in
    let long : 1 < length tree = omega (arith, c.if-len-lt2.false, c.len.ensures, c.self.inside.tree.ok.0) in
    let root = get_or_read tree 1 _ long c.index-least.ensures 0 in
    rw (← c.self.view_is) (no-gaps flags tree c.self.invariant (sym root ∙ c.if-least.true))

pub returns-else-least-clause-has : goal.returns-else-least-clause-has
returns-else-least-clause-has c =
    let flags = c.self.inside.flags.items in
    let tree = c.self.inside.tree.items in
    let long : 1 < length tree = omega (arith, c.if-len-lt2.false, c.len.ensures, c.self.inside.tree.ok.0) in
    let root = get_or_read tree 1 _ long c.index-least.ensures 0 in
    rw (← c.self.view_is) (ap (has_gap flags) root ∙ root-there flags tree c.self.invariant long (λ none. c.if-least.false (root ∙ none)))

pub returns-else-least-clause-least : goal.returns-else-least-clause-least
returns-else-least-clause-least c =
    let flags = c.self.inside.flags.items in
    let tree = c.self.inside.tree.items in
    let long : 1 < length tree = omega (arith, c.if-len-lt2.false, c.len.ensures, c.self.inside.tree.ok.0) in
    let root = get_or_read tree 1 _ long c.index-least.ensures 0 in
    rw (← c.self.view_is) (λ k has. omega (arith, root, root-least flags tree c.self.invariant k has))
