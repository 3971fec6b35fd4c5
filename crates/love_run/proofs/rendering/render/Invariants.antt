use Rattle.std.proofs.Common.{◌≡◌, ◌++◌, drop}
use Rattle.love_run.specs.Rendering.{other_parts, rendering}
use Rattle.love_run.proofs.rendering.render.Given as goal

-- what was put so far, followed by the parts that are left, is the whole
abbrev pub invariant-loop-state : goal.invariant-loop-state
invariant-loop-state l = l.out.items ++ other_parts (drop l.state-index l.others) ≡ rendering l.fn.states
