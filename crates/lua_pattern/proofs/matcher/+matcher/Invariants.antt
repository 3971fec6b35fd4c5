use Rattle.std.proofs.Common.{◌≡◌, ◌≤◌, ◌+◌, ◌-◌, ◌*◌, drop, length}
use Rattle.std.specs.List.{prefix_len}
use Rattle.lua_pattern.specs.Class.{takes}
use Rattle.lua_pattern.specs.Ways.{after, at_each, falling, rising}
use Rattle.lua_pattern.proofs.matcher.+matcher.Given as goal

abbrev pub decreases-follow : goal.decreases-follow
decreases-follow l = 3 * length l.items.now

abbrev pub decreases-follow_class : goal.decreases-follow_class
decreases-follow_class l = 3 * length l.rest.now + 2

abbrev pub decreases-farthest_first : goal.decreases-farthest_first
decreases-farthest_first l = 3 * length l.rest.now + 1

abbrev pub decreases-nearest_first : goal.decreases-nearest_first
decreases-nearest_first l = 3 * length l.rest.now + 1

abbrev pub decreases-follow_close : goal.decreases-follow_close
decreases-follow_close l = 3 * length l.rest.now + 1

abbrev pub decreases-follow_mark : goal.decreases-follow_mark
decreases-follow_mark l = 3 * length l.rest.now + 1

abbrev pub invariant-farthest_first-loop-left : goal.invariant-farthest_first-loop-left
invariant-farthest_first-loop-left l = record {
  fewer : l.left ≤ l.count;
  same : l.marks ≡ l.fn.marks;
  so_far : after l.rest l.text (at_each l.fn.marks (falling l.first l.count)) ≡ after l.rest l.text (at_each l.fn.marks (falling l.first l.left));
}

abbrev pub decreases-farthest_first-loop-left : goal.decreases-farthest_first-loop-left
decreases-farthest_first-loop-left l = l.left

abbrev pub invariant-nearest_first-loop-end : goal.invariant-nearest_first-loop-end
invariant-nearest_first-loop-end l = record {
  within : l.place ≤ length l.text;
  same : l.marks ≡ l.fn.marks;
  so_far : after l.rest l.text (at_each l.fn.marks (rising l.at (prefix_len (takes l.class) (drop l.at l.text) + 1)))
      ≡ after l.rest l.text (at_each l.fn.marks (rising l.place (prefix_len (takes l.class) (drop l.place l.text) + 1)));
}

abbrev pub decreases-nearest_first-loop-end : goal.decreases-nearest_first-loop-end
decreases-nearest_first-loop-end l = length l.text - l.place
