use Rattle.std.proofs.Common.{◌≡◌, map, drop}
use Rattle.lua_tree.specs.Tree.{Arms}
use Rattle.lua_tree.specs.View.{expr_view, field_view, arm_view, stat_view, exprs_of, fields_of, block_of, arms_of}
use Rattle.lua_upvalues.specs.Upvalues.{exprs_fault, fields_fault, block_fault, arms_fault, locals_at_end}
use Rattle.lua_upvalues.proofs.+upvalues.Given as goal

abbrev pub invariant-walk::check_exprs-loop-expr : goal.invariant-walk::check_exprs-loop-expr
invariant-walk::check_exprs-loop-expr l =
    (l.locals ≡ l.fn.locals)
    × (exprs_fault (exprs_of (map expr_view l.exprs)) l.fn.locals ≡ exprs_fault (exprs_of (map expr_view (drop l.expr-index l.exprs))) l.fn.locals)

abbrev pub invariant-walk::check_fields-loop-field : goal.invariant-walk::check_fields-loop-field
invariant-walk::check_fields-loop-field l =
    (l.locals ≡ l.fn.locals)
    × (fields_fault (fields_of (map field_view l.fields)) l.fn.locals ≡ fields_fault (fields_of (map field_view (drop l.field-index l.fields))) l.fn.locals)

abbrev pub invariant-walk::check_stats-loop-stat : goal.invariant-walk::check_stats-loop-stat
invariant-walk::check_stats-loop-stat l =
    (block_fault (block_of (map stat_view l.stat-items)) l.fn.locals ≡ block_fault (block_of (map stat_view (drop l.stat-index l.stat-items))) l.locals)
    × (locals_at_end (block_of (map stat_view l.stat-items)) l.fn.locals ≡ locals_at_end (block_of (map stat_view (drop l.stat-index l.stat-items))) l.locals)

abbrev pub invariant-stat_walk::check_arms-loop-arm : goal.invariant-stat_walk::check_arms-loop-arm
invariant-stat_walk::check_arms-loop-arm l =
    (l.locals ≡ l.fn.locals)
    × ((last : Arms) → arms_fault (arms_of (map arm_view l.arms) last) l.fn.locals ≡ arms_fault (arms_of (map arm_view (drop l.arm-index l.arms)) last) l.fn.locals)
