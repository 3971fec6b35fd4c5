use Rattle.std.proofs.Common.{◌≡◌, ◌≤◌, ◌++◌, map, drop, length}
use Rattle.lua_tree.specs.View.{expr_view, field_view, arm_view, stat_view, exprs_of, fields_of, block_of, arms_of}
use Rattle.lua_meaning.specs.Names.{exprs_names, fields_names, block_names}
use Rattle.lua_upvalues.specs.Parts.{ArmsNames}
use Rattle.lua_upvalues.proofs.+names.Given as goal

abbrev pub invariant-expressions::exprs_names-exprs : goal.invariant-expressions::exprs_names-exprs
invariant-expressions::exprs_names-exprs l = (l.at ≤ length l.exprs) × (l.names ≡ exprs_names l.here (exprs_of (map expr_view (drop l.at l.exprs))) ++ l.fn.names)

abbrev pub decreases-expressions::exprs_names-exprs : goal.decreases-expressions::exprs_names-exprs
decreases-expressions::exprs_names-exprs l = l.at

abbrev pub invariant-expressions::fields_names-fields : goal.invariant-expressions::fields_names-fields
invariant-expressions::fields_names-fields l = (l.at ≤ length l.fields) × (l.names ≡ fields_names l.here (fields_of (map field_view (drop l.at l.fields))) ++ l.fn.names)

abbrev pub decreases-expressions::fields_names-fields : goal.decreases-expressions::fields_names-fields
decreases-expressions::fields_names-fields l = l.at

abbrev pub invariant-blocks::block_names-stats : goal.invariant-blocks::block_names-stats
invariant-blocks::block_names-stats l = (l.at ≤ length l.stats) × (l.names ≡ block_names l.here (block_of (map stat_view (drop l.at l.stats))) l.fn.names)

abbrev pub decreases-blocks::block_names-stats : goal.decreases-blocks::block_names-stats
decreases-blocks::block_names-stats l = l.at

abbrev pub invariant-statements::arms_names-arms : goal.invariant-statements::arms_names-arms
invariant-statements::arms_names-arms l = (l.at ≤ length l.arms) × ArmsNames l.here (arms_of (map arm_view (drop l.at l.arms))) l.fn.names l.names

abbrev pub decreases-statements::arms_names-arms : goal.decreases-statements::arms_names-arms
decreases-statements::arms_names-arms l = l.at
