use Rattle.std.proofs.Common.{◌≡◌, ◌<◌, ◌≤◌, ◌+◌, ◌-◌, ◌*◌, ◌∷◌, length, List, drop}
use Rattle.lua_tree.specs.Tree.{Expr, Exprs, Fields, Block, Arms}
use Rattle.lua_tree.specs.Words.{Tok}
use Rattle.lua_tree.specs.Reading.{Answer, Reads, program, an_expr, some_exprs, some_targets, some_fields, some_arms, a_block, more, suffixes, exprs, more_exprs, fields, block, arms, more_arms, more_targets}
use Rattle.lua_tree.specs.Spelled.{Spelled}
use Rattle.lua_tree.specs.View.{expr_view}
use Rattle.lua_tree.specs.Answer.{Behind, Fits, limits, counts, place_of, as_part, exprs_tall, fields_tall}
use Rattle.lua_tree.proofs.Lists.{exprs_onto, fields_onto, stats_onto, arms_onto, stats_tall, arms_tall}
use Rattle.lua_tree.proofs.+grammar.Given as goal

abbrev pub decreases-suffixes::arguments : goal.decreases-suffixes::arguments
decreases-suffixes::arguments l = 16 * (length l.source.now.tokens.now - l.at) + 6

abbrev pub decreases-conditions::arm : goal.decreases-conditions::arm
decreases-conditions::arm l = 16 * (length l.source.now.tokens.now - l.at) + 6

abbrev pub decreases-assignments::assignment : goal.decreases-assignments::assignment
decreases-assignments::assignment l = 16 * (length l.source.now.tokens.now - l.first.at) + 8

abbrev pub decreases-statements::block : goal.decreases-statements::block
decreases-statements::block l = 16 * (length l.source.now.tokens.now - l.at) + 10

abbrev pub decreases-functions::body : goal.decreases-functions::body
decreases-functions::body l = 16 * (length l.source.now.tokens.now - l.at) + 1

abbrev pub decreases-suffixes::call : goal.decreases-suffixes::call
decreases-suffixes::call l = 16 * (length l.source.now.tokens.now - l.callee.at) + 7

abbrev pub decreases-assignments::call_or_assignment : goal.decreases-assignments::call_or_assignment
decreases-assignments::call_or_assignment l = 16 * (length l.source.now.tokens.now - l.at) + 7

abbrev pub decreases-loops::do_block : goal.decreases-loops::do_block
decreases-loops::do_block l = 16 * (length l.source.now.tokens.now - l.at) + 6

abbrev pub decreases-statements::do_statement : goal.decreases-statements::do_statement
decreases-statements::do_statement l = 16 * (length l.source.now.tokens.now - l.at) + 7

abbrev pub decreases-conditions::else_part : goal.decreases-conditions::else_part
decreases-conditions::else_part l = 16 * (length l.source.now.tokens.now - l.at) + 6

abbrev pub decreases-expressions::expression : goal.decreases-expressions::expression
decreases-expressions::expression l = 16 * (length l.source.now.tokens.now - l.at) + 5

abbrev pub decreases-expressions::expressions : goal.decreases-expressions::expressions
decreases-expressions::expressions l = 16 * (length l.source.now.tokens.now - l.at) + 6

abbrev pub decreases-tables::field : goal.decreases-tables::field
decreases-tables::field l = 16 * (length l.source.now.tokens.now - l.at) + 7

abbrev pub decreases-tables::fields : goal.decreases-tables::fields
decreases-tables::fields l = 16 * (length l.source.now.tokens.now - l.at) + 8

abbrev pub decreases-loops::for_statement : goal.decreases-loops::for_statement
decreases-loops::for_statement l = 16 * (length l.source.now.tokens.now - l.at) + 7

abbrev pub decreases-functions::function_expression : goal.decreases-functions::function_expression
decreases-functions::function_expression l = 16 * (length l.source.now.tokens.now - l.at) + 3

abbrev pub decreases-functions::function_statement : goal.decreases-functions::function_statement
decreases-functions::function_statement l = 16 * (length l.source.now.tokens.now - l.at) + 7

abbrev pub decreases-loops::generic_for : goal.decreases-loops::generic_for
decreases-loops::generic_for l = 16 * (length l.source.now.tokens.now - l.at) + 7

abbrev pub decreases-conditions::if_statement : goal.decreases-conditions::if_statement
decreases-conditions::if_statement l = 16 * (length l.source.now.tokens.now - l.at) + 7

abbrev pub decreases-suffixes::index : goal.decreases-suffixes::index
decreases-suffixes::index l = 16 * (length l.source.now.tokens.now - l.base.at) + 7

abbrev pub decreases-assignments::initial_values : goal.decreases-assignments::initial_values
decreases-assignments::initial_values l = 16 * (length l.source.now.tokens.now - l.at) + 7

abbrev pub decreases-tables::keyed_field : goal.decreases-tables::keyed_field
decreases-tables::keyed_field l = 16 * (length l.source.now.tokens.now - l.at) + 6

abbrev pub decreases-statements::last_statement : goal.decreases-statements::last_statement
decreases-statements::last_statement l = 16 * (length l.source.now.tokens.now - l.at) + 8

abbrev pub decreases-suffixes::listed : goal.decreases-suffixes::listed
decreases-suffixes::listed l = 16 * (length l.source.now.tokens.now - l.at) + 5

abbrev pub decreases-functions::local_function : goal.decreases-functions::local_function
decreases-functions::local_function l = 16 * (length l.source.now.tokens.now - l.at) + 6

abbrev pub decreases-statements::local_statement : goal.decreases-statements::local_statement
decreases-statements::local_statement l = 16 * (length l.source.now.tokens.now - l.at) + 7

abbrev pub decreases-assignments::local_variables : goal.decreases-assignments::local_variables
decreases-assignments::local_variables l = 16 * (length l.source.now.tokens.now - l.at) + 6

abbrev pub decreases-suffixes::method_call : goal.decreases-suffixes::method_call
decreases-suffixes::method_call l = 16 * (length l.source.now.tokens.now - l.object.at) + 7

abbrev pub decreases-tables::name_field : goal.decreases-tables::name_field
decreases-tables::name_field l = 16 * (length l.source.now.tokens.now - l.at) + 6

abbrev pub decreases-tables::named_field : goal.decreases-tables::named_field
decreases-tables::named_field l = 16 * (length l.source.now.tokens.now - l.at) + 5

abbrev pub decreases-loops::numeric_for : goal.decreases-loops::numeric_for
decreases-loops::numeric_for l = 16 * (length l.source.now.tokens.now - l.at) + 6

abbrev pub decreases-suffixes::only_table : goal.decreases-suffixes::only_table
decreases-suffixes::only_table l = 16 * (length l.source.now.tokens.now - l.at) + 5

abbrev pub decreases-expressions::operand : goal.decreases-expressions::operand
decreases-expressions::operand l = 16 * (length l.source.now.tokens.now - l.at) + 4

abbrev pub decreases-expressions::operation : goal.decreases-expressions::operation
decreases-expressions::operation l = 16 * (length l.source.now.tokens.now - l.left.at) + 0

abbrev pub decreases-expressions::operations : goal.decreases-expressions::operations
decreases-expressions::operations l = 16 * (length l.source.now.tokens.now - l.first.at) + 1

abbrev pub decreases-suffixes::parenthesized : goal.decreases-suffixes::parenthesized
decreases-suffixes::parenthesized l = 16 * (length l.source.now.tokens.now - l.at) + 1

abbrev pub decreases-suffixes::base_expression : goal.decreases-suffixes::base_expression
decreases-suffixes::base_expression l = 16 * (length l.source.now.tokens.now - l.at) + 2

abbrev pub decreases-suffixes::prefix_expression : goal.decreases-suffixes::prefix_expression
decreases-suffixes::prefix_expression l = 16 * (length l.source.now.tokens.now - l.at) + 3

abbrev pub decreases-loops::repeat_statement : goal.decreases-loops::repeat_statement
decreases-loops::repeat_statement l = 16 * (length l.source.now.tokens.now - l.at) + 7

abbrev pub decreases-statements::return_statement : goal.decreases-statements::return_statement
decreases-statements::return_statement l = 16 * (length l.source.now.tokens.now - l.at) + 7

abbrev pub decreases-statements::statement : goal.decreases-statements::statement
decreases-statements::statement l = 16 * (length l.source.now.tokens.now - l.at) + 8

abbrev pub decreases-loops::step : goal.decreases-loops::step
decreases-loops::step l = 16 * (length l.source.now.tokens.now - l.at) + 6

abbrev pub decreases-suffixes::suffix : goal.decreases-suffixes::suffix
decreases-suffixes::suffix l = 16 * (length l.source.now.tokens.now - l.base.at) + 8

abbrev pub decreases-suffixes::suffixes : goal.decreases-suffixes::suffixes
decreases-suffixes::suffixes l = 16 * (length l.source.now.tokens.now - l.first.at) + 9

abbrev pub decreases-tables::table : goal.decreases-tables::table
decreases-tables::table l = 16 * (length l.source.now.tokens.now - l.at) + 3

abbrev pub decreases-assignments::target : goal.decreases-assignments::target
decreases-assignments::target l = 16 * (length l.source.now.tokens.now - l.at) + 4

abbrev pub decreases-expressions::unary : goal.decreases-expressions::unary
decreases-expressions::unary l = 16 * (length l.source.now.tokens.now - l.at) + 3

abbrev pub decreases-loops::while_statement : goal.decreases-loops::while_statement
decreases-loops::while_statement l = 16 * (length l.source.now.tokens.now - l.at) + 7

abbrev pub invariant-expressions::expressions-items : goal.invariant-expressions::expressions-items
invariant-expressions::expressions-items l = record {
  forth : l.fn.at < l.end;
  within : l.end ≤ length l.source.tokens.now;
  high : l.height ≡ exprs_tall l.items.items;
  low : l.scope.depth + l.height ≤ 200;
  so_far : (words : List Tok) → Spelled l.source.bytes.now 1 l.source.tokens.now words → (r : Answer Exprs)
      → Reads limits some_exprs (program (more_exprs (counts l.scope))) (drop l.end words) r → Reads limits some_exprs (program (exprs (counts l.scope))) (drop l.fn.at words) (as_part (exprs_onto l.items.items) r);
}

abbrev pub decreases-expressions::expressions-items : goal.decreases-expressions::expressions-items
decreases-expressions::expressions-items l = length l.source.tokens.now - l.end

abbrev pub invariant-expressions::operations-operators : goal.invariant-expressions::operations-operators
invariant-expressions::operations-operators l = record {
  behind : Behind l.source.tokens.now l.scope.depth l.left;
  forth : l.fn.first.at ≤ l.left.at;
  so_far : (words : List Tok) → Spelled l.source.bytes.now 1 l.source.tokens.now words → (r : Answer Expr)
      → Reads limits an_expr (program (more l.level (counts l.scope) (expr_view l.left.node))) (drop l.left.at words) r → Reads limits an_expr (program (more l.level (counts l.scope) (expr_view l.fn.first.node))) (drop l.fn.first.at words) r;
}

abbrev pub decreases-expressions::operations-operators : goal.decreases-expressions::operations-operators
decreases-expressions::operations-operators l = length l.source.tokens.now - l.left.at

abbrev pub invariant-suffixes::suffixes-suffixes : goal.invariant-suffixes::suffixes-suffixes
invariant-suffixes::suffixes-suffixes l = record {
  behind : Behind l.source.tokens.now l.scope.depth l.base;
  forth : l.fn.first.at ≤ l.base.at;
  so_far : (words : List Tok) → Spelled l.source.bytes.now 1 l.source.tokens.now words → (r : Answer Expr)
      → Reads limits an_expr (program (suffixes (place_of l.position) (counts l.scope) (expr_view l.base.node))) (drop l.base.at words) r → Reads limits an_expr (program (suffixes (place_of l.position) (counts l.scope) (expr_view l.fn.first.node))) (drop l.fn.first.at words) r;
}

abbrev pub decreases-suffixes::suffixes-suffixes : goal.decreases-suffixes::suffixes-suffixes
decreases-suffixes::suffixes-suffixes l = length l.source.tokens.now - l.base.at

abbrev pub invariant-tables::fields-fields : goal.invariant-tables::fields-fields
invariant-tables::fields-fields l = record {
  forth : l.fn.at ≤ l.end;
  within : l.end ≤ length l.source.tokens.now;
  high : l.height ≡ fields_tall l.fields.items;
  low : l.scope.depth + l.height ≤ 200;
  so_far : (words : List Tok) → Spelled l.source.bytes.now 1 l.source.tokens.now words → (r : Answer Fields)
      → Reads limits some_fields (program (fields (counts l.scope))) (drop l.end words) r → Reads limits some_fields (program (fields (counts l.scope))) (drop l.fn.at words) (as_part (fields_onto l.fields.items) r);
}

abbrev pub decreases-tables::fields-fields : goal.decreases-tables::fields-fields
decreases-tables::fields-fields l = length l.source.tokens.now - l.end

abbrev pub invariant-statements::block-statements : goal.invariant-statements::block-statements
invariant-statements::block-statements l = record {
  forth : l.fn.at ≤ l.end;
  within : l.end ≤ length l.source.tokens.now;
  high : l.height ≡ stats_tall l.stats.items;
  low : l.fn.scope.depth + l.height ≤ 200;
  fits : Fits l.inner;
  depth : l.inner.depth ≡ l.fn.scope.depth;
  so_far : (words : List Tok) → Spelled l.source.bytes.now 1 l.source.tokens.now words → (r : Answer Block)
      → Reads limits a_block (program (block (counts l.inner))) (drop l.end words) r → Reads limits a_block (program (block (counts l.fn.scope))) (drop l.fn.at words) (as_part (stats_onto l.stats.items) r);
}

abbrev pub decreases-statements::block-statements : goal.decreases-statements::block-statements
decreases-statements::block-statements l = length l.source.tokens.now - l.end

abbrev pub invariant-conditions::if_statement-arms : goal.invariant-conditions::if_statement-arms
invariant-conditions::if_statement-arms l = record {
  forth : l.fn.at < l.end;
  within : l.end ≤ length l.source.tokens.now;
  high : l.height ≡ arms_tall l.arms.items;
  low : l.scope.depth + l.height ≤ 200;
  so_far : (words : List Tok) → Spelled l.source.bytes.now 1 l.source.tokens.now words → (r : Answer Arms)
      → Reads limits some_arms (program (more_arms (counts l.scope))) (drop l.end words) r → Reads limits some_arms (program (arms (counts l.scope))) (drop (l.fn.at + 1) words) (as_part (arms_onto l.arms.items) r);
}

abbrev pub decreases-conditions::if_statement-arms : goal.decreases-conditions::if_statement-arms
decreases-conditions::if_statement-arms l = length l.source.tokens.now - l.end

abbrev pub invariant-assignments::assignment-targets : goal.invariant-assignments::assignment-targets
invariant-assignments::assignment-targets l = record {
  forth : l.fn.first.at ≤ l.end;
  within : l.end ≤ length l.source.tokens.now;
  high : l.height ≡ exprs_tall l.targets.items;
  front : l.targets.items ≡ l.fn.first.node ∷ drop 1 l.targets.items;
  low : l.scope.depth + l.height ≤ 200;
  so_far : (words : List Tok) → Spelled l.source.bytes.now 1 l.source.tokens.now words → (r : Answer Exprs)
      → Reads limits some_targets (program (more_targets (counts l.scope))) (drop l.end words) r → Reads limits some_targets (program (more_targets (counts l.scope))) (drop l.fn.first.at words) (as_part (exprs_onto (drop 1 l.targets.items)) r);
}

abbrev pub decreases-assignments::assignment-targets : goal.decreases-assignments::assignment-targets
decreases-assignments::assignment-targets l = length l.source.tokens.now - l.end
