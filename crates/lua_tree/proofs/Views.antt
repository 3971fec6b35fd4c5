-- How each node is seen as a tree.
use Rattle.std.proofs.Common.{◌≡◌, ℕ, ℤ, List, Option, Some, None, refl, rules}
use Rattle.lua_tree.specs.Tree as t
use Rattle.lua_tree.specs.declared.tree.Expr.{Expr}
use Rattle.lua_tree.specs.declared.tree.ExprKind.{ExprKind}
use Rattle.lua_tree.specs.declared.tree.ExprKind as kind
use Rattle.lua_tree.specs.declared.tree.ExprKind.TheVariants as kinds
use Rattle.lua_tree.specs.declared.tree.Stat as stat
use Rattle.lua_tree.specs.declared.tree.StatKind as stat_kind
use Rattle.lua_tree.specs.declared.tree.StatKind.TheVariants as stats
use Rattle.lua_tree.specs.View.{expr_view, expr_kind_view, stat_view}

pub view_nil : (l : ℕ) → expr_kind_view kinds.Nil l ≡ t.nil l
view_nil l = search (rules, kind.the_lemmas)

pub view_true : (l : ℕ) → expr_kind_view kinds.True l ≡ t.true_ l
view_true l = search (rules, kind.the_lemmas)

pub view_false : (l : ℕ) → expr_kind_view kinds.False l ≡ t.false_ l
view_false l = search (rules, kind.the_lemmas)

pub view_dots : (l : ℕ) → expr_kind_view kinds.Dots l ≡ t.dots l
view_dots l = search (rules, kind.the_lemmas)

pub view_number : (l : ℕ) (z : ℤ) → expr_kind_view (kinds.Number z) l ≡ t.number l z
view_number l z = search (rules, kind.the_lemmas)

pub view_str : (l : ℕ) (x : List ℕ) → expr_kind_view (kinds.Str x) l ≡ t.str l x
view_str l x = search (rules, kind.the_lemmas)

pub view_name : (l : ℕ) (x : List ℕ) → expr_kind_view (kinds.Name x) l ≡ t.name l x
view_name l x = search (rules, kind.the_lemmas)

pub view_break : (l : ℕ) → stat_view (record { line = l; what = stats.Break }) ≡ t.break_stat l
view_break l = search (rules, kind.the_lemmas, stat.the_lemmas, stat_kind.the_lemmas)
