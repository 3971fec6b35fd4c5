-- Lists of nodes, read one after the other.
use Rattle.std.proofs.Common.{◌≡◌, ℕ, suc, ◌+◌, max, List, [], ◌∷◌, ◌++◌, map, refl, sym, ap, ◌∙◌, arith}
use Rattle.lua_tree.specs.declared.tree.Expr.{Expr}
use Rattle.lua_tree.specs.declared.tree.Field.{Field}
use Rattle.lua_tree.specs.declared.tree.Stat.{Stat}
use Rattle.lua_tree.specs.declared.tree.Arm.{Arm}
use Rattle.lua_tree.specs.Tree as t
use Rattle.lua_tree.specs.Words.{Tok}
use Rattle.lua_tree.specs.Attributes.{nodes, most_exprs, most_fields, most_block, most_arms}
use Rattle.lua_tree.specs.Reading.{Answer, got, stuck}
use Rattle.lua_tree.specs.View.{expr_view, exprs_of, exprs_view, field_view, fields_of, fields_view, stat_view, block_of, arm_view, arms_of}
use Rattle.lua_tree.specs.Answer.{as_part, expr_tall, exprs_tall}

-- what stands in front of what follows
abbrev pub exprs_onto : List Expr → t.Exprs → t.Exprs
exprs_onto [] rest = rest
exprs_onto (e ∷ es) rest = t.expr_and (expr_view e) (exprs_onto es rest)

abbrev pub fields_onto : List Field → t.Fields → t.Fields
fields_onto [] rest = rest
fields_onto (f ∷ fs) rest = field_view f (fields_onto fs rest)

abbrev pub stats_onto : List Stat → t.Block → t.Block
stats_onto [] rest = rest
stats_onto (s ∷ ss) rest = t.stat_and (stat_view s) (stats_onto ss rest)

abbrev pub arms_onto : List Arm → t.Arms → t.Arms
arms_onto [] rest = rest
arms_onto (a ∷ xs) rest = arm_view a (arms_onto xs rest)

-- how high lists of statements and of arms are
abbrev pub stats_tall : List Stat → ℕ
stats_tall ss = most_block nodes 0 (block_of (map stat_view ss))

abbrev pub arms_tall : List Arm → ℕ
arms_tall xs = most_arms nodes 0 (arms_of (map arm_view xs) t.no_else)

pub exprs_end : (es : List Expr) → exprs_onto es t.no_exprs ≡ exprs_view es
exprs_end [] = refl
exprs_end (e ∷ es) = ap (t.expr_and (expr_view e)) (exprs_end es)

pub fields_end : (fs : List Field) → fields_onto fs t.no_fields ≡ fields_view fs
fields_end [] = refl
fields_end (f ∷ fs) = ap (field_view f) (fields_end fs)

pub stats_end : (ss : List Stat) → stats_onto ss t.no_stats ≡ block_of (map stat_view ss)
stats_end [] = refl
stats_end (s ∷ ss) = ap (t.stat_and (stat_view s)) (stats_end ss)

pub arms_end : (xs : List Arm) (last : t.Arms) → arms_onto xs last ≡ arms_of (map arm_view xs) last
arms_end [] last = refl
arms_end (a ∷ xs) last = ap (arm_view a) (arms_end xs last)

pub exprs_last : (es : List Expr) (e : Expr) (rest : t.Exprs) → exprs_onto (es ++ e ∷ []) rest ≡ exprs_onto es (t.expr_and (expr_view e) rest)
exprs_last [] e rest = refl
exprs_last (d ∷ es) e rest = ap (t.expr_and (expr_view d)) (exprs_last es e rest)

pub fields_last : (fs : List Field) (f : Field) (rest : t.Fields) → fields_onto (fs ++ f ∷ []) rest ≡ fields_onto fs (field_view f rest)
fields_last [] f rest = refl
fields_last (d ∷ fs) f rest = ap (field_view d) (fields_last fs f rest)

pub stats_last : (ss : List Stat) (s : Stat) (rest : t.Block) → stats_onto (ss ++ s ∷ []) rest ≡ stats_onto ss (t.stat_and (stat_view s) rest)
stats_last [] s rest = refl
stats_last (d ∷ ss) s rest = ap (t.stat_and (stat_view d)) (stats_last ss s rest)

pub arms_last : (xs : List Arm) (a : Arm) (rest : t.Arms) → arms_onto (xs ++ a ∷ []) rest ≡ arms_onto xs (arm_view a rest)
arms_last [] a rest = refl
arms_last (d ∷ xs) a rest = ap (arm_view d) (arms_last xs a rest)

-- one more expression
pub exprs_tall_last : (es : List Expr) (e : Expr) → exprs_tall (es ++ e ∷ []) ≡ max (exprs_tall es) (expr_tall e)
exprs_tall_last [] e = omega arith
exprs_tall_last (d ∷ es) e = let h = exprs_tall_last es e in omega (arith, h)

-- parts of parts
pub part_of_part : {A B C : Type 0} (f : B → C) (g : A → B) (r : Answer A) → as_part f (as_part g r) ≡ as_part (λ a. f (g a)) r
part_of_part f g (got a us) = refl
part_of_part f g (stuck x us) = refl
