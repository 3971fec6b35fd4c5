-- How operators bind.
use Rattle.std.proofs.Common.{List, [], ◌∷◌, arith}
use Rattle.lua_tree.specs.Tree.{not_, negate, equal, concat, sub, pow, Expr, number, name, unary, binary}
use Rattle.lua_tree.specs.Words as w
use Rattle.lua_tree.specs.Words.{Word, key}
use Rattle.lua_tree.specs.Grammar.{Exp, number_exp, prefix_exp, binary_exp, unary_exp, var_prefix, name_var, one_exp, last_stat, return_with_of, no_semi}
use Rattle.lua_tree.specs.Precedence.{on_one_line, returning, OnlySpells, PowerOfMinus, MinusOfPower, ConcatToTheRight, MinusToTheLeft, NotBindsTighter}
use Rattle.lua_tree.proofs.Exactly.{one_chunk}

only : (vs : List Word) (e : Expr) → Exp 0 e (on_one_line vs) [] → OnlySpells vs e
only vs e d =
    let s = last_stat (return_with_of (one_exp d)) no_semi in
    (s, λ b i. one_chunk (on_one_line (key w.return_ ∷ vs)) b (returning e) i s)

pub power_of_minus : PowerOfMinus
power_of_minus x y z = only (w.number x ∷ w.op pow ∷ w.op sub ∷ w.number y ∷ w.op pow ∷ w.number z ∷ []) (binary 1 pow (number 1 x) (unary 1 negate (binary 1 pow (number 1 y) (number 1 z))))
    (binary_exp (omega arith) number_exp (unary_exp (omega arith) tt (binary_exp (omega arith) number_exp number_exp)))

pub minus_of_power : MinusOfPower
minus_of_power x z = only (w.op sub ∷ w.number x ∷ w.op pow ∷ w.number z ∷ []) (unary 1 negate (binary 1 pow (number 1 x) (number 1 z)))
    (unary_exp (omega arith) tt (binary_exp (omega arith) number_exp number_exp))

pub concat_to_the_right : ConcatToTheRight
concat_to_the_right a b c =
    only (w.name a ∷ w.op concat ∷ w.name b ∷ w.op concat ∷ w.name c ∷ []) (binary 1 concat (name 1 a) (binary 1 concat (name 1 b) (name 1 c)))
    (binary_exp (omega arith) (prefix_exp (var_prefix name_var) tt) (binary_exp (omega arith) (prefix_exp (var_prefix name_var) tt) (prefix_exp (var_prefix name_var) tt)))

pub minus_to_the_left : MinusToTheLeft
minus_to_the_left a b c =
    only (w.name a ∷ w.op sub ∷ w.name b ∷ w.op sub ∷ w.name c ∷ []) (binary 1 sub (binary 1 sub (name 1 a) (name 1 b)) (name 1 c))
    (binary_exp (omega arith) (binary_exp (omega arith) (prefix_exp (var_prefix name_var) tt) (prefix_exp (var_prefix name_var) tt)) (prefix_exp (var_prefix name_var) tt))

pub not_binds_tighter : NotBindsTighter
not_binds_tighter a b = only (key w.not_ ∷ w.name a ∷ w.op equal ∷ w.name b ∷ []) (binary 1 equal (unary 1 not_ (name 1 a)) (name 1 b))
    (binary_exp (omega arith) (unary_exp (omega arith) tt (prefix_exp (var_prefix name_var) tt)) (prefix_exp (var_prefix name_var) tt))
