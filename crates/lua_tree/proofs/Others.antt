-- What a rule does at the words that no case of it names.
use Rattle.std.proofs.Common.{◌≡◌, ℕ, ℤ, suc, ◌+◌, List, [], ◌∷◌, length, false, true, refl, sym, subst}
use Rattle.lua_tree.specs.Tree.{Bytes, BinOp, sub, Expr, name, index, no_exprs, item_and, no_stats, return_stat, num_for, gen_for, local}
use Rattle.lua_tree.specs.Words as w
use Rattle.lua_tree.specs.Words.{Word, Key, key, Spot, Tok, word_of, spot_of}
use Rattle.lua_tree.specs.Attributes.{Counts, locals}
use Rattle.lua_tree.specs.Reading.{Sort, Value, Rule, Prog, give, fail, take, look, expect, expect_name, then, free, many, Answer, Reads, looks, program, Place, in_expr, leading, expr, prefix, suffixes, exprs, more, more_fields, next_param, more_names, init, prefix_stat, loop_block, more_of, first_of, prefix_of, suffixes_of, args_of, paren_args_of, more_exprs_of, fields_of, name_field_of, more_fields_of, params_of, next_param_of, more_params_of, more_names_of, semi_of, block_of, stat_of, more_targets_of, for_rest_of, num_for_rest_of, local_rest_of, init_of, last_of, return_rest_of, more_arms_of, func_name_of}
use Rattle.lua_tree.specs.Answer.{limits}

-- the next word is looked at, and this is what is done there
pub look_as : {s : Sort} {f : Word → Spot → Prog s} {p : Prog s} {ts : List Tok} {r : Answer (Value s)}
    → f (word_of ts) (spot_of ts) ≡ p → Reads limits s p ts r → Reads limits s (look f) ts r
look_as {s = s} {ts = ts} {r = r} e d = looks (subst (λ (p : Prog s). Reads limits s p ts r) (sym e) d)

pub prefix_other : (k : Place) (c : Counts) (v : Word) (s : Spot) → ((x : Bytes) → v ≡ w.name x → ⊥) → (v ≡ key w.open_paren → ⊥) → prefix_of k c v s ≡ fail
prefix_other k c (w.name x) s h i = absurd (h x refl)
prefix_other k c (key w.open_paren) s h i = absurd (i refl)
prefix_other k c v s h i = refl

pub paren_args_other : (l : ℕ) (c : Counts) (v : Word) (s : Spot) → (v ≡ key w.close_paren → ⊥) → paren_args_of l c v s ≡ then (exprs c) (λ es. expect w.close_paren free (λ s'. give (l, es)))
paren_args_other l c (key w.close_paren) s h = absurd (h refl)
paren_args_other l c v s h = refl

pub more_exprs_other : (c : Counts) (v : Word) (s : Spot) → (v ≡ key w.comma → ⊥) → more_exprs_of c v s ≡ give no_exprs
more_exprs_other c (key w.comma) s h = absurd (h refl)
more_exprs_other c v s h = refl

pub name_field_other : (l : ℕ) (x : Bytes) (c : Counts) (v : Word) (s : Spot) → (v ≡ key w.assign → ⊥)
    → name_field_of l x c v s ≡ then (suffixes in_expr c (name l x)) (λ a. then (more 0 c a) (λ e. then (more_fields c) (λ fs. give (item_and e fs))))
name_field_other l x c (key w.assign) s h = absurd (h refl)
name_field_other l x c v s h = refl

pub more_fields_other : (c : Counts) (v : Word) (s : Spot) → (v ≡ key w.comma → ⊥) → (v ≡ key w.semicolon → ⊥) → (v ≡ key w.close_brace → ⊥) → more_fields_of c v s ≡ fail
more_fields_other c (key w.comma) s h i j = absurd (h refl)
more_fields_other c (key w.semicolon) s h i j = absurd (i refl)
more_fields_other c (key w.close_brace) s h i j = absurd (j refl)
more_fields_other c v s h i j = refl

pub params_other : (n : ℕ) (v : Word) (s : Spot) → (v ≡ key w.close_paren → ⊥) → params_of n v s ≡ then (next_param n) give
params_other n (key w.close_paren) s h = absurd (h refl)
params_other n v s h = refl

pub next_param_other : (n : ℕ) (v : Word) (s : Spot) → (v ≡ key w.dots → ⊥) → ((x : Bytes) → v ≡ w.name x → ⊥) → next_param_of n v s ≡ fail
next_param_other n (key w.dots) s h i = absurd (h refl)
next_param_other n (w.name x) s h i = absurd (i x refl)
next_param_other n v s h i = refl

pub more_params_other : (n : ℕ) (v : Word) (s : Spot) → (v ≡ key w.comma → ⊥) → (v ≡ key w.close_paren → ⊥) → more_params_of n v s ≡ fail
more_params_other n (key w.comma) s h i = absurd (h refl)
more_params_other n (key w.close_paren) s h i = absurd (i refl)
more_params_other n v s h i = refl

pub more_names_other : (n : ℕ) (v : Word) (s : Spot) → (v ≡ key w.comma → ⊥) → more_names_of n v s ≡ give []
more_names_other n (key w.comma) s h = absurd (h refl)
more_names_other n v s h = refl

pub semi_other : (v : Word) (s : Spot) → (v ≡ key w.semicolon → ⊥) → semi_of v s ≡ give tt
semi_other (key w.semicolon) s h = absurd (h refl)
semi_other v s h = refl

pub more_targets_other : (c : Counts) (v : Word) (s : Spot) → (v ≡ key w.comma → ⊥) → more_targets_of c v s ≡ give no_exprs
more_targets_other c (key w.comma) s h = absurd (h refl)
more_targets_other c v s h = refl

pub init_other : (c : Counts) (v : Word) (s : Spot) → (v ≡ key w.assign → ⊥) → init_of c v s ≡ give no_exprs
init_other c (key w.assign) s h = absurd (h refl)
init_other c v s h = refl

pub more_arms_other : (c : Counts) (v : Word) (s : Spot) → (v ≡ key w.elseif → ⊥) → (v ≡ key w.else_ → ⊥) → (v ≡ key w.end_ → ⊥) → more_arms_of c v s ≡ fail
more_arms_other c (key w.elseif) s h i j = absurd (h refl)
more_arms_other c (key w.else_) s h i j = absurd (i refl)
more_arms_other c (key w.end_) s h i j = absurd (j refl)
more_arms_other c v s h i j = refl

pub func_name_other : (c : Counts) (a : Expr) (v : Word) (s : Spot) → (v ≡ key w.dot → ⊥) → (v ≡ key w.colon → ⊥) → func_name_of c a v s ≡ give (a, [])
func_name_other c a (key w.dot) s h i = absurd (h refl)
func_name_other c a (key w.colon) s h i = absurd (i refl)
func_name_other c a v s h i = refl
