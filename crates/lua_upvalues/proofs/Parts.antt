-- Names of parts, one behind the other.
use Rattle.std.proofs.Common.{ℕ, ◌≡◌, Bool, List, [], ◌∷◌, ◌++◌, Option, Some, None, append_assoc, ◌∙◌, ap}
use Rattle.lua_tree.specs.Tree.{Bytes, Expr, Block}
use Rattle.lua_tree.specs.View.{num_for_of}
use Rattle.lua_meaning.specs.Names.{expr_names, block_names, stat_names, without}
use Rattle.lua_upvalues.specs.Parts.{option_names}

pub in_three : (xs ys zs : List Bytes) → (xs ++ ys) ++ zs ≡ xs ++ (ys ++ zs)
in_three xs ys zs = append_assoc xs ys zs

in_four : (xs ys zs ws later : List Bytes) → (xs ++ (ys ++ (zs ++ ws))) ++ later ≡ xs ++ (ys ++ (zs ++ (ws ++ later)))
in_four xs ys zs ws later =
    append_assoc xs (ys ++ (zs ++ ws)) later
    ∙ ap (λ l. xs ++ l) (append_assoc ys (zs ++ ws) later ∙ ap (λ l. ys ++ l) (append_assoc zs ws later))

pub numeric_names : (here : Bool) (x : Bytes) (a b : Expr) (c : Option Expr) (body : Block) (line : ℕ) (later : List Bytes) → stat_names here (num_for_of x a b c body line) later ≡ expr_names here a ++ (expr_names here b ++ (option_names here c ++ (without (x ∷ []) (block_names here body []) ++ later)))
numeric_names here x a b None body line later = append_assoc (expr_names here a) (expr_names here b ++ without (x ∷ []) (block_names here body [])) later ∙ ap (λ l. expr_names here a ++ l) (append_assoc (expr_names here b) (without (x ∷ []) (block_names here body [])) later)
numeric_names here x a b (Some c) body line later = in_four (expr_names here a) (expr_names here b) (expr_names here c) (without (x ∷ []) (block_names here body [])) later
