-- Locals that go out of scope again, and the first function that uses too many.
use Rattle.std.proofs.Common.{◌≡◌, ℕ, List, [], ◌∷◌, ◌++◌, length, take, refl, ap, sym, ◌∙◌, append_assoc}
use Rattle.std.proofs.lemmas.List.{append-nil, take_at}
use Rattle.lua_tree.specs.Tree.{Bytes, Block, no_stats, stat_and, Stat, local, local_function}
use Rattle.lua_upvalues.specs.Upvalues.{locals_behind, locals_at_end}

behind_kept : (s : Stat) (locals : List Bytes) → (more : List Bytes) × (locals_behind s locals ≡ locals ++ more)
behind_kept (local line xs es) locals = (xs, refl)
behind_kept (local_function line x f) locals = (x ∷ [], refl)
behind_kept s locals = ([], sym (append-nil locals))

block_kept : (b : Block) (locals : List Bytes) → (more : List Bytes) × (locals_at_end b locals ≡ locals ++ more)
block_kept no_stats locals = ([], sym (append-nil locals))
block_kept (stat_and s b) locals =
    let f = behind_kept s locals in
    let g = block_kept b (locals_behind s locals) in
    (f.0 ++ g.0, g.1 ∙ ap (λ l. l ++ g.0) f.1 ∙ append_assoc locals f.0 g.0)

-- a block's locals go out of scope
pub cut_block : (b : Block) (locals : List Bytes) (n : ℕ) → n ≡ length locals → take n (locals_at_end b locals) ≡ locals
cut_block b locals n e = let k = block_kept b locals in ap (λ l. take n l) k.1 ∙ take_at locals k.0 n (sym e)

-- and those that were declared for it
pub cut_declared : (b : Block) (locals xs : List Bytes) (n : ℕ) → n ≡ length locals → take n (locals_at_end b (locals ++ xs)) ≡ locals
cut_declared b locals xs n e =
    let k = block_kept b (locals ++ xs) in
    ap (λ l. take n l) (k.1 ∙ append_assoc locals xs k.0) ∙ take_at locals (xs ++ k.0) n (sym e)
