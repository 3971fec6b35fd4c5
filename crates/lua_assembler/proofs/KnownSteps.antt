-- An instruction behind the constant that it names.
use Rattle.std.proofs.Common.{◌≡◌, ℕ, [], ◌∷◌, length, ap, subst, ◌∙◌}
use Rattle.lua_meaning.specs.Value.{Value}
use Rattle.lua_code.specs.Instr as i
use Rattle.lua_code.specs.declared.constant.Constant.{Constant}
use Rattle.lua_code.specs.View.{constant_at, constant_view}
use Rattle.lua_assembler.specs.Writing.{Written, constants_of, Adds, Puts, Knows}
use Rattle.lua_assembler.proofs.Adding.{behind_known, last_known}

pub known_put : (c : Constant) (v : Value) (make : Value → i.Instr) (n : ℕ) (old mid new : Written) → Knows c old mid → constant_view c ≡ v → n ≡ length (constants_of old) → Puts (make (constant_at (constants_of mid) n) ∷ []) mid new → Adds (make v ∷ []) old new
known_put c v make n old mid new k s e p =
    behind_known c (make v ∷ []) old mid new k
    (subst (λ u. Puts (make u ∷ []) mid new) (ap (λ m. constant_at (constants_of mid) m) e ∙ last_known c old mid k ∙ s) p)
