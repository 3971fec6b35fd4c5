-- `tonumber` over arguments.
use Rattle.std.proofs.Common.{◌≡◌, ℤ, pos, Bool, true, false, List, [], ◌∷◌, ap, refl, ◌∙◌}
use Rattle.std.specs.Prelude.{if◌then◌else◌, codes}
use Rattle.lua_tree.specs.Tree.{Bytes}
use Rattle.lua_meaning.specs.Value.{Value, nil, flag, num, str, table, func, native, channel, thread, datum, same}
use Rattle.lua_meaning.specs.Number.{read_in}
use Rattle.lua_meaning.specs.Text.{as_number}
use Rattle.lua_meaning.specs.Store.{Store}
use Rattle.lua_meaning.specs.Fault.{improper}
use Rattle.lua_meaning.specs.Arguments.{Lib, answers, answer_one, fault, argument, text_argument, ◌>>=◌}
use Rattle.lua_meaning.specs.Basic.{tonumber, to_number, number_value, is_base, base_number}

-- a value as a number of base 10 is what it reads as
to_number-is : (v : Value) → to_number v ≡ number_value (as_number v)
to_number-is nil = refl
to_number-is (flag b) = refl
to_number-is (num z) = refl
to_number-is (str s) = refl
to_number-is (table t) = refl
to_number-is (func f) = refl
to_number-is (native f) = refl
to_number-is (channel c) = refl
to_number-is (thread t) = refl
to_number-is (datum d) = refl

-- what follows when the base is read, and when the text is
abbrev pub by_base : ℤ → Bytes → Lib (List Value)
by_base base text =
    if is_base base then answer_one (number_value (read_in (base_number base) text)) else fault (improper 1 (codes "base out of range"))

abbrev by_ten : List Value → ℤ → Bool → Lib (List Value)
by_ten vs base ten = if ten then answer_one (to_number (argument 0 vs)) else (text_argument 0 vs >>= by_base base)

abbrev pub in_base : List Value → ℤ → Lib (List Value)
in_base vs base = by_ten vs base (same (num base) (num (pos 10)))

pub base-ten : (vs : List Value) (base : ℤ) (s : Store) → same (num base) (num (pos 10)) ≡ true → in_base vs base s ≡ answers (number_value (as_number (argument 0 vs)) ∷ []) s
base-ten vs base s e = ap (λ (b : Bool). by_ten vs base b s) e ∙ ap (λ v. answers (v ∷ []) s) (to_number-is (argument 0 vs))

pub base-other : (vs : List Value) (base : ℤ) (s : Store) → same (num base) (num (pos 10)) ≡ false → in_base vs base s ≡ (text_argument 0 vs >>= by_base base) s
base-other vs base s other = ap (λ (b : Bool). by_ten vs base b s) other

pub tonumber-other : (text : Bytes) (base : ℤ) (s : Store) → same (num base) (num (pos 10)) ≡ false → tonumber (str text ∷ num base ∷ []) s ≡ by_base base text s
tonumber-other text base s other = ap (λ (b : Bool). by_ten (str text ∷ num base ∷ []) base b s) other
