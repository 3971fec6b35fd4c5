-- What stands out of some numbers, one argument after the other.
use Rattle.std.proofs.Common.{◌≡◌, ℕ, zero, suc, ◌+◌, ◌-◌, ◌<◌, ◌≤◌, ℤ, List, [], ◌∷◌, Option, None, Some, length, arith, ap, refl, sym, ◌∙◌}
use Rattle.lua_meaning.specs.Value.{Value, num}
use Rattle.lua_meaning.specs.Store.{Store}
use Rattle.lua_meaning.specs.Fault.{Fault as Error}
use Rattle.lua_meaning.specs.Arguments.{Lib, Answer, answers, answer_one, number_argument, ◌>>=◌, ◌>>>◌}
use Rattle.lua_meaning.specs.Math.{outstanding, behind_first}
use Rattle.lua_lib.specs.Outcome.{Gives}
use Rattle.lua_lib.specs.Faults.{RaisesBy}

abbrev pub one : ℤ → Lib (List Value)
one y = answer_one (num y)

behind_first-is : (n : ℕ) → behind_first n ≡ n - 1
behind_first-is zero = refl
behind_first-is (suc n) = omega arith

module _ (choose : ℤ → ℤ → ℤ) (vs : List Value) where
  -- from a number on, of so many arguments in all
  abbrev pub rest_of : ℤ → ℕ → ℕ → Lib (List Value)
  rest_of x n count = outstanding choose x n (count - n) vs >>= one

  abbrev pub whole_of : Lib (List Value)
  whole_of = number_argument 0 vs >>= λ x. outstanding choose x 1 (behind_first (length vs)) vs >>= one

  pub outstanding-start : (x : ℤ) (count : ℕ) → count ≡ length vs → Gives (number_argument 0 vs) x → (s : Store) → whole_of s ≡ rest_of x 1 count s
  outstanding-start x count e g s =
      let size : behind_first (length vs) ≡ count - 1 = behind_first-is (length vs) ∙ ap (λ (n : ℕ). n - 1) (sym e) in
      ap (λ (r : Answer ℤ). r >>> λ x. outstanding choose x 1 (behind_first (length vs)) vs >>= one) (g s)
      ∙ ap (λ (n : ℕ). (outstanding choose x 1 n vs >>= one) s) size

  pub outstanding-next : (x y z : ℤ) (n count : ℕ) → n < count → Gives (number_argument n vs) y
      → ((s : Store) → answers (num (choose x y) ∷ []) s ≡ answers (num z ∷ []) s) → (s : Store) → rest_of x n count s ≡ rest_of z (n + 1) count s
  outstanding-next x y z n count within g same s =
      let left : count - n ≡ suc (count - (n + 1)) = omega arith in
      let chosen = same s in
      let is : choose x y ≡ z = cc in
      let next : suc n ≡ n + 1 = omega arith in
      ap (λ (m : ℕ). (outstanding choose x n m vs >>= one) s) left
      ∙ (ap (λ (r : Answer ℤ). (r >>> λ y. outstanding choose (choose x y) (suc n) (count - (n + 1)) vs) >>> one) (g s)
      ∙ (ap (λ (v : ℤ). (outstanding choose v (suc n) (count - (n + 1)) vs >>= one) s) is
      ∙ ap (λ (m : ℕ). (outstanding choose z m (count - (n + 1)) vs >>= one) s) next))

  pub outstanding-end : (x : ℤ) (n count : ℕ) → count ≤ n → (s : Store) → rest_of x n count s ≡ answers (num x ∷ []) s
  outstanding-end x n count past s =
      let none : count - n ≡ 0 = omega arith in
      ap (λ (m : ℕ). (outstanding choose x n m vs >>= one) s) none

  pub outstanding-raises : (part : Lib (List Value)) (x : ℤ) (n count : ℕ) (e : Option Error) → n < count → ((s : Store) → part s ≡ rest_of x n count s)
      → RaisesBy (number_argument n vs) e → RaisesBy part e
  outstanding-raises part x n count None within same h = tt
  outstanding-raises part x n count (Some e) within same h = λ s.
      let left : count - n ≡ suc (count - (n + 1)) = omega arith in
      same s ∙ (ap (λ (m : ℕ). (outstanding choose x n m vs >>= one) s) left
      ∙ ap (λ (r : Answer ℤ). (r >>> λ y. outstanding choose (choose x y) (suc n) (count - (n + 1)) vs) >>> one) (h s))
