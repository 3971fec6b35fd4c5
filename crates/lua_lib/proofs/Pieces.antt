-- Texts that are made piece by piece, by parts of a function one after the other.
use Rattle.std.proofs.Common.{◌≡◌, ℕ, suc, ◌+◌, ◌-◌, ◌<◌, ◌≤◌, List, [], ◌∷◌, ◌++◌, length, Option, None, Some, arith, ap, refl, sym, ◌∙◌, append_assoc, append-nil}
use Rattle.lua_tree.specs.Tree.{Bytes}
use Rattle.lua_meaning.specs.Value.{Value}
use Rattle.lua_meaning.specs.Store.{Store}
use Rattle.lua_meaning.specs.Fault.{Fault as Error}
use Rattle.lua_meaning.specs.Arguments.{Lib, Answer, answers, faults, answer, ◌>>=◌, ◌>>>◌}
use Rattle.lua_meaning.specs.Strings.{bytes_from, byte_argument}
use Rattle.lua_lib.specs.Outcome.{Gives}
use Rattle.lua_lib.specs.Faults.{RaisesBy}
use Rattle.lua_lib.specs.Pieces.{put_before}

nothing-before : (x : Answer Bytes) → (x >>> λ rest. answer ([] ++ rest)) ≡ x
nothing-before (answers rest s) = refl
nothing-before (faults e) = refl

-- nothing is made yet
pub none-yet : (part : Lib Bytes) (made : Bytes) → made ≡ [] → (s : Store) → part s ≡ put_before made part s
none-yet part made none s = sym (nothing-before (part s)) ∙ ap (λ (t : List ℕ). put_before t part s) (sym none)

-- one more piece is made
pub one-more : (made piece new : Bytes) (x : Answer Bytes) → new ≡ made ++ piece
    → ((x >>> λ rest. answer (piece ++ rest)) >>> λ rest. answer (made ++ rest)) ≡ (x >>> λ rest. answer (new ++ rest))
one-more made piece new (answers rest s) is =
    ap (λ (t : List ℕ). answers t s) (sym (append_assoc made piece rest) ∙ ap (λ (t : List ℕ). t ++ rest) (sym is))
one-more made piece new (faults e) is = refl

-- ---- arguments as bytes

module _ (vs : List Value) where
  pub bytes-start : (count : ℕ) (made : Bytes) → count ≡ length vs → made ≡ [] → (s : Store)
      → bytes_from 0 (length vs) vs s ≡ put_before made (bytes_from 0 (count - 0) vs) s
  bytes-start count made same none s =
      let e : length vs ≡ count - 0 = omega arith in
      ap (λ (n : ℕ). bytes_from 0 n vs s) e ∙ none-yet (bytes_from 0 (count - 0) vs) made none s

  pub bytes-next : (made new : Bytes) (b n count : ℕ) → n < count → Gives (byte_argument n vs) b → new ≡ made ++ b ∷ [] → (s : Store)
      → put_before made (bytes_from n (count - n) vs) s ≡ put_before new (bytes_from (n + 1) (count - (n + 1)) vs) s
  bytes-next made new b n count within gives is s =
      let left : count - n ≡ suc (count - (n + 1)) = omega arith in
      let next : suc n ≡ n + 1 = omega arith in
      let more = count - (n + 1) in
      ap (λ (m : ℕ). put_before made (bytes_from n m vs) s) left
      ∙ (ap (λ (r : Answer ℕ). (r >>> λ b. bytes_from (suc n) more vs >>= λ bs. answer (b ∷ bs)) >>> λ rest. answer (made ++ rest)) (gives s)
      ∙ (one-more made (b ∷ []) new (bytes_from (suc n) more vs s) is
      ∙ ap (λ (m : ℕ). put_before new (bytes_from m more vs) s) next))

  pub bytes-end : (made : Bytes) (n count : ℕ) → count ≤ n → (s : Store) → put_before made (bytes_from n (count - n) vs) s ≡ answers made s
  bytes-end made n count past s =
      let none : count - n ≡ 0 = omega arith in
      ap (λ (m : ℕ). put_before made (bytes_from n m vs) s) none ∙ ap (λ (t : List ℕ). answers t s) (append-nil made)

  pub bytes-raises : (part : Lib Bytes) (made : Bytes) (n count : ℕ) (e : Option Error) → n < count
      → ((s : Store) → part s ≡ put_before made (bytes_from n (count - n) vs) s) → RaisesBy (byte_argument n vs) e → RaisesBy part e
  bytes-raises part made n count None within same raises = tt
  bytes-raises part made n count (Some e) within same raises = λ s.
      let left : count - n ≡ suc (count - (n + 1)) = omega arith in
      let more = count - (n + 1) in
      same s
      ∙ (ap (λ (m : ℕ). put_before made (bytes_from n m vs) s) left
      ∙ ap (λ (r : Answer ℕ). (r >>> λ b. bytes_from (suc n) more vs >>= λ bs. answer (b ∷ bs)) >>> λ rest. answer (made ++ rest)) (raises s))
