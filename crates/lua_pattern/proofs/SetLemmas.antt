-- How a set's text is read, member by member.
use Rattle.std.proofs.Common.{◌≡◌, ℕ, ◌+◌, ◌-◌, ◌<◌, Bool, true, false, List, [], ◌∷◌, ◌++◌, length, take, drop, Some, Ok, Err, refl, sym, ap, ◌∙◌, subst, append_assoc, arith}
use Rattle.std.specs.Prelude.{◌==◌}
use Rattle.std.proofs.lemmas.List.{length-drop, drop-drop}
use Rattle.std.proofs.Math.Seq.{take-length}
use Rattle.lua_pattern.specs.Element.{element_at, set_end, SetRead, Members, ends, then_more, with_members}
use Rattle.lua_pattern.specs.declared.class.Member.{Member}
use Rattle.lua_pattern.specs.declared.element.Element.{Element}
use Rattle.lua_pattern.specs.declared.element.Element.TheVariants.{Is, Closing, Unclosed, LonePercent}

-- what is left of a text behind its first bytes, as the code slices it
pub rest_is : (n : ℕ) (text : List ℕ) → take (length text - n) (drop n text) ≡ drop n text
rest_is n text = subst (λ k. take k (drop n text) ≡ drop n text) (length-drop n text) (take-length (drop n text))

pub with_members-none : (read : SetRead) → with_members [] read ≡ read
with_members-none (Ok read) = refl
with_members-none (Err fault) = refl

pub with_members-more : (ms : List Member) (m : Member) (read : SetRead) → with_members ms (with_members (m ∷ []) read) ≡ with_members (ms ++ m ∷ []) read
with_members-more ms m (Ok read) = ap (λ (all : List Member). let r : SetRead = Ok (all, read.1) in r) (sym (append_assoc ms (m ∷ []) read.0))
with_members-more ms m (Err fault) = refl

-- one more member was read
pub one_more : (text : List ℕ) (at n : ℕ) (ms : List Member) (m : Member) → 0 < n → element_at (at == 0) (drop at text) ≡ Is m n
    → ((read : SetRead) → Members (at == 0) (drop at text) read → Members true text (with_members ms read))
    → (read : SetRead) → Members (at + n == 0) (drop (at + n) text) read → Members true text (with_members (ms ++ m ∷ []) read)
one_more text at n ms m some stands so_far read h =
    let later : (at + n == 0) ≡ false = grind arith in
    let behind = subst (λ (first : Bool). Members first (drop (at + n) text) read) later h in
    let next = subst (λ (rest : List ℕ). Members false rest read) (sym (drop-drop n at text)) behind in
    subst (λ (all : SetRead). Members true text all) (with_members-more ms m read) (so_far (with_members (m ∷ []) read) (then_more stands next))

-- what was read up to an end
pub ended : (text : List ℕ) (at : ℕ) (ms : List Member) (read : SetRead) → set_end (element_at (at == 0) (drop at text)) (drop at text) ≡ Some read
    → ((read : SetRead) → Members (at == 0) (drop at text) read → Members true text (with_members ms read))
    → Members true text (with_members ms read)
ended text at ms read stands so_far = so_far read (ends stands)

no_end : (e : Element) (text : List ℕ) (m : Member) (n : ℕ) (read : SetRead) → e ≡ Is m n → set_end e text ≡ Some read → ⊥
no_end (Is m' n') text m n read is end = cc
no_end Closing text m n read is end = cc
no_end Unclosed text m n read is end = cc
no_end LonePercent text m n read is end = cc

-- a set's text is read in one way
pub members_once : {first : Bool} {text : List ℕ} {a b : SetRead} → Members first text a → Members first text b → a ≡ b
members_once (ends end) (ends end') = let same = sym end ∙ end' in cc
members_once {first} {text} (ends {read} end) (then_more {m} {n} stands h) = absurd (no_end (element_at first text) text m n read stands end)
members_once {first} {text} (then_more {m} {n} stands h) (ends {read} end) = absurd (no_end (element_at first text) text m n read stands end)
members_once {text} (then_more {read} {m} {n} stands h) (then_more {read = read'} {m = m'} {n = n'} stands' h') =
    let same_m : m ≡ m' = cc in
    let same_n : n' ≡ n = cc in
    let same = members_once h (subst (λ (k : ℕ). Members false (drop k text) read') same_n h') in
    ap (λ (x : Member). with_members (x ∷ []) read) same_m ∙ ap (with_members (m' ∷ [])) same
