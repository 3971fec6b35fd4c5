-- Texts cut at a byte, without their blanks, and behind their sign.
use Rattle.std.proofs.Common.{◌≡◌, ℕ, ℤ, neg_ℤ, Bool, true, false, cond, nat_eq, Option, Some, None, List, [], ◌∷◌, ◌++◌, reverse, ap, refl, sym, ◌∙◌, subst}
use Rattle.std.proofs.lemmas.Bool.{not-true, ne_eqb, eqb-true, cond-true, cond-false}
use Rattle.std.proofs.lemmas.List.{reverse-append, reverse-reverse}
use Rattle.std.proofs.lemmas.List.Elements.{All-nil, All-cons, All-head, All-tail, All-append}
use Rattle.std.specs.List.{AllPass}
use Rattle.std.specs.Option.{option_map, option_and_then}
use Rattle.lua_value.specs.Sign.{Sign, sign_text, signed}
use Rattle.lua_value.specs.Sign.Sign.{unsigned, plus, minus}
use Rattle.lua_value.specs.NumberText.{is_blank, is_no_blank}
use Rattle.lua_value.specs.Place.{FailsAtFirst, HasNoSign, IsWordOf}
use Rattle.lua_meaning.specs.Number.{before, behind, behind_blanks, trimmed, with_sign}

-- ---- options

pub and_then_some : {A B : Type 0} (f : A → Option B) (o : Option A) (b : B) → option_and_then f o ≡ Some b → (a : A) × (o ≡ Some a) × (f a ≡ Some b)
and_then_some f None b e = cc
and_then_some f (Some a) b e = (a, refl, e)

map_some : {A B : Type 0} (f : A → B) (o : Option A) (b : B) → option_map f o ≡ Some b → (a : A) × (o ≡ Some a) × (b ≡ f a)
map_some f None b e = cc
map_some f (Some a) b e = (a, refl, cc)

-- ---- before and behind the first byte that passes a test

module _ (test : ℕ → Bool) where
  -- no byte passes
  abbrev pub NonePass : List ℕ → Type 0
  NonePass [] = Unit {0}
  NonePass (c ∷ cs) = (test c ≡ false) × NonePass cs

  pub NonePass-append : (xs ys : List ℕ) → NonePass xs → NonePass ys → NonePass (xs ++ ys)
  NonePass-append [] ys p q = q
  NonePass-append (x ∷ xs) ys p q = (p.0, NonePass-append xs ys p.1 q)

  pub before-append : (xs ys : List ℕ) → NonePass xs → before test (xs ++ ys) ≡ xs ++ before test ys
  before-append [] ys h = refl
  before-append (x ∷ xs) ys h =
      cond-false (test x) [] (x ∷ before test (xs ++ ys)) h.0 ∙ ap (λ (l : List ℕ). x ∷ l) (before-append xs ys h.1)

  pub behind-append : (xs ys : List ℕ) → NonePass xs → behind test (xs ++ ys) ≡ behind test ys
  behind-append [] ys h = refl
  behind-append (x ∷ xs) ys h =
      cond-false (test x) (Some (xs ++ ys)) (behind test (xs ++ ys)) h.0 ∙ behind-append xs ys h.1

  pub before-whole : (text : List ℕ) → behind test text ≡ None → before test text ≡ text
  before-whole [] e = refl
  before-whole (c ∷ cs) e = from (test c) (before-whole cs) e
    where
      from : (b : Bool) → (behind test cs ≡ None → before test cs ≡ cs) → cond b (Some cs) (behind test cs) ≡ None →
          cond b [] (c ∷ before test cs) ≡ c ∷ cs
      from true later e = cc
      from false later e = ap (λ (l : List ℕ). c ∷ l) (later e)

  pub cut_at : (text rest : List ℕ) → behind test text ≡ Some rest →
      (c : ℕ) × (test c ≡ true) × (text ≡ before test text ++ (c ∷ rest))
  cut_at [] rest e = cc
  cut_at (c ∷ cs) rest e = from (test c) refl (cut_at cs rest) e
    where
      from : (b : Bool) → test c ≡ b →
          (behind test cs ≡ Some rest → (d : ℕ) × (test d ≡ true) × (cs ≡ before test cs ++ (d ∷ rest))) →
          cond b (Some cs) (behind test cs) ≡ Some rest →
          (d : ℕ) × (test d ≡ true) × (c ∷ cs ≡ cond b [] (c ∷ before test cs) ++ (d ∷ rest))
      from true p later e = let same : cs ≡ rest = cc in (c, p, ap (λ (l : List ℕ). c ∷ l) same)
      from false p later e = let found = later e in (found.0, found.1, ap (λ (l : List ℕ). c ∷ l) found.2)

-- ---- blanks

behind_blanks-none : (text : List ℕ) → FailsAtFirst is_blank text → behind_blanks text ≡ text
behind_blanks-none [] h = refl
behind_blanks-none (c ∷ cs) h = cond-false (is_blank c) (behind_blanks cs) (c ∷ cs) h

behind_blanks-append : (xs ys : List ℕ) → AllPass is_blank xs → FailsAtFirst is_blank ys → behind_blanks (xs ++ ys) ≡ ys
behind_blanks-append [] ys p h = behind_blanks-none ys h
behind_blanks-append (x ∷ xs) ys p h =
    cond-true (is_blank x) (behind_blanks (xs ++ ys)) (x ∷ (xs ++ ys)) (All-head (λ c. is_blank c ≡ true) x xs p)
    ∙ behind_blanks-append xs ys (All-tail (λ c. is_blank c ≡ true) x xs p) h

blanks_before : (text : List ℕ) → (xs : List ℕ) × AllPass is_blank xs × (text ≡ xs ++ behind_blanks text)
blanks_before [] = ([], All-nil (λ c. is_blank c ≡ true), refl)
blanks_before (c ∷ cs) = from (is_blank c) refl (blanks_before cs)
  where
    from : (b : Bool) → is_blank c ≡ b → (xs : List ℕ) × AllPass is_blank xs × (cs ≡ xs ++ behind_blanks cs) →
        (xs : List ℕ) × AllPass is_blank xs × (c ∷ cs ≡ xs ++ cond b (behind_blanks cs) (c ∷ cs))
    from true p (xs, all, is) = (c ∷ xs, All-cons (λ d. is_blank d ≡ true) c xs p all, ap (λ (l : List ℕ). c ∷ l) is)
    from false p later = ([], All-nil (λ d. is_blank d ≡ true), refl)

AllPass-reverse : (test : ℕ → Bool) (xs : List ℕ) → AllPass test xs → AllPass test (reverse xs)
AllPass-reverse test [] h = h
AllPass-reverse test (x ∷ xs) h =
    subst (λ (l : List ℕ). AllPass test l) (sym (reverse-append (x ∷ []) xs))
    (All-append (λ c. test c ≡ true) (reverse xs) (x ∷ []) (AllPass-reverse test xs (All-tail (λ c. test c ≡ true) x xs h))
    (All-cons (λ c. test c ≡ true) x [] (All-head (λ c. test c ≡ true) x xs h) (All-nil (λ c. test c ≡ true))))

no_blank_first : (xs : List ℕ) → AllPass is_no_blank xs → FailsAtFirst is_blank xs
no_blank_first [] h = tt
no_blank_first (c ∷ cs) h = not-true (is_blank c) (All-head (λ d. is_no_blank d ≡ true) c cs h)

-- what stands between the blanks
pub trimmed-word : (text word : List ℕ) → IsWordOf text word → trimmed text ≡ word
trimmed-word text word (xs, ys, x_blank, y_blank, plain, first, is) =
    ap (λ (l : List ℕ). reverse (behind_blanks (reverse l))) (ap behind_blanks is ∙ behind_blanks-append xs (word ++ ys) x_blank first)
    ∙ (ap (λ (l : List ℕ). reverse (behind_blanks l)) (reverse-append word ys)
    ∙ (ap reverse (behind_blanks-append (reverse ys) (reverse word) (AllPass-reverse is_blank ys y_blank)
    (no_blank_first (reverse word) (AllPass-reverse is_no_blank word plain)))
    ∙ reverse-reverse word))

pub trimmed_within : (text : List ℕ) →
    (xs ys : List ℕ) × AllPass is_blank xs × AllPass is_blank ys × (text ≡ xs ++ (trimmed text ++ ys))
trimmed_within text =
    let front = blanks_before text in
    let back = blanks_before (reverse (behind_blanks text)) in
    let rest = behind_blanks (reverse (behind_blanks text)) in
    let whole : behind_blanks text ≡ reverse rest ++ reverse back.0 =
    sym (reverse-reverse (behind_blanks text)) ∙ (ap reverse back.2 ∙ reverse-append back.0 rest) in (
      front.0,
      reverse back.0,
      front.1,
      AllPass-reverse is_blank back.0 back.1,
      front.2 ∙ ap (λ (l : List ℕ). front.0 ++ l) whole,
    )

-- ---- signs

pub with_sign-signed : (f : List ℕ → Option ℤ) (s : Sign) (xs : List ℕ) (z : ℤ) → HasNoSign xs → f xs ≡ Some z →
    with_sign f (sign_text s ++ xs) ≡ Some (signed s z)
with_sign-signed f unsigned [] z none e = e
with_sign-signed f unsigned (c ∷ cs) z none e =
    let first = none c cs refl in
    cond-false (nat_eq c 45) (option_map neg_ℤ (f cs)) (cond (nat_eq c 43) (f cs) (f (c ∷ cs))) (ne_eqb c 45 first.1)
    ∙ (cond-false (nat_eq c 43) (f cs) (f (c ∷ cs)) (ne_eqb c 43 first.0) ∙ e)
with_sign-signed f plus xs z none e = e
with_sign-signed f minus xs z none e = ap (option_map neg_ℤ) e

pub with_sign-only : (f : List ℕ → Option ℤ) (text : List ℕ) (z : ℤ) → with_sign f text ≡ Some z →
    (s : Sign) × (xs : List ℕ) × (y : ℤ) × (text ≡ sign_text s ++ xs) × (f xs ≡ Some y) × (z ≡ signed s y)
with_sign-only f [] z e = (unsigned, [], z, refl, e, refl)
with_sign-only f (c ∷ cs) z e = from (nat_eq c 45) (nat_eq c 43) refl refl e
  where
    from : (p q : Bool) → nat_eq c 45 ≡ p → nat_eq c 43 ≡ q →
        cond p (option_map neg_ℤ (f cs)) (cond q (f cs) (f (c ∷ cs))) ≡ Some z →
        (s : Sign) × (xs : List ℕ) × (y : ℤ) × (c ∷ cs ≡ sign_text s ++ xs) × (f xs ≡ Some y) × (z ≡ signed s y)
    from true q at_minus at_plus e =
        let found = map_some neg_ℤ (f cs) z e in
        (minus, cs, found.0, ap (λ (k : ℕ). k ∷ cs) (eqb-true c 45 at_minus), found.1, found.2)
    from false true at_minus at_plus e = (plus, cs, z, ap (λ (k : ℕ). k ∷ cs) (eqb-true c 43 at_plus), e, refl)
    from false false at_minus at_plus e = (unsigned, c ∷ cs, z, refl, e, refl)
