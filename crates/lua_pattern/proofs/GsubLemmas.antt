-- How a replacement string is expanded, byte by byte, and a text is made, match by match.
use Rattle.std.proofs.Common.{◌≡◌, ℕ, ◌+◌, ◌-◌, ◌<◌, ◌≤◌, Bool, true, false, List, [], ◌++◌, length, drop, get_or, Result, Ok, Err, refl, sym, ap, ◌∙◌, subst, append_assoc, arith, ◌⊎◌, inl, inr, add-one, zero-add}
use Rattle.std.specs.Prelude.{slice_range, if◌then◌else◌}
use Rattle.std.proofs.Math.Seq.{drop-cons, drop-length}
use Rattle.lua_pattern.specs.Tree.{Tree}
use Rattle.lua_pattern.specs.Walk.{behind, IsNext, HasEnded}
use Rattle.lua_pattern.specs.Gsub.{Made, made_before, Gsub, ends, fails, replaces, joined, piece_of, next_of, expanded, Refuses}
use Rattle.lua_pattern.specs.declared.found.Match.{Match}
use Rattle.lua_pattern.specs.declared.walk.Walk.{Walk}
use Rattle.lua_pattern.specs.declared.replacement.ReplaceFault.{ReplaceFault}
use Rattle.lua_pattern.specs.declared.replacement.ReplaceFault.TheVariants.{Memory}
use Rattle.lua_pattern.proofs.SetLemmas.{rest_is}

-- what a replacement string stands for
abbrev pub Bytes : Type 0
Bytes = Result (List ℕ) ReplaceFault

pub joined-none : (others : Bytes) → joined (Ok []) others ≡ others
joined-none (Ok others) = refl
joined-none (Err fault) = refl

joined-more : (a b : List ℕ) (others : Bytes) → joined (Ok a) (joined (Ok b) others) ≡ joined (Ok (a ++ b)) others
joined-more a b (Ok others) = ap (λ (all : List ℕ). let r : Bytes = Ok all in r) (sym (append_assoc a b others))
joined-more a b (Err fault) = refl

-- the string's rest from a place on, as its byte there and the rest behind it
expanded-at : (percent : Bool) (replacement text : List ℕ) (m : Match) (i : ℕ) → i < length replacement → expanded percent (drop i replacement) text m
    ≡ joined (piece_of percent text m (get_or replacement i 0)) (expanded (next_of percent (get_or replacement i 0)) (drop (i + 1) replacement) text m)
expanded-at percent replacement text m i within =
    ap (λ (rest : List ℕ). expanded percent rest text m) (drop-cons replacement i 0 within)
    ∙ ap (λ (j : ℕ). joined (piece_of percent text m (get_or replacement i 0)) (expanded (next_of percent (get_or replacement i 0)) (drop j replacement) text m)) (sym (add-one i))

-- one more byte of the string was expanded
pub expanded-more : (percent : Bool) (replacement text : List ℕ) (m : Match) (i : ℕ) (bytes piece : List ℕ) → i < length replacement → piece_of percent text m (get_or replacement i 0) ≡ Ok piece
    → joined (Ok bytes) (expanded percent (drop i replacement) text m) ≡ joined (Ok (bytes ++ piece)) (expanded (next_of percent (get_or replacement i 0)) (drop (i + 1) replacement) text m)
expanded-more percent replacement text m i bytes piece within is =
    let others = expanded (next_of percent (get_or replacement i 0)) (drop (i + 1) replacement) text m in
    ap (joined (Ok bytes)) (expanded-at percent replacement text m i within ∙ ap (λ (p : Bytes). joined p others) is) ∙ joined-more bytes piece others

-- a byte of the string has a fault
pub expanded-fault : (percent : Bool) (replacement text : List ℕ) (m : Match) (i : ℕ) (bytes : List ℕ) (all : Bytes) (fault : ReplaceFault) → i < length replacement
    → all ≡ joined (Ok bytes) (expanded percent (drop i replacement) text m) → Refuses (piece_of percent text m (get_or replacement i 0)) fault → Refuses all fault
expanded-fault percent replacement text m i bytes all fault within is (inl none) = inl none
expanded-fault percent replacement text m i bytes all fault within is (inr refused) =
    let others = expanded (next_of percent (get_or replacement i 0)) (drop (i + 1) replacement) text m in
    inr (is ∙ ap (joined (Ok bytes)) (expanded-at percent replacement text m i within ∙ ap (λ (p : Bytes). joined p others) refused))

-- the end of the string
pub expanded-end : (percent : Bool) (replacement text : List ℕ) (m : Match) (i : ℕ) → i ≡ length replacement → expanded percent (drop i replacement) text m ≡ expanded percent [] text m
expanded-end percent replacement text m i is = ap (λ (rest : List ℕ). expanded percent rest text m) (ap (λ (k : ℕ). drop k replacement) is ∙ drop-length replacement)

-- ---- a text, match by match

pub made_before-none : (made : Made ReplaceFault) → made_before [] 0 made ≡ made
made_before-none (Ok (bytes, n)) = ap (λ (k : ℕ). let r : Made ReplaceFault = Ok (bytes, k) in r) (zero-add n)
made_before-none (Err fault) = refl

made_before-more : (a b : List ℕ) (n : ℕ) (made : Made ReplaceFault) → made_before a n (made_before b 1 made) ≡ made_before (a ++ b) (n + 1) made
made_before-more a b n (Ok (bytes, k)) =
    ap (λ (all : List ℕ). let r : Made ReplaceFault = Ok (all, n + (1 + k)) in r) (sym (append_assoc a b bytes))
    ∙ ap (λ (c : ℕ). let r : Made ReplaceFault = Ok ((a ++ b) ++ bytes, c) in r) (omega arith)
made_before-more a b n (Err fault) = refl

module _ (p : Tree) (text : List ℕ) (r : Match → Bytes) (from : Walk) where
  -- what was made up to where a walk stands
  abbrev pub SoFar : List ℕ → ℕ → Walk → Type 0
  SoFar made count w = (rest : Made ReplaceFault) → Gsub p text r w rest → Gsub p text r from (made_before made count rest)

  -- nothing was made at the beginning
  pub at_first : SoFar [] 0 from
  at_first rest h = subst (λ (all : Made ReplaceFault). Gsub p text r from all) (sym (made_before-none rest)) h

  -- one more match was replaced
  pub replaced_more : (made : List ℕ) (count : ℕ) (w : Walk) (m : Match) (bytes : List ℕ) → SoFar made count w → IsNext p text w m → r m ≡ Ok bytes
      → SoFar (made ++ (slice_range text w.passed m.start ++ bytes)) (count + 1) (behind p w m)
  replaced_more made count w m bytes so_far next is rest h =
      subst (λ (all : Made ReplaceFault). Gsub p text r from all) (made_before-more made (slice_range text w.passed m.start ++ bytes) count rest)
      (so_far (made_before (slice_range text w.passed m.start ++ bytes) 1 rest) (replaces m bytes next is h))

  -- a match has no replacement
  pub refused_at : (made : List ℕ) (count : ℕ) (w : Walk) (m : Match) (fault : ReplaceFault) → SoFar made count w → IsNext p text w m → Refuses (r m) fault → (fault ≡ Memory) ⊎ Gsub p text r from (Err fault)
  refused_at made count w m fault so_far next (inl none) = inl none
  refused_at made count w m fault so_far next (inr refused) = inr (so_far (Err fault) (fails m next refused))

  -- no match is left: the rest is copied
  pub copied_rest : (made all : List ℕ) (count : ℕ) (w : Walk) → SoFar made count w → HasEnded p text w → all ≡ made ++ slice_range text w.passed (length text) → Gsub p text r from (Ok (all, count))
  copied_rest made all count w so_far ended is =
      let rest = so_far (Ok (drop w.passed text, 0)) (ends ended) in
      let bytes = is ∙ ap (λ (tail : List ℕ). made ++ tail) (rest_is w.passed text) in
      subst (λ (bs : List ℕ). Gsub p text r from (Ok (bs, count))) (sym bytes) (subst (λ (n : ℕ). Gsub p text r from (Ok (made ++ drop w.passed text, n))) (let e : count + 0 ≡ count = omega arith in e) rest)

pub left_falls : (p : Tree) (w : Walk) (m : Match) → 0 < w.left → (behind p w m).left + 1 ≤ w.left
left_falls p w m some = elim p.anchored as (λ (b : Bool). (if b then 0 else w.left - 1) + 1 ≤ w.left) [ true ↦ omega arith | false ↦ omega arith ]
