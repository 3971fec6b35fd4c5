-- A pattern's text is read in one way.
use Rattle.std.proofs.Common.{◌≡◌, ℕ, ◌+◌, List, [], ◌∷◌, Option, Some, None, Result, Ok, Err, refl, sym, ap, ◌∙◌, subst, inl, inr, ◌⊎◌, Bool}
use Rattle.std.specs.Prelude.{IfOk, IfErr}
use Rattle.lua_pattern.specs.Tree.{Tree}
use Rattle.lua_pattern.specs.Reading.{start_of, Stands, ClassRead, with_repeat, set_class, IsSetOf, ItemRead, Read, refused, Judged, ItemAt, captures_after, with_items, Reads, ends, faults_here, then_more, tree, is_anchored, IsPatternAnswer, Gives}
use Rattle.lua_pattern.specs.declared.item.Item.{Item}
use Rattle.lua_pattern.specs.declared.mark.Mark.{Mark}
use Rattle.lua_pattern.specs.declared.start.Start.{Start}
use Rattle.lua_pattern.specs.declared.start.Start.TheVariants as starts
use Rattle.lua_pattern.specs.declared.fault.PatternFault.{PatternFault}
use Rattle.lua_pattern.specs.declared.fault.PatternFault.TheVariants.{Memory}
use Rattle.lua_pattern.proofs.SetLemmas.{members_once}

set_once : (complement : Bool) (text : List ℕ) (a b : ClassRead) → IsSetOf complement text a → IsSetOf complement text b → a ≡ b
set_once complement text a b (set, h, is) (set', h', is') = is ∙ ap (set_class complement) (members_once h h') ∙ sym is'

stands_once : (start : Start) (text : List ℕ) (a b : ItemRead) → Stands start text a → Stands start text b → a ≡ b
stands_once starts.Open text a b p q = p ∙ sym q
stands_once starts.Position text a b p q = p ∙ sym q
stands_once starts.Close text a b p q = p ∙ sym q
stands_once (starts.Back k) text a b p q = p ∙ sym q
stands_once (starts.Balance x y) text a b p q = p ∙ sym q
stands_once starts.ShortBalance text a b p q = p ∙ sym q
stands_once starts.Frontier text a b p q = p ∙ sym q
stands_once starts.LonePercent text a b p q = p ∙ sym q
stands_once starts.End text a b p q = p ∙ sym q
stands_once starts.Any text a b p q = p ∙ sym q
stands_once starts.Set text a b (class, set, p) (class', set', q) = p ∙ ap with_repeat (set_once _ _ class class' set set') ∙ sym q
stands_once (starts.One m n) text a b p q = p ∙ sym q

judged_once : (o : Option PatternFault) (start : Start) (text : List ℕ) (a b : ItemRead) → Judged o start text a → Judged o start text b → a ≡ b
judged_once (Some fault) start text a b p q = p ∙ sym q
judged_once None start text a b p q = stands_once start text a b p q

item_once : (captures : List Mark) (count b : ℕ) (text : List ℕ) (r s : ItemRead) → ItemAt captures count b text r → ItemAt captures count b text s → r ≡ s
item_once captures count b text r s p q = judged_once (refused captures count (start_of b text)) (start_of b text) text r s p q

same_fault : (f g : PatternFault) → (let r : ItemRead = Err f in r) ≡ Err g → f ≡ g
same_fault f g same = cc

no_both : (f : PatternFault) (p : Item × List ℕ) → (let r : ItemRead = Err f in r) ≡ Ok p → ⊥
no_both f p same = cc

same_pair : (p q : Item × List ℕ) → (let r : ItemRead = Ok p in r) ≡ Ok q → p ≡ q
same_pair p q same = cc

-- a pattern's text is read in one way
pub reads_once : {captures : List Mark} {count : ℕ} {text : List ℕ} {r s : Read} → Reads captures count text r → Reads captures count text s → r ≡ s
reads_once ends ends = refl
reads_once {captures} {count} (faults_here {b} {text} {fault} p) (faults_here {fault = fault'} q) =
    ap (λ (f : PatternFault). let r : Read = Err f in r) (same_fault fault fault' (item_once captures count b text (Err fault) (Err fault') p q))
reads_once {captures} {count} (faults_here {b} {text} {fault} p) (then_more item rest q h) =
    absurd (no_both fault (item, rest) (item_once captures count b text (Err fault) (Ok (item, rest)) p q))
reads_once {captures} {count} (then_more {b} {text} item rest q h) (faults_here {fault} p) =
    absurd (no_both fault (item, rest) (item_once captures count b text (Err fault) (Ok (item, rest)) p q))
reads_once {captures} {count} (then_more {b} {text} {read} item rest p h) (then_more {read = read'} item' rest' p' h') =
    let same = same_pair (item, rest) (item', rest') (item_once captures count b text (Ok (item, rest)) (Ok (item', rest')) p p') in
    let same_item = ap (λ (x : Item × List ℕ). x.0) same in
    let moved = subst (λ (x : Item × List ℕ). Reads (captures_after x.0 captures) (count + 1) x.1 read') (sym same) h' in
    let others = reads_once h moved in
    ap (λ (i : Item). with_items (i ∷ []) read) same_item ∙ ap (with_items (item' ∷ [])) others

-- the answer for a text is one
pub answer_once : (source : List ℕ) (anchors : Bool) (a b : Result Tree PatternFault) → IsPatternAnswer source anchors a → IsPatternAnswer source anchors b → a ≡ b
answer_once source anchors a b (read, h, is) (read', h', is') = is ∙ ap (tree (is_anchored source anchors)) (reads_once h h') ∙ sym is'

-- what is returned is the answer, unless memory ran out
pub gives_only : (source : List ℕ) (anchors : Bool) (result answer : Result Tree PatternFault)
    → IfOk result (λ pattern. IsPatternAnswer source anchors (Ok pattern))
    → IfErr result (λ fault. (fault ≡ Memory) ⊎ IsPatternAnswer source anchors (Err fault))
    → IsPatternAnswer source anchors answer → Gives result answer
gives_only source anchors (Ok pattern) answer found fault h = answer_once source anchors answer (Ok pattern) h found
gives_only source anchors (Err f) answer found (inl none) h = inl none
gives_only source anchors (Err f) answer found (inr is) h = inr (answer_once source anchors answer (Err f) h is)
