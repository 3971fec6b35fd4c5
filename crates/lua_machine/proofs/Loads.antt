-- Constants become values of the heap.
use Rattle.std.proofs.Common.{◌≡◌, List, [], ◌∷◌, ◌++◌, refl, ap, ◌∙◌}
use Rattle.std.specs.Prelude.{map}
use Rattle.std.specs.List.{AllByRecursion}
use Rattle.std.proofs.lemmas.List.{append_assoc, map-append}
use Rattle.lua_meaning.specs.Value as meant
use Rattle.lua_heap.specs.declared.value.Value.{Value}
use Rattle.lua_heap.specs.Value.{value_view, IsCounted}
use Rattle.lua_heap.specs.Heap.{HeapView, store_of, counts, IsMade, Extends}
use Rattle.lua_heap.proofs.Callers.{Extends-same, Extends-trans, IsMade-later}
use Rattle.lua_code.specs.declared.constant.Constant.{Constant}
use Rattle.lua_code.specs.View.{ProtoView, constant_view}
use Rattle.lua_machine.specs.Made.{AreMade}
use Rattle.lua_machine.specs.Ready.{constants_view}
use Rattle.lua_machine.proofs.Keeping.{weaker, views_later, lists_later}

pub all_last : {A : Type 0} (P : A → Type 0) (xs : List A) (x : A) → AllByRecursion P xs → P x → AllByRecursion P (xs ++ x ∷ [])
all_last P [] x all own = (own, tt)
all_last P (y ∷ xs) x all own = (all.0, all_last P xs x all.1 own)

-- ---- the constants of one function

-- the values so far and the constants to come are all
pub record AreValues (first heap : HeapView) (values : List Value) (rest all : List Constant) : Type 0 where
  pub so_far : map (value_view heap.texts) values ++ map constant_view rest ≡ map constant_view all
  pub made : AreMade heap values
  pub store : store_of heap ≡ store_of first
  pub functions : heap.functions ≡ first.functions
  pub extends : Extends first heap

pub none_yet : (heap : HeapView) (all : List Constant) → AreValues heap heap [] all all
none_yet heap all = record { so_far = refl; made = tt; store = refl; functions = refl; extends = Extends-same heap }

pub one_more : (first heap later : HeapView) (values : List Value) (c : Constant) (rest all : List Constant) (v : Value) → AreValues first heap values (c ∷ rest) all → value_view later.texts v ≡ constant_view c → IsMade later v → store_of later ≡ store_of heap → later.functions ≡ heap.functions → Extends heap later → AreValues first later (values ++ v ∷ []) rest all
one_more first heap later values c rest all v so is made store functions more =
    record {
      so_far = ap (λ (vs : List meant.Value). vs ++ map constant_view rest) (map-append (value_view later.texts) values (v ∷ []))
          ∙ ap (λ (vs : List meant.Value). (vs ++ value_view later.texts v ∷ []) ++ map constant_view rest) (views_later heap later more values so.made)
          ∙ ap (λ w. (map (value_view heap.texts) values ++ w ∷ []) ++ map constant_view rest) is
          ∙ append_assoc (map (value_view heap.texts) values) (constant_view c ∷ []) (map constant_view rest)
          ∙ so.so_far;
      made = all_last (IsCounted (counts later)) values v (weaker (IsCounted (counts heap)) (IsCounted (counts later)) values (λ w own. IsMade-later heap later more w own) so.made) made;
      store = store ∙ so.store;
      functions = functions ∙ so.functions;
      extends = Extends-trans first heap later so.extends more;
    }

-- ---- those of all functions

pub record AreLists (first heap : HeapView) (lists : List (List Value)) (rest all : List ProtoView) : Type 0 where
  pub so_far : map (map (value_view heap.texts)) lists ++ map constants_view rest ≡ map constants_view all
  pub made : AllByRecursion (AreMade heap) lists
  pub store : store_of heap ≡ store_of first
  pub functions : heap.functions ≡ first.functions
  pub extends : Extends first heap

pub no_lists : (heap : HeapView) (all : List ProtoView) → AreLists heap heap [] all all
no_lists heap all = record { so_far = refl; made = tt; store = refl; functions = refl; extends = Extends-same heap }

pub list_more : (first heap later : HeapView) (lists : List (List Value)) (p : ProtoView) (rest all : List ProtoView) (vs : List Value) → AreLists first heap lists (p ∷ rest) all → map (value_view later.texts) vs ≡ constants_view p → AreMade later vs → store_of later ≡ store_of heap → later.functions ≡ heap.functions → Extends heap later → AreLists first later (lists ++ vs ∷ []) rest all
list_more first heap later lists p rest all vs so is made store functions more =
    record {
      so_far = ap (λ (ws : List (List meant.Value)). ws ++ map constants_view rest) (map-append (map (value_view later.texts)) lists (vs ∷ []))
          ∙ ap (λ (ws : List (List meant.Value)). (ws ++ map (value_view later.texts) vs ∷ []) ++ map constants_view rest) (lists_later heap later more lists so.made)
          ∙ ap (λ ws. (map (map (value_view heap.texts)) lists ++ ws ∷ []) ++ map constants_view rest) is
          ∙ append_assoc (map (map (value_view heap.texts)) lists) (constants_view p ∷ []) (map constants_view rest)
          ∙ so.so_far;
      made = all_last (AreMade later) lists vs (weaker (AreMade heap) (AreMade later) lists (λ ws all. weaker (IsCounted (counts heap)) (IsCounted (counts later)) ws (λ w own. IsMade-later heap later more w own) all) so.made) made;
      store = store ∙ so.store;
      functions = functions ∙ so.functions;
      extends = Extends-trans first heap later so.extends more;
    }
