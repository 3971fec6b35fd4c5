-- A log's parts, where one more action is put.
use Rattle.std.proofs.Common.{◌≡◌, List, [], ◌∷◌, ◌++◌, Option, Some, None, refl, subst, append-nil, append_assoc}
use Rattle.std.specs.List.{All}
use Rattle.std.specs.Option.{option_to_list}
use Rattle.std.proofs.lemmas.List.Elements.{All-head, All-tail}
use Rattle.variant.specs.declared.action.Action.{Action}
use Rattle.variant.specs.declared.action.Deed.{Deed}
use Rattle.variant.specs.declared.action.Deed.TheVariants.{Asked, Begin, CutLeave, Told, End, MainEnd}
use Rattle.variant.specs.Log.{MayPrecede, MayFollow}
use Rattle.variant.specs.LogParts.{parts, IsTold, IsEnd, OfDeed, IsSorted}

nothing_before : (earlier : Deed) → MayPrecede earlier Begin → ⊥
nothing_before (Asked ask) may = may
nothing_before Begin may = may
nothing_before (CutLeave channel) may = may
nothing_before (Told text) may = may
nothing_before (End kind) may = may
nothing_before MainEnd may = may

nothing_after : (earlier later : Deed) → IsEnd earlier → MayPrecede earlier later → ⊥
nothing_after (End kind) later ends may = may
nothing_after MainEnd later ends may = may
nothing_after (Asked ask) later ends may = ends
nothing_after Begin later ends may = ends
nothing_after (CutLeave channel) later ends may = ends
nothing_after (Told text) later ends may = ends

-- only an end comes after what was told
only_end : (earlier later : Deed) → IsTold earlier → MayPrecede earlier later → IsEnd later
only_end (Told text) (End kind) told may = tt
only_end (Told text) MainEnd told may = tt
only_end (Told text) (Asked ask) told may = may
only_end (Told text) Begin told may = may
only_end (Told text) (CutLeave channel) told may = may
only_end (Told text) (Told other) told may = may
only_end (End kind) later told may = absurd told
only_end MainEnd later told may = absurd told
only_end (Asked ask) later told may = absurd told
only_end Begin later told may = absurd told
only_end (CutLeave channel) later told may = absurd told

-- what holds of all holds of those behind the first
behind : (P : Action → Type 0) (xs ys : List Action) → All P (xs ++ ys) → All P ys
behind P [] ys all = all
behind P (x ∷ xs) ys all = behind P xs ys (All-tail P x (xs ++ ys) all)

no_end : (end : Option Action) (deed : Deed) → OfDeed IsEnd end → MayFollow (option_to_list end) deed → end ≡ None
no_end None deed ends follows = refl
no_end (Some x) deed ends follows = absurd (nothing_after x.deed deed ends (All-head (λ (a : Action). MayPrecede a.deed deed) x [] follows))

no_told : (told : Option Action) (rest : List Action) (deed : Deed) → OfDeed IsTold told → (IsEnd deed → ⊥) → MayFollow (option_to_list told ++ rest) deed → told ≡ None
no_told None rest deed tells open' follows = refl
no_told (Some x) rest deed tells open' follows = absurd (open' (only_end x.deed deed tells (All-head (λ (a : Action). MayPrecede a.deed deed) x rest follows)))

-- the last two parts of a log
closing : (begin : Option Action) (asked : List Action) (told end : Option Action) (deed : Deed) → MayFollow (parts begin asked told end) deed → MayFollow (option_to_list told ++ option_to_list end) deed
closing begin asked told end deed follows =
    let P = λ (a : Action). MayPrecede a.deed deed in
    behind P asked _ (behind P (option_to_list begin) _ follows)

pub parts-begin : (begin : Option Action) (asked : List Action) (told end : Option Action) (a : Action) → a.deed ≡ Begin → MayFollow (parts begin asked told end) a.deed → parts (Some a) asked told end ≡ parts begin asked told end ++ a ∷ []
parts-begin begin asked told end a is follows = empty begin asked told end (subst (λ deed. MayFollow (parts begin asked told end) deed) is follows)
  where
    first : (x : Action) (xs : List Action) → MayFollow (x ∷ xs) Begin → ⊥
    first x xs follows = nothing_before x.deed (All-head (λ (a : Action). MayPrecede a.deed Begin) x xs follows)

    empty : (begin : Option Action) (asked : List Action) (told end : Option Action) → MayFollow (parts begin asked told end) Begin → parts (Some a) asked told end ≡ parts begin asked told end ++ a ∷ []
    empty None [] None None follows = refl
    empty None [] None (Some x) follows = absurd (first x [] follows)
    empty None [] (Some x) end follows = absurd (first x _ follows)
    empty None (x ∷ xs) told end follows = absurd (first x _ follows)
    empty (Some x) asked told end follows = absurd (first x _ follows)

pub parts-asked : (begin : Option Action) (asked : List Action) (told end : Option Action) (a : Action) → IsSorted told end → (IsEnd a.deed → ⊥) → MayFollow (parts begin asked told end) a.deed → parts begin (asked ++ a ∷ []) told end ≡ parts begin asked told end ++ a ∷ []
parts-asked begin asked told end a sorted stays follows =
    let last = closing begin asked told end a.deed follows in
    let none = no_told told (option_to_list end) a.deed sorted.tells stays last in
    let nor = no_end end a.deed sorted.ends (behind (λ (x : Action). MayPrecede x.deed a.deed) (option_to_list told) (option_to_list end) last) in
    rw (none, nor) (simp (append_assoc, append-nil))

pub parts-told : (begin : Option Action) (asked : List Action) (told end : Option Action) (a : Action) → IsSorted told end → (IsEnd a.deed → ⊥) → MayFollow (parts begin asked told end) a.deed → parts begin asked (Some a) end ≡ parts begin asked told end ++ a ∷ []
parts-told begin asked told end a sorted stays follows =
    let last = closing begin asked told end a.deed follows in
    let none = no_told told (option_to_list end) a.deed sorted.tells stays last in
    let nor = no_end end a.deed sorted.ends (behind (λ (x : Action). MayPrecede x.deed a.deed) (option_to_list told) (option_to_list end) last) in
    rw (none, nor) (simp (append_assoc, append-nil))

pub parts-end : (begin : Option Action) (asked : List Action) (told end : Option Action) (a : Action) → IsSorted told end → MayFollow (parts begin asked told end) a.deed → parts begin asked told (Some a) ≡ parts begin asked told end ++ a ∷ []
parts-end begin asked told end a sorted follows =
    let last = closing begin asked told end a.deed follows in
    let nor = no_end end a.deed sorted.ends (behind (λ (x : Action). MayPrecede x.deed a.deed) (option_to_list told) (option_to_list end) last) in
    rw nor (simp (append_assoc, append-nil))
