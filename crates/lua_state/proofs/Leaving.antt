-- What leaving all that is held comes to.
use Rattle.std.proofs.Common.{◌≡◌, ◌∙◌, ℕ, ◌+◌, List, [], ◌∷◌, ◌++◌, map, length, refl, sym, ap, arith, append-nil, append_assoc, length-append}
use Rattle.std.proofs.lemmas.List.{map-append, reverse-append}
use Rattle.variant.specs.declared.action.Action.{Action}
use Rattle.variant.specs.declared.action.Deed.{Deed}
use Rattle.variant.specs.declared.action.Deed.TheVariants.{CutLeave}
use Rattle.lua_state.specs.Cuts.{LeavesAll, LeavesOne, LeavesSome, cuts_of, deeds_of}

-- none yet
pub none_left : (actions : List Action) (held : List ℕ) → LeavesSome actions actions held held
none_left actions held = record { cuts = []; put = sym (append-nil actions); deeds = refl }

cuts-push : (held : List ℕ) (n : ℕ) → cuts_of (held ++ n ∷ []) ≡ CutLeave n ∷ cuts_of held
cuts-push held n = ap (map CutLeave) (reverse-append held (n ∷ []))

-- one more
pub one_left : (before middle after : List Action) (held more others : List ℕ) → LeavesSome before middle held more → LeavesOne middle after more others → LeavesSome before after held others
one_left before middle after held more others some one = record {
  cuts = some.cuts ++ one.action ∷ [];
  put = one.put ∙ (ap (λ (l : List Action). l ++ one.action ∷ []) some.put ∙ append_assoc before some.cuts (one.action ∷ []));
  deeds = ap (λ (l : List Deed). l ++ cuts_of others) (map-append (λ (a : Action). a.deed) some.cuts (one.action ∷ []) ∙ ap (λ (d : Deed). deeds_of some.cuts ++ d ∷ []) one.deed)
      ∙ (append_assoc (deeds_of some.cuts) (CutLeave one.number ∷ []) (cuts_of others)
      ∙ (ap (λ (l : List Deed). deeds_of some.cuts ++ l) (sym (ap cuts_of one.last ∙ cuts-push others one.number)) ∙ some.deeds));
}

-- all
pub all_left : (before after : List Action) (held others : List ℕ) → others ≡ [] → LeavesSome before after held others → LeavesAll before after held
all_left before after held others e some = record { cuts = some.cuts; put = some.put; deeds = sym (append-nil (deeds_of some.cuts)) ∙ (ap (λ (l : List ℕ). deeds_of some.cuts ++ cuts_of l) (sym e) ∙ some.deeds) }

-- an action for each that is left
pub sum_kept : (before after : List Action) (held others : List ℕ) → LeavesOne before after held others → length after + length others ≡ length before + length held
sum_kept before after held others one =
    let a = ap length one.put ∙ length-append before (one.action ∷ []) in
    let b = ap length one.last ∙ length-append others (one.number ∷ []) in
    omega arith
