-- What the objects are once all that was held is left.
use Rattle.std.specs.Prelude.{⊤, All, drop, reverse}
use Rattle.std.proofs.Common.{◌≡◌, ◌∙◌, ℕ, zero, suc, ◌+◌, ◌-◌, Bool, true, cond, List, [], ◌∷◌, ◌++◌, map, length, get_or, None, refl, sym, ap, arith}
use Rattle.std.proofs.lemmas.List.{get_or_default}
use Rattle.variant.specs.declared.action.Action.{Action}
use Rattle.variant.specs.declared.action.Deed.TheVariants.{CutLeave}
use Rattle.channel_core.specs.History.{holder}
use Rattle.lua_state.specs.declared.objects.Objects.{Objects}
use Rattle.lua_state.specs.Solo.{channel_after, held_after}
use Rattle.lua_state.specs.Cuts.{AreAsked, CutsFollow, LeavesAll, asked_in, cuts_of, deeds_of, is_asked}
use Rattle.lua_state.specs.Kept.{IsChannelNumber, IsKept, one_if_open, times}
use Rattle.lua_state.proofs.Sounding.{sound}

none_open : (d : ℕ) → 0 ≡ one_if_open d → d ≡ 0
none_open zero e = refl
none_open (suc d) e = absurd (no 0 refl e)
  where
    no : (n : ℕ) → n ≡ 0 → n ≡ 1 → ⊥
    no n a b = omega arith

-- where nothing is held no Channel is in a section
pub free_all : (o : Objects) → IsKept o → o.held.items ≡ [] → All (λ h. holder h ≡ None) o.channels.items
free_all o kept none k d lt =
    let range : IsChannelNumber (k + 1) = (omega arith, (let f = kept.stand.few in omega arith)) in
    let sounds = sound o.trace.actions kept.done kept.goes_on in
    let closed : (channel_after o.trace.actions (k + 1)).depth ≡ 0 = none_open _ (sym (ap (times (k + 1)) (sym kept.stand.held ∙ none)) ∙ sounds.listed (k + 1) range) in
    let here : get_or o.channels.items k [] ≡ (channel_after o.trace.actions (k + 1)).entries = ap (λ (i : ℕ). get_or o.channels.items i []) back ∙ kept.stand.histories (k + 1) range in
    ap holder (get_or_default o.channels.items k d [] lt ∙ here) ∙ (sounds.own (k + 1) range).outside closed
  where
    back : k ≡ k + 1 - 1
    back = omega arith

-- ---- the asked actions, and behind them those that leave

all_cut : (cuts : List Action) (held : List ℕ) → deeds_of cuts ≡ map CutLeave held → asked_in cuts ≡ []
all_cut [] held e = refl
all_cut (a ∷ cuts) [] e = absurd (no e)
  where
    no : a.deed ∷ deeds_of cuts ≡ [] → ⊥
    no e = cc
all_cut (a ∷ cuts) (n ∷ held) e = ap (λ (b : Bool). cond b (a ∷ asked_in cuts) []) (ap is_asked (head e))
  where
    head : a.deed ∷ deeds_of cuts ≡ CutLeave n ∷ map CutLeave held → a.deed ≡ CutLeave n
    head e = cc

pub asked_first : (asked cuts : List Action) → AreAsked asked → asked_in cuts ≡ [] → asked_in (asked ++ cuts) ≡ asked
asked_first [] cuts all none = none
asked_first (a ∷ asked) cuts all none = ap (λ (b : Bool). cond b (a ∷ asked_in (asked ++ cuts)) []) all.0 ∙ ap (λ (l : List Action). a ∷ l) (asked_first asked cuts all.1 none)

drop_front : (asked cuts : List Action) → drop (length asked) (asked ++ cuts) ≡ cuts
drop_front [] cuts = refl
drop_front (a ∷ asked) cuts = drop_front asked cuts

pub asked_as : (asked after : List Action) (held : List ℕ) → AreAsked asked → LeavesAll asked after held → asked_in after ≡ asked
asked_as asked after held all left = ap asked_in left.put ∙ asked_first asked left.cuts all (all_cut left.cuts (reverse held) left.deeds)

pub cuts_follow : (asked after : List Action) → AreAsked asked → LeavesAll asked after (held_after asked) → CutsFollow after
cuts_follow asked after all left =
    let first = asked_as asked after (held_after asked) all left in
    ap (λ (l : List Action). deeds_of (drop (length l) after)) first
    ∙ (ap (λ (l : List Action). deeds_of (drop (length asked) l)) left.put ∙ (ap deeds_of (drop_front asked left.cuts) ∙ (left.deeds ∙ ap (λ (l : List Action). cuts_of (held_after l)) (sym first))))
