-- Asks, replies and the end are those of the meaning.
use Rattle.std.proofs.Common.{ℕ, zero, suc, ◌+◌, ◌≡◌, ◌≤◌, refl, sym, ap, ◌∙◌, subst, List, [], ◌∷◌, ◌++◌, Option, Some, None, arith, append_assoc}
use Rattle.std.proofs.lemmas.List.{append-nil}
use Rattle.lua_tree.specs.Tree.{Block}
use Rattle.lua_meaning.specs.Message.{Reply}
use Rattle.lua_meaning.specs.Run.{Start, meant}
use Rattle.lua_code.specs.State.{Config, End, needed, Step, on, stop, asks}
use Rattle.lua_code.specs.Natives.{Program, resume}
use Rattle.lua_code.specs.Act.{act, after, exec}
use Rattle.lua_code.specs.Follows.{program_of, first_config, end_of}
use Rattle.lua_code.specs.Talks.{Pause, over, paused, unfinished, next, fed, AllTalk}
use Rattle.lua_code.proofs.Following.{follows}

abbrev Over : Option End → Type 0
Over None = ⊥
Over (Some e) = Unit {0}

-- a run that is over stays over
over_after : (program : Program) (f g : Config → List Reply → Option End) → ((c : Config) (rs : List Reply) → Over (f c rs) → g c rs ≡ f c rs) → (rs : List Reply) (x : Step) → Over (after program f x rs) → after program g x rs ≡ after program f x rs
over_after program f g h [] (on c) o = h c [] o
over_after program f g h [] (stop e) o = refl
over_after program f g h [] (asks q p) o = refl
over_after program f g h (r ∷ rs) (on c) o = h c (r ∷ rs) o
over_after program f g h (r ∷ rs) (stop e) o = refl
over_after program f g h (r ∷ rs) (asks q p) o = over_after program f g h rs (resume program q r p) o

stays_over : (program : Program) (n m : ℕ) (c : Config) (rs : List Reply) → n ≤ m → Over (exec program n c rs) → exec program m c rs ≡ exec program n c rs
stays_over program zero m c rs l o = absurd o
stays_over program (suc n) zero c rs l o = absurd (let e : ⊥ = omega (arith, l) in e)
stays_over program (suc n) (suc m) c rs l o = over_after program (exec program n) (exec program m) (λ c rs o. stays_over program n m c rs (omega (arith, l)) o) rs (act program c) o

abbrev unwrap : End → Option End → End
unwrap d None = d
unwrap d (Some e) = e

-- so two ends are one
one_end : (program : Program) (n m : ℕ) (c : Config) (rs : List Reply) (d e : End) → exec program n c rs ≡ Some d → exec program m c rs ≡ Some e → d ≡ e
one_end program n m c rs d e x y =
    let x' = stays_over program n (n + m) c rs (omega arith) (subst Over (sym x) tt) in
    let y' = stays_over program m (n + m) c rs (omega arith) (subst Over (sym y) tt) in
    ap (unwrap d) (sym x ∙ sym x' ∙ y' ∙ y)

-- ---- pauses

abbrev EndOf : End → Pause → End
EndOf d (over e) = e
EndOf d (paused q p) = needed q p.state
EndOf d unfinished = d

abbrev IsOver : Pause → Type 0
IsOver (over e) = Unit {0}
IsOver (paused q p) = ⊥
IsOver unfinished = ⊥

abbrev IsPaused : Pause → Type 0
IsPaused (over e) = ⊥
IsPaused (paused q p) = Unit {0}
IsPaused unfinished = ⊥

over_is : (program : Program) (n : ℕ) (x : Step) (rs : List Reply) (d : End) → IsOver (next program n x) → after program (exec program n) x rs ≡ Some (EndOf d (next program n x))
over_is program n (stop e) rs d o = refl
over_is program n (asks q p) rs d o = absurd o
over_is program zero (on c) rs d o = absurd o
over_is program (suc n) (on c) rs d o = over_is program n (act program c) rs d o

paused_is : (program : Program) (n : ℕ) (x : Step) (d : End) → IsPaused (next program n x) → after program (exec program n) x [] ≡ Some (EndOf d (next program n x))
paused_is program n (stop e) d o = absurd o
paused_is program n (asks q p) d o = refl
paused_is program zero (on c) d o = absurd o
paused_is program (suc n) (on c) d o = paused_is program n (act program c) d o

-- what a run from the start comes to is what the function means
pub means : (start : Start) (b : Block) (rs : List Reply) (j : ℕ) (e : End) → exec (program_of start.game) j (first_config start b) rs ≡ Some e → end_of (meant (fed start rs) b) ≡ e
means start b rs j e h = let x = follows (fed start rs) b in one_end (program_of start.game) x.0 j (first_config start b) rs _ e x.1 h

pub talk : AllTalk
talk start b =
    let P = program_of start.game in
    record {
      begins = λ more i. (i, refl);
      goes_on = λ replies c h more i. h more (suc i);
      is_told = λ replies q p r h more i. let x = h (r ∷ more) i in (x.0, ap (λ rs. exec P x.0 (first_config start b) rs) (append_assoc replies (r ∷ []) more) ∙ x.1);
      asks_so = λ replies x n q p h e.
          let y = h [] n in
          means start b replies y.0 (needed q p.state) (ap (λ rs. exec P y.0 (first_config start b) rs) (sym (append-nil replies)) ∙ y.1 ∙ paused_is P n x (needed q p.state) (subst IsPaused (sym e) tt) ∙ ap (λ z. Some (EndOf (needed q p.state) z)) e);
      ends_so = λ replies x n d h e more.
          let y = h more n in
          means start b (replies ++ more) y.0 d (y.1 ∙ over_is P n x more d (subst IsOver (sym e) tt) ∙ ap (λ z. Some (EndOf d z)) e);
    }
