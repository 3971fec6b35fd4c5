-- A desk of a board and empty Channels is laid for each of its passes.
use Rattle.std.proofs.Common.{◌≡◌, ◌∙◌, ℕ, zero, suc, ◌+◌, ◌<◌, List, [], ◌∷◌, ◌++◌, map, length, get_or, replicate, refl, sym, ap, subst, arith, All, true}
use Rattle.std.specs.Prelude.{slice_index}
use Rattle.std.specs.List.{range_with_len}
use Rattle.turn_desk.specs.Closing.{HoldsNothing, IsReady}
use Rattle.turn_desk.specs.Opening.{opening_pass, opening_passes}
use Rattle.turn_desk.specs.Passes.{DeskId, Standing, object_count}
use Rattle.turn_desk.proofs.Callers.{all_last, opening_ready}
use Rattle.channel_desk.specs.declared.shared.Shared.{Shared}
use Rattle.channel_desk.specs.declared.shared.Shared.TheVariants.{Board, Channel}
use Rattle.channel_desk.specs.declared.shared.SharedEntry.{SharedEntry}
use Rattle.channel_desk.specs.Shared.{history_of, kind_of, rests}
use Rattle.channel_desk.specs.Holding.{IsLaid}
use Rattle.channel_desk.specs.Opened.{AreLaid, laid_out}

kinds_at : (n k : ℕ) → get_or (map kind_of (replicate n (Channel []))) k 0 ≡ 0
kinds_at zero k = refl
kinds_at (suc n) zero = refl
kinds_at (suc n) (suc k) = kinds_at n k

length_kinds : (n : ℕ) → length (replicate n (Channel [])) ≡ n
length_kinds zero = refl
length_kinds (suc n) = ap suc (length_kinds n)

pub length_laid : (workers n : ℕ) → length (laid_out workers n) ≡ n + 1
length_laid workers n = let l = length_kinds n in omega arith

channels_all : (P : Shared → Type 0) → P (Channel []) → (n k : ℕ) (d : Shared) → k < length (replicate n (Channel [])) → P (get_or (replicate n (Channel [])) k d)
channels_all P here zero k d lt = absurd (omega arith)
channels_all P here (suc n) zero d lt = here
channels_all P here (suc n) (suc k) d lt = channels_all P here n k d (omega arith)

all_laid : (P : Shared → Type 0) (workers n : ℕ) → P (Board (record { workers = workers; history = [] })) → P (Channel []) → All P (laid_out workers n)
all_laid P workers n board channel = each
  where
    each : All P (laid_out workers n)
    each zero d lt = board
    each (suc k) d lt = channels_all P channel n k d (omega arith)

-- each object is new, and nobody is inside a section
pub all_fresh : (workers n : ℕ) (objects : List Shared) → objects ≡ laid_out workers n → All (λ (x : Shared). history_of x ≡ []) objects
all_fresh workers n objects e = subst (All (λ (x : Shared). history_of x ≡ [])) (sym e) (all_laid (λ (x : Shared). history_of x ≡ []) workers n refl refl)

pub all_between : (workers n : ℕ) (objects : List Shared) → objects ≡ laid_out workers n → All (λ (x : Shared). rests (history_of x) ≡ true) objects
all_between workers n objects e = subst (All (λ (x : Shared). rests (history_of x) ≡ true)) (sym e) (all_laid (λ (x : Shared). rests (history_of x) ≡ true) workers n refl refl)

push_channel : (n : ℕ) → replicate n (Channel []) ++ Channel [] ∷ [] ≡ Channel [] ∷ replicate n (Channel [])
push_channel zero = refl
push_channel (suc n) = ap (λ (l : List Shared). Channel [] ∷ l) (push_channel n)

-- one Channel more
pub laid_more : (workers n m : ℕ) (objects more : List Shared) → m ≡ n + 1 → objects ≡ laid_out workers n → more ≡ objects ++ Channel [] ∷ [] → more ≡ laid_out workers m
laid_more workers n m objects more up e pushed =
    pushed ∙ (ap (λ (l : List Shared). l ++ Channel [] ∷ []) e ∙ (ap (λ (l : List Shared). Board (record { workers = workers; history = [] }) ∷ l) (push_channel n) ∙ ap (λ (k : ℕ). laid_out workers k) (sym (up ∙ one_more n))))
  where
    one_more : (k : ℕ) → k + 1 ≡ suc k
    one_more k = omega arith

pub laid_fixed : (desk : DeskId) (workers n : ℕ) (p : Standing SharedEntry) → p.desk ≡ desk → p.view.fixed ≡ map kind_of (laid_out workers n) → 0 < workers → 1024 < object_count desk → IsLaid desk p
laid_fixed desk workers n p own fixed some wide = record {
  own = own;
  wide = wide;
  board = subst (λ (f : List ℕ). 1 < slice_index f 0) (sym fixed) (omega arith);
  channels = λ o low high. ap (λ (f : List ℕ). slice_index f o) fixed ∙ behind o low;
}
  where
    behind : (o : ℕ) → 0 < o → slice_index (map kind_of (laid_out workers n)) o ≡ 0
    behind zero low = absurd (omega arith)
    behind (suc o) low = kinds_at n o

-- the passes of a desk of such objects
pub opening_laid : (desk : DeskId) (workers n : ℕ) (objects : List Shared) (passes : List (Standing SharedEntry)) → passes ≡ opening_passes desk (map kind_of objects) → objects ≡ laid_out workers n → 0 < workers → 1024 < object_count desk → AreLaid desk passes
opening_laid desk workers n objects passes e out some wide = λ k d lt. (
  laid_fixed desk workers n (get_or passes k d) (ready k d lt).0 (fixed_of k d lt ∙ ap (map kind_of) out) some wide,
  (ready k d lt).1,
)
  where
    ready : All (IsReady desk) passes
    ready = opening_ready desk (map kind_of objects) passes e

    made : (a m k : ℕ) (d : Standing SharedEntry) → k < length (map (opening_pass {E = SharedEntry} desk (map kind_of objects)) (range_with_len a m)) → (get_or (map (opening_pass desk (map kind_of objects)) (range_with_len a m)) k d).view.fixed ≡ map kind_of objects
    made a zero k d lt = absurd (omega arith)
    made a (suc m) zero d lt = refl
    made a (suc m) (suc k) d lt = made (a + 1) m k d (omega arith)

    fixed_of : (k : ℕ) (d : Standing SharedEntry) → k < length passes → (get_or passes k d).view.fixed ≡ map kind_of objects
    fixed_of k d lt = ap (λ (l : List (Standing SharedEntry)). (get_or l k d).view.fixed) e ∙ made 1 desk.seats k d (subst (λ (l : List (Standing SharedEntry)). k < length l) e lt)

-- the last of them
pub last_laid : (desk : DeskId) (passes before : List (Standing SharedEntry)) (p : Standing SharedEntry) → AreLaid desk passes → passes ≡ before ++ p ∷ [] → IsLaid desk p × HoldsNothing p.view
last_laid desk passes before p all e = all_last (λ (q : Standing SharedEntry). IsLaid desk q × HoldsNothing q.view) before p (subst (AreLaid desk) e all)
