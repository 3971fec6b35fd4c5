-- Parts of a function one after the other.
use Rattle.std.specs.Prelude.{map, drop, codes, nat_eq, ◌||◌, ◌⊎◌}
use Rattle.std.specs.List.{list_any}
use Rattle.std.proofs.lemmas.Bool.Decides.{eqb_tells}
use Rattle.variant.specs.declared.message.Variant.TheFolds.{fold-roll-Variant}
use Rattle.variant.specs.declared.message.Variant.TheOpen.{Variant-F}
use Rattle.variant.specs.declared.message.Variant.TheVariants as variant
use Rattle.variant.specs.declared.message.Variant.TheVariants.{rolls-Num}
use Rattle.lua_meaning.specs.MessageView.{message_view, layer_view}
use Rattle.lua_meaning.specs.Strings.{is_one_of}
use Rattle.std.proofs.lemmas.Bool.{ne_eqb}
use Rattle.crossing.specs.Fault.{Answers}
use Rattle.std.proofs.Common.{◌≡◌, ◌≢◌, ℕ, zero, suc, ℤ, List, [], ◌∷◌, Bool, true, false, cond, inl, inr, Result, Ok, Err, ap, refl, sym, subst, ◌∙◌}
use Rattle.lua_meaning.specs.Value as meant
use Rattle.lua_meaning.specs.Store.{Store}
use Rattle.lua_tree.specs.Tree.{Bytes}
use Rattle.lua_meaning.specs.Message.{Message, Ask}
use Rattle.lua_meaning.specs.Packing as packing
use Rattle.lua_meaning.specs.Arguments.{Lib, ◌>>=◌, answer, answers, number_argument}
use Rattle.lua_meaning.specs.LoveArguments.{limit_of, seconds}
use Rattle.crossing.specs.declared.fault.PackFault.{PackFault}
use Rattle.crossing.specs.declared.fault.PackFault.TheVariants.{Kind, Cycle, Key, Depth, Memory}
use Rattle.lua_heap.specs.Heap.{HeapView, store_of}
use Rattle.lua_heap.proofs.Callers.{Extends-same}
use Rattle.lua_lib.specs.declared.call.cause.Cause.{Cause}
use Rattle.lua_lib.specs.Outcome.{Gives}
use Rattle.lua_lib.specs.Causes.{Comes, error_of}
use Rattle.lua_lib.specs.Runs.{Refuses}
use Rattle.lua_lib.proofs.Running.{runs-then}
use Rattle.lua_code.specs.State.{Errand}
use Rattle.love_functions.specs.declared.errand.Called as declared
use Rattle.love_functions.specs.Asking.{Called, Files, refuses, packed, by_main, asking, bytes_data, new_file_data_of}
use Rattle.love_functions.specs.View as View
use Rattle.love_functions.specs.View.{Tells, AnswersFault}
use Rattle.lua_lib.proofs.Binding.{gives-then, raises-then}

-- a part gives an answer, and what follows comes to a result
pub comes-then : {R A B : Type 0} (meant : R → B) (h : HeapView) (part : Lib A) (next : A → Lib B) (a : A) (r : Result R Cause) → Gives part a → Comes meant h (next a) r → Comes meant h (part >>= next) r
comes-then meant h part next a (Ok given) first then_ = gives-then part next a (meant given) first then_
comes-then meant h part next a (Err cause) first then_ = raises-then part next a (error_of h.texts cause) first then_

-- a limit that isn't nil is read as a number
pub limit-some : (n : ℕ) (v : meant.Value) (vs : List meant.Value) (s : Store) → v ≢ meant.nil → limit_of n v vs s ≡ (number_argument n vs >>= seconds n) s
limit-some n meant.nil vs s some = absurd (some refl)
limit-some n (meant.flag b) vs s some = refl
limit-some n (meant.num z) vs s some = refl
limit-some n (meant.str b) vs s some = refl
limit-some n (meant.table t) vs s some = refl
limit-some n (meant.func f) vs s some = refl
limit-some n (meant.native f) vs s some = refl
limit-some n (meant.channel c) vs s some = refl
limit-some n (meant.thread t) vs s some = refl
limit-some n (meant.datum d) vs s some = refl

-- a value that is refused as a message
pub refused-as : {M : Type 0} (meaning : Result M packing.PackFault) (next : M → Lib Called) (fault : PackFault) (text : Bytes) (s : Store) → Tells fault text → fault ≢ Memory → AnswersFault meaning fault → packed next meaning s ≡ answers (refuses text) s
refused-as meaning next Memory text s tells sent is = absurd (sent refl)
refused-as (Ok m) next (Kind t) text s tells sent is = absurd is
refused-as (Ok m) next Cycle text s tells sent is = absurd is
refused-as (Ok m) next (Key t) text s tells sent is = absurd is
refused-as (Ok m) next Depth text s tells sent is = absurd is
refused-as (Err e) next (Kind t) text s tells sent is = ap (λ (w : Bytes). answers (refuses w) s) (sym (tells e is))
refused-as (Err e) next Cycle text s tells sent is = ap (λ (w : Bytes). answers (refuses w) s) (sym (tells e is))
refused-as (Err e) next (Key t) text s tells sent is = ap (λ (w : Bytes). answers (refuses w) s) (sym (tells e is))
refused-as (Err e) next Depth text s tells sent is = ap (λ (w : Bytes). answers (refuses w) s) (sym (tells e is))

-- a call that packs was refused
pub answers-fault : {M V : Type 0} (view : V → M) (meaning : Result M packing.PackFault) (fault : PackFault) → Answers view meaning (Err fault) → AnswersFault meaning fault
answers-fault view meaning (Kind t) is = is
answers-fault view meaning Cycle is = is
answers-fault view meaning (Key t) is = is
answers-fault view meaning Depth is = is
answers-fault view meaning Memory is = tt

pub map-drop : {A B : Type 0} (f : A → B) (n : ℕ) (xs : List A) → map f (drop n xs) ≡ drop n (map f xs)
map-drop f zero xs = refl
map-drop f (suc n) [] = refl
map-drop f (suc n) (x ∷ xs) = map-drop f n xs

-- a choice whose test is known
pub else_second : {X : Type 0} (b : Bool) (x y : X) → b ≡ false → cond b x y ≡ y
else_second true x y e = cc
else_second false x y e = refl

-- a state but the main one may not poll
pub by_main-other : (state : ℕ) (errand : Errand) (h : HeapView) (r : Result declared.Called Cause) → state ≢ 0 → View.Comes h h (answer (refuses (codes "events are polled by the main state"))) r → View.Comes h h (by_main state errand) r
by_main-other state errand h r other comes =
    let asked : Lib Called = asking Ask.event_poll errand in
    let refused : Lib Called = answer (refuses (codes "events are polled by the main state")) in
    let is : by_main state errand ≡ refused = else_second (nat_eq state 0) asked refused (ne_eqb state 0 other) in
    let P : Lib Called → Type 0 = λ part. View.Comes h h part r in
    subst P (sym is) comes

-- whether a text has a newline
newline-eq : (d : ℕ) → nat_eq d 10 ≡ nat_eq 10 d
newline-eq d = by (eqb_tells d 10) (eqb_tells 10 d)
  where
    by : ((nat_eq d 10 ≡ true) × (d ≡ 10)) ⊎ ((nat_eq d 10 ≡ false) × (d ≢ 10)) → ((nat_eq 10 d ≡ true) × (10 ≡ d)) ⊎ ((nat_eq 10 d ≡ false) × (10 ≢ d)) → nat_eq d 10 ≡ nat_eq 10 d
    by (inl p) (inl q) = p.0 ∙ sym q.0
    by (inl p) (inr q) = absurd (q.1 (sym p.1))
    by (inr p) (inl q) = absurd (p.1 (sym q.1))
    by (inr p) (inr q) = p.0 ∙ sym q.0

pub has-newline : (text : List ℕ) → list_any (λ d. nat_eq d 10) text ≡ is_one_of text 10
has-newline [] = refl
has-newline (d ∷ ds) = ap (λ (b : Bool). b || list_any (λ e. nat_eq e 10) ds) (newline-eq d) ∙ ap (λ (b : Bool). nat_eq 10 d || b) (has-newline ds)

-- a number as a message
pub seen-Num : (n : ℤ) → message_view (variant.Num n) ≡ Message.num n
seen-Num n = ap message_view (sym (rolls-Num n)) ∙ fold-roll-Variant Message layer_view (Variant-F.Num n)

-- a call that was refused left the heap as it was
pub refused-there : (h : HeapView) (part : Lib Called) (cause : Cause) → Refuses h h part (error_of h.texts cause) → View.IsCalled h h part (Err cause)
refused-there h part cause refused = record { comes = refused; made = tt; extends = Extends-same h; functions = refl }

pub called-then : {A : Type 0} (before after : HeapView) (part : Lib A) (next : A → Lib Called) (a : A) (r : Result declared.Called Cause) → Gives part a → View.IsCalled before after (next a) r → View.IsCalled before after (part >>= next) r
called-then before after part next a r first then_ =
    record {
      comes = runs-then part next (View.called_view after) before after a r (first (store_of before)) then_.comes;
      made = then_.made;
      extends = then_.extends;
      functions = then_.functions;
    }

-- with a name that isn't nil the bytes are given
pub with-name : (files : Files) (vs : List meant.Value) (v : meant.Value) → v ≢ meant.nil → new_file_data_of files vs v ≡ bytes_data vs
with-name files vs meant.nil some = absurd (some refl)
with-name files vs (meant.flag b) some = refl
with-name files vs (meant.num z) some = refl
with-name files vs (meant.str b) some = refl
with-name files vs (meant.table t) some = refl
with-name files vs (meant.func f) some = refl
with-name files vs (meant.native f) some = refl
with-name files vs (meant.channel c) some = refl
with-name files vs (meant.thread t) some = refl
with-name files vs (meant.datum d) some = refl
