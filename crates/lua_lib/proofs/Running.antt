-- Parts of a function one after the other, at a heap.
use Rattle.std.proofs.Common.{◌≡◌, Option, None, Some, Result, Ok, Err, ap, refl, subst, ◌∙◌}
use Rattle.lua_meaning.specs.Store.{Store}
use Rattle.lua_meaning.specs.Fault.{Fault as Error}
use Rattle.lua_meaning.specs.Arguments.{Lib, Answer, answers, ◌>>=◌, ◌>>>◌}
use Rattle.lua_heap.specs.Heap.{HeapView, store_of}
use Rattle.lua_lib.specs.declared.call.cause.Cause.{Cause}
use Rattle.lua_lib.specs.Faults.{RaisesBy}
use Rattle.lua_lib.specs.Causes.{Comes, error_of}
use Rattle.lua_lib.specs.Runs.{Runs, Refuses}

-- what is raised whatever the store holds is raised at a heap's store
pub refuses-raised : {A : Type 0} (h : HeapView) (part : Lib A) (e : Option Error) → RaisesBy part e → Refuses h h part e
refuses-raised h part None raised = tt
refuses-raised h part (Some e) raised = (raised (store_of h), refl)

-- what a part comes to whatever the store holds it comes to at a heap's store
pub comes-runs : {R A : Type 0} (meant : R → A) (h : HeapView) (part : Lib A) (r : Result R Cause) → Comes meant h part r → Runs meant h h part r
comes-runs meant h part (Ok a) comes = comes (store_of h)
comes-runs meant h part (Err cause) comes = refuses-raised h part (error_of h.texts cause) comes

-- a part that is another one there is refused as that is
pub refuses-same : {A : Type 0} (h : HeapView) (part other : Lib A) (e : Option Error) → part (store_of h) ≡ other (store_of h) → Refuses h h other e → Refuses h h part e
refuses-same h part other None is refused = tt
refuses-same h part other (Some e) is refused = (is ∙ refused.0, refused.1)

-- a part answers, and what follows comes to a result
pub then-at : {A B : Type 0} (x : Answer A) (next : A → Store → Answer B) (s : Store) (a : A) (r : Answer B)
    → x ≡ answers a s → next a s ≡ r → (x >>> next) ≡ r
then-at {A = A} x next s a r p q = ap (λ (y : Answer A). y >>> next) p ∙ q

-- what an answer stands for, where there is one
pub runs-ok : {R A : Type 0} (meant : R → A) (before after : HeapView) (part : Lib A) (r : Result R Cause) (a : R) → r ≡ Ok a
    → Runs meant before after part r → part (store_of before) ≡ answers (meant a) (store_of after)
runs-ok {R = R} meant before after part r a is runs = let P : Result R Cause → Type 0 = λ x. Runs meant before after part x in subst P is runs

module _ {A B : Type 0} (part : Lib A) (next : A → Lib B) where
  -- what follows is refused
  pub refuses-then : (before after : HeapView) (a : A) (e : Option Error) → part (store_of before) ≡ answers a (store_of before)
      → Refuses before after (next a) e → Refuses before after (part >>= next) e
  refuses-then before after a None p h = tt
  refuses-then before after a (Some e) p h = (ap (λ (x : Answer A). x >>> next) p ∙ h.0, h.1)

  -- the part is refused
  pub refuses-first : (before after : HeapView) (e : Option Error) → Refuses before after part e → Refuses before after (part >>= next) e
  refuses-first before after None h = tt
  refuses-first before after (Some e) h = (ap (λ (x : Answer A). x >>> next) h.0, h.1)

  -- both come to something
  pub runs-then : {R : Type 0} (meant : R → B) (before after : HeapView) (a : A) (r : Result R Cause) → part (store_of before) ≡ answers a (store_of before)
      → Runs meant before after (next a) r → Runs meant before after (part >>= next) r
  runs-then meant before after a (Ok given) p runs = ap (λ (x : Answer A). x >>> next) p ∙ runs
  runs-then meant before after a (Err cause) p runs = refuses-then before after a (error_of after.texts cause) p runs

-- a part that is another one there comes to what that does
pub runs-same : {R A : Type 0} (meant : R → A) (before after : HeapView) (part other : Lib A) (r : Result R Cause) → part (store_of before) ≡ other (store_of before)
    → Runs meant before after other r → Runs meant before after part r
runs-same meant before after part other (Ok a) same runs = same ∙ runs
runs-same meant before after part other (Err cause) same runs = by (error_of after.texts cause) runs
  where
    by : (e : Option Error) → Refuses before after other e → Refuses before after part e
    by None refused = tt
    by (Some e) refused = (same ∙ refused.0, refused.1)
