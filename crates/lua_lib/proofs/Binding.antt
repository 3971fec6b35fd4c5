-- Parts of a function of the library one after the other.
use Rattle.std.proofs.Common.{◌≡◌, Option, None, Some, ap, ◌∙◌}
use Rattle.lua_meaning.specs.Store.{Store}
use Rattle.lua_meaning.specs.Arguments.{Lib, Answer, ◌>>=◌, ◌>>>◌}
use Rattle.lua_meaning.specs.Fault.{Fault as Error}
use Rattle.lua_lib.specs.Outcome.{Gives}
use Rattle.lua_lib.specs.Faults.{RaisesBy}

module _ {A B : Type 0} (part : Lib A) (next : A → Lib B) where
  -- both give an answer
  pub gives-then : (a : A) (b : B) → Gives part a → Gives (next a) b → Gives (part >>= next) b
  gives-then a b p q = λ s. ap (λ (r : Answer A). r >>> next) (p s) ∙ q s

  -- the first one raises an error
  pub raises-first : (e : Option Error) → RaisesBy part e → RaisesBy (part >>= next) e
  raises-first None h = tt
  raises-first (Some e) h = λ s. ap (λ (r : Answer A). r >>> next) (h s)

  -- the second one does
  pub raises-then : (a : A) (e : Option Error) → Gives part a → RaisesBy (next a) e → RaisesBy (part >>= next) e
  raises-then a None p h = tt
  raises-then a (Some e) p h = λ s. ap (λ (r : Answer A). r >>> next) (p s) ∙ h s

-- a part that is another one raises what that raises
pub raises-same : {A : Type 0} (part other : Lib A) (e : Option Error) → ((s : Store) → part s ≡ other s) → RaisesBy other e → RaisesBy part e
raises-same part other None same raises = tt
raises-same part other (Some e) same raises = λ s. same s ∙ raises s
