-- What an arm of a call came to.
use Rattle.std.specs.Prelude.{IsTrue, IsFalse}
use Rattle.std.proofs.Common.{◌≡◌, Bool, true, false, ℕ, ℤ, pos, List, [], ◌∷◌, Result, Err, IfOk, ap, refl, sym, subst}
use Rattle.lua_meaning.specs.Value as meant
use Rattle.lua_meaning.specs.Arguments.{Lib}
use Rattle.lua_meaning.specs.Library.{library}
use Rattle.lua_heap.specs.declared.native.Native.{Native}
use Rattle.lua_heap.specs.declared.value.Value.{Value}
use Rattle.lua_heap.specs.Native.{native_view}
use Rattle.lua_heap.specs.Heap.{HeapView, Extends}
use Rattle.lua_heap.proofs.Callers.{Extends-same}
use Rattle.lua_lib.specs.declared.call.cause.Cause.{Cause}
use Rattle.lua_lib.specs.declared.call.cause.LibFault.{LibFault}
use Rattle.lua_lib.specs.declared.call.cause.LibFault.TheVariants.{Elsewhere}
use Rattle.lua_lib.specs.Causes.{AreMade}
use Rattle.lua_lib.specs.Runs.{Runs, Calls, Called}
use Rattle.lua_lib.specs.Here.{is_here, CalledIf}

-- the heap stays as it is
pub called-same : {R : Type 0} (items : R → List Value) (h : HeapView) (part : Lib (List meant.Value)) (result : Result R LibFault)
    → Calls items h h part result → IfOk result (λ (given : R). AreMade h (items given)) → Called items h h part result
called-same items h part result calls made = record { calls = calls; made = made; extends = Extends-same h; functions = refl }

-- a function that is this one, which is here
pub called-by : {R : Type 0} (items : R → List Value) (before after : HeapView) (f g : Native) (vs : List meant.Value) (result : Result R LibFault) → f ≡ g
    → CalledIf (is_here (native_view g)) items before after (library (native_view g) vs) result → CalledIf (is_here (native_view f)) items before after (library (native_view f) vs) result
called-by items before after f g vs result is called = let P : Native → Type 0 = λ x. CalledIf (is_here (native_view x)) items before after (library (native_view x) vs) result in subst P (sym is) called

-- a walk that begins at a number that is 0
pub walk-from : (h : HeapView) (by : meant.Value) (part : Lib (List meant.Value)) (r : Result ℕ Cause) (z : ℤ) → z ≡ pos 0
    → Runs (λ (t : ℕ). by ∷ meant.table t ∷ meant.num (pos 0) ∷ []) h h part r → Runs (λ (t : ℕ). by ∷ meant.table t ∷ meant.num z ∷ []) h h part r
walk-from h by part r z is runs = let P : ℤ → Type 0 = λ x. Runs (λ (t : ℕ). by ∷ meant.table t ∷ meant.num x ∷ []) h h part r in subst P (sym is) runs

-- what a call came to, whether its function is here or not
module _ {R : Type 0} (items : R → List Value) (before after : HeapView) (part : Lib (List meant.Value)) (result : Result R LibFault) where
  pub called-here : (here : Bool) → CalledIf here items before after part result → IsTrue here → Calls items before after part result
  called-here true called is = called.calls
  called-here false called is = cc

  pub called-elsewhere : (here : Bool) → CalledIf here items before after part result → IsFalse here → result ≡ Err Elsewhere
  called-elsewhere true called is = cc
  called-elsewhere false called is = called.0

  pub called-untouched : (here : Bool) → CalledIf here items before after part result → IsFalse here → after ≡ before
  called-untouched true called is = cc
  called-untouched false called is = called.1

  pub called-made : (here : Bool) → CalledIf here items before after part result → IfOk result (λ (given : R). AreMade after (items given))
  called-made true called = called.made
  called-made false called = let P : Result R LibFault → Type 0 = λ r. IfOk r (λ (given : R). AreMade after (items given)) in subst P (sym called.0) tt

  pub called-extends : (here : Bool) → CalledIf here items before after part result → Extends before after
  called-extends true called = called.extends
  called-extends false called = let P : HeapView → Type 0 = λ h. Extends before h in subst P (sym called.1) (Extends-same before)

  pub called-functions : (here : Bool) → CalledIf here items before after part result → after.functions ≡ before.functions
  called-functions true called = called.functions
  called-functions false called = ap (λ (h : HeapView). h.functions) called.1
