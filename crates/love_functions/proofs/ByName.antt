-- What a call comes to.
use Rattle.std.proofs.Common.{◌≡◌, ℕ, List, Bool, true, false, Result, Ok, Err, sym, subst, refl}
use Rattle.lua_meaning.specs.Value as meant
use Rattle.lua_meaning.specs.Arguments.{Lib}
use Rattle.lua_heap.specs.declared.native.Native.{Native}
use Rattle.lua_heap.specs.Native.{native_view}
use Rattle.lua_heap.specs.Heap.{HeapView, Extends}
use Rattle.lua_heap.proofs.Callers.{Extends-same}
use Rattle.lua_lib.specs.declared.call.cause.Cause.{Cause}
use Rattle.lua_lib.specs.declared.call.cause.LibFault.{LibFault}
use Rattle.love_functions.specs.declared.errand.Called.{Called}
use Rattle.love_functions.specs.Asking as asking
use Rattle.love_functions.specs.Asking.{Files, is_here, part_of}
use Rattle.love_functions.specs.View.{Comes, MakesCalled, IsCall, CalledIf, here}

-- a function that leaves the heap as it is
pub call-same : (h : HeapView) (part : Lib asking.Called) (r : Result Called Cause) → Comes h h part r → MakesCalled h r → IsCall h h part (here r)
call-same h part (Ok called) comes made = record { calls = comes; made = made; extends = Extends-same h; functions = refl }
call-same h part (Err cause) comes made = record { calls = comes; made = tt; extends = Extends-same h; functions = refl }

module _ (files : Files) (state : ℕ) (vs : List meant.Value) (h : HeapView) where
  abbrev pub Comes_by : Native → Result Called LibFault → Type 0
  Comes_by f r = CalledIf (is_here (native_view f)) h h (part_of files state (native_view f) vs) r

  -- it is the function that was asked for
  pub called-by : (f g : Native) (made r : Result Called LibFault) → f ≡ g → r ≡ made → Comes_by g made → Comes_by f r
  called-by f g made r is same comes =
      let P : Native → Type 0 = λ x. Comes_by x r in
      let Q : Result Called LibFault → Type 0 = λ x. Comes_by g x in
      subst P (sym is) (subst Q (sym same) comes)

-- all that the heap had made is there
pub extends-of : (b : Bool) (before after : HeapView) (part : Lib asking.Called) (r : Result Called LibFault) → CalledIf b before after part r → Extends before after
extends-of true before after part r called = called.extends
extends-of false before after part r called = let P : HeapView → Type 0 = λ h. Extends before h in subst P (sym called.1) (Extends-same before)
