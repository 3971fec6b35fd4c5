-- How arguments are read.
use Rattle.std.proofs.Common.{◌≡◌, ◌≢◌, ℕ, zero, suc, ℤ, List, [], ◌∷◌, Option, None, Some, ◌<◌, ◌≤◌, Result, Ok, Err, length, get_or, map, slice_get, arith, ap, refl, sym, ◌∙◌, subst}
use Rattle.std.specs.Prelude.{codes, unwrap_or}
use Rattle.lua_tree.specs.Tree.{Bytes}
use Rattle.lua_meaning.specs.Value as meant
use Rattle.lua_meaning.specs.Text.{as_number, as_text}
use Rattle.lua_meaning.specs.Fault.{Fault as Error, wants}
use Rattle.lua_meaning.specs.Store.{Store}
use Rattle.lua_meaning.specs.Arguments as meaning
use Rattle.lua_heap.specs.declared.value.Value.{Value}
use Rattle.lua_heap.specs.declared.value.Value.TheVariants.{Nil, Bool as Flag, Num, Str, Table as TableValue, Func, Native, Channel, Thread, Data}
use Rattle.lua_heap.specs.Value.{value_view, text_at}
use Rattle.lua_heap.specs.Heap.{HeapView, IsMade}
use Rattle.lua_lib.specs.declared.call.cause.Cause.{Cause}
use Rattle.lua_lib.specs.Outcome.{Gives, Raises}
use Rattle.lua_lib.specs.Faults.{RaisesBy}
use Rattle.lua_lib.specs.Causes.{AreMade, Comes, error_of}

-- an argument that is there, and one that isn't
pub argument-there : (texts : List Bytes) (args : List Value) (n : ℕ) (v : Value) → n < length args → v ≡ get_or args n v
    → value_view texts v ≡ meaning.argument n (map (value_view texts) args)
argument-there texts [] n v within is = absurd (omega arith)
argument-there texts (w ∷ ws) zero v within is = ap (value_view texts) is
argument-there texts (w ∷ ws) (suc n) v within is = argument-there texts ws n v (omega arith) is

pub argument-absent : (texts : List Bytes) (args : List Value) (n : ℕ) → length args ≤ n → meant.nil ≡ meaning.argument n (map (value_view texts) args)
argument-absent texts [] n past = refl
argument-absent texts (w ∷ ws) zero past = absurd (omega arith)
argument-absent texts (w ∷ ws) (suc n) past = argument-absent texts ws n (omega arith)

pub argument-made : (h : HeapView) (args : List Value) (n : ℕ) (v : Value) → n < length args → v ≡ get_or args n v → AreMade h args → IsMade h v
argument-made h [] n v within is made = absurd (omega arith)
argument-made h (w ∷ ws) zero v within is made = let P : Value → Type 0 = λ x. IsMade h x in subst P (sym is) made.0
argument-made h (w ∷ ws) (suc n) v within is made = argument-made h ws n v (omega arith) is made.1

-- the text of an id
pub text_at-is : (texts : List Bytes) (id : ℕ) (text : Bytes) → slice_get texts id ≡ Some text → text ≡ text_at texts id
text_at-is texts id text e = sym (ap (λ (o : Option Bytes). unwrap_or o []) e)

-- ---- what is wanted of an argument

pub wanted-some : {A : Type 0} (n : ℕ) (expected : Bytes) (v : meant.Value) (o : Option A) (a : A) → o ≡ Some a → Gives (meaning.wanted n expected v o) a
wanted-some {A = A} n expected v o a e = λ s. ap (λ (p : Option A). meaning.wanted n expected v p s) e

pub wanted-none : {A : Type 0} (n : ℕ) (expected : Bytes) (v w : meant.Value) (o : Option A) → o ≡ None → w ≡ v → Raises (meaning.wanted n expected v o) (wants n expected w)
wanted-none {A = A} n expected v w o e same = λ s.
    ap (λ (p : Option A). meaning.wanted n expected v p s) e ∙ ap (λ (x : meant.Value). meaning.faults (wants n expected x)) (sym same)

-- a value but nil is read where a default is given as where none is
pub number_or-value : (n : ℕ) (vs : List meant.Value) (default : ℤ) (s : Store) → meaning.argument n vs ≢ meant.nil
    → meaning.number_or n vs default s ≡ meaning.number_argument n vs s
number_or-value n vs default s some = by (meaning.argument n vs) some
  where
    by : (v : meant.Value) → v ≢ meant.nil → meaning.number_of n v default s ≡ meaning.wanted n (codes "number") v (as_number v) s
    by meant.nil some = absurd (some refl)
    by (meant.flag b) some = refl
    by (meant.num z) some = refl
    by (meant.str b) some = refl
    by (meant.table t) some = refl
    by (meant.func f) some = refl
    by (meant.native f) some = refl
    by (meant.channel c) some = refl
    by (meant.thread t) some = refl
    by (meant.datum d) some = refl

pub text_or-value : (n : ℕ) (vs : List meant.Value) (default : Bytes) (s : Store) → meaning.argument n vs ≢ meant.nil
    → meaning.text_or n vs default s ≡ meaning.text_argument n vs s
text_or-value n vs default s some = by (meaning.argument n vs) some
  where
    by : (v : meant.Value) → v ≢ meant.nil → meaning.text_of n v default s ≡ meaning.wanted n (codes "string") v (as_text v) s
    by meant.nil some = absurd (some refl)
    by (meant.flag b) some = refl
    by (meant.num z) some = refl
    by (meant.str b) some = refl
    by (meant.table t) some = refl
    by (meant.func f) some = refl
    by (meant.native f) some = refl
    by (meant.channel c) some = refl
    by (meant.thread t) some = refl
    by (meant.datum d) some = refl

-- a value but nil isn't nil to the definitions
pub view-some : (texts : List Bytes) (v : Value) → v ≢ Nil → value_view texts v ≢ meant.nil
view-some texts Nil some = λ e. some refl
view-some texts (Flag b) some = λ e. cc
view-some texts (Num z) some = λ e. cc
view-some texts (Str id) some = λ e. cc
view-some texts (TableValue id) some = λ e. cc
view-some texts (Func id) some = λ e. cc
view-some texts (Native f) some = λ e. cc
view-some texts (Channel n) some = λ e. cc
view-some texts (Thread n) some = λ e. cc
view-some texts (Data id) some = λ e. cc

-- two parts that are the same come to the same
pub comes-same : {R A : Type 0} (meant : R → A) (h : HeapView) (part other : meaning.Lib A) (r : Result R Cause) → ((s : Store) → part s ≡ other s)
    → Comes meant h other r → Comes meant h part r
comes-same meant h part other (Ok a) same comes = λ s. same s ∙ comes s
comes-same meant h part other (Err cause) same comes = by (error_of h.texts cause) comes
  where
    by : (e : Option Error) → RaisesBy other e → RaisesBy part e
    by None raises = tt
    by (Some e) raises = λ s. same s ∙ raises s

-- a default may be given by an equal number
pub number_or-default : (n : ℕ) (vs : List meant.Value) (d e : ℤ) (z : ℤ) → d ≡ e → Gives (meaning.number_or n vs d) z → Gives (meaning.number_or n vs e) z
number_or-default n vs d e z same g = let P : ℤ → Type 0 = λ x. Gives (meaning.number_or n vs x) z in subst P same g

pub number_or-default-raises : (n : ℕ) (vs : List meant.Value) (d e : ℤ) (o : Option Error) → d ≡ e → RaisesBy (meaning.number_or n vs d) o
    → RaisesBy (meaning.number_or n vs e) o
number_or-default-raises n vs d e o same g = let P : ℤ → Type 0 = λ x. RaisesBy (meaning.number_or n vs x) o in subst P same g
