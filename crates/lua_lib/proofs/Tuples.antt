-- Which arguments `assert` and `select` give.
use Rattle.std.proofs.Common.{◌≡◌, ◌≢◌, ℕ, zero, suc, pos, Bool, true, false, List, [], ◌∷◌, drop, length, ap, refl, subst, sym}
use Rattle.std.specs.Prelude.{if◌then◌else◌}
use Rattle.lua_tree.specs.Tree.{Bytes}
use Rattle.lua_meaning.specs.Value as meant
use Rattle.lua_meaning.specs.Store.{Store}
use Rattle.lua_meaning.specs.Fault.{raises}
use Rattle.lua_meaning.specs.Arguments.{Lib, argument, answer, answer_one, answers, faults, fault}
use Rattle.lua_meaning.specs.Basic as meaning
use Rattle.lua_heap.specs.declared.value.Value.{Value}
use Rattle.lua_heap.specs.declared.value.Value.TheVariants.{Nil, Bool as Flag, Num, Str, Table as TableValue, Func, Native, Channel, Thread, Data}
use Rattle.lua_heap.specs.Value.{value_view}
use Rattle.lua_heap.specs.Heap.{HeapView}
use Rattle.lua_lib.specs.Causes.{AreMade}
use Rattle.lua_lib.specs.Selected.{selected_by}

-- what `assert` gives, by whether its first argument is true
abbrev by_truth : List meant.Value → Bool → Lib (List meant.Value)
by_truth vs is = if is then answer vs else fault (raises (meaning.assert_message (argument 1 vs)))

pub assert-true : (vs : List meant.Value) (s : Store) → meant.is_true (argument 0 vs) ≡ true → meaning.assert vs s ≡ answers vs s
assert-true vs s is = ap (λ (b : Bool). by_truth vs b s) is

pub assert-false : (vs : List meant.Value) (s : Store) → meant.is_true (argument 0 vs) ≡ false → meaning.assert vs s ≡ faults (raises (meaning.assert_message (argument 1 vs)))
assert-false vs s is = ap (λ (b : Bool). by_truth vs b s) is

-- a message but nil is the error
pub message-is : (texts : List Bytes) (v : Value) → v ≢ Nil → meaning.assert_message (value_view texts v) ≡ value_view texts v
message-is texts Nil some = absurd (some refl)
message-is texts (Flag b) some = refl
message-is texts (Num z) some = refl
message-is texts (Str id) some = refl
message-is texts (TableValue id) some = refl
message-is texts (Func id) some = refl
message-is texts (Native f) some = refl
message-is texts (Channel n) some = refl
message-is texts (Thread n) some = refl
message-is texts (Data id) some = refl

-- what `select` gives, by whether it is asked for a count
abbrev by_mark : List meant.Value → Bool → Lib (List meant.Value)
by_mark vs mark = if mark then answer_one (meant.num (pos (length (drop 1 vs)))) else selected_by vs (drop 1 vs)

pub select-count : (vs : List meant.Value) → meaning.is_count_mark (argument 0 vs) ≡ true → meaning.select vs ≡ answer_one (meant.num (pos (length (drop 1 vs))))
select-count vs is = ap (λ (b : Bool). by_mark vs b) is

pub select-values : (vs : List meant.Value) → meaning.is_count_mark (argument 0 vs) ≡ false → meaning.select vs ≡ selected_by vs (drop 1 vs)
select-values vs is = ap (λ (b : Bool). by_mark vs b) is

-- values that were made, without the first ones
pub AreMade-drop : (h : HeapView) (n : ℕ) (vs : List Value) → AreMade h vs → AreMade h (drop n vs)
AreMade-drop h zero vs made = made
AreMade-drop h (suc n) [] made = tt
AreMade-drop h (suc n) (v ∷ vs) made = AreMade-drop h n vs made.1

pub AreMade-part : (h : HeapView) (n : ℕ) (vs part : List Value) → part ≡ drop n vs → AreMade h vs → AreMade h part
AreMade-part h n vs part is made = let P : List Value → Type 0 = λ ws. AreMade h ws in subst P (sym is) (AreMade-drop h n vs made)
