-- What a call comes to in a heap, which it may change.
use Rattle.std.specs.Prelude.{IfOk, ◌≡◌, List, [], ◌∷◌, Option, None, Some, Result, Ok, Err, ⊤}
use Rattle.lua_meaning.specs.Value as meant
use Rattle.lua_meaning.specs.Fault.{Fault as Error}
use Rattle.lua_meaning.specs.Arguments.{Lib, answers, faults}
use Rattle.lua_heap.specs.declared.value.Value.{Value}
use Rattle.lua_heap.specs.Value.{value_view}
use Rattle.lua_tree.specs.Tree.{Bytes}
use Rattle.lua_heap.specs.Heap.{HeapView, Extends, store_of}
use Rattle.lua_lib.specs.declared.call.cause.Cause.{Cause}
use Rattle.lua_lib.specs.declared.call.cause.LibFault.{LibFault}
use Rattle.lua_lib.specs.declared.call.cause.LibFault.TheVariants.{Fails, Elsewhere}
use Rattle.lua_lib.specs.Causes.{error_of, values_of, AreMade}

-- a part of a function raises an error, where there is one, and the store is as it was
abbrev pub Refuses : {A : Type 0} → (before after : HeapView) → Lib A → Option Error → Type 0
Refuses before after part None = ⊤
Refuses before after part (Some error) =
    (part (store_of before) ≡ faults error) × (store_of after ≡ store_of before)

-- a part of a function gives what an answer stands for, and the store is then that of the heap; or it raises the error of
-- its cause
abbrev pub Runs : {R A : Type 0} → (R → A) → (before after : HeapView) → Lib A → Result R Cause → Type 0
Runs meant before after part (Ok answer) =
    part (store_of before) ≡ answers (meant answer) (store_of after)
Runs meant before after part (Err cause) = Refuses before after part (error_of after.texts cause)

-- a pair as two values; where there is none, nil or nothing
abbrev pub pair_or_nil : List Bytes → Option (Value × Value) → List meant.Value
pair_or_nil texts None = meant.nil ∷ []
pair_or_nil texts (Some pair) = value_view texts pair.0 ∷ value_view texts pair.1 ∷ []

abbrev pub pair_or_none : List Bytes → Option (Value × Value) → List meant.Value
pair_or_none texts None = []
pair_or_none texts (Some pair) = value_view texts pair.0 ∷ value_view texts pair.1 ∷ []

-- a value, or nothing
abbrev pub value_or_none : List Bytes → Option Value → List meant.Value
value_or_none texts None = []
value_or_none texts (Some v) = value_view texts v ∷ []

-- a call gives a function's values, and the store is then that of the heap; or it fails with the function's error
abbrev pub Calls : {R : Type 0} → (R → List Value) → (before after : HeapView) → Lib (List meant.Value) → Result R LibFault → Type 0
Calls items before after part (Ok given) =
    part (store_of before) ≡ answers (values_of after (items given)) (store_of after)
Calls items before after part (Err (Fails cause)) = Refuses before after part (error_of after.texts cause)
Calls items before after part (Err Elsewhere) = ⊥

-- so it is called, what it gives was made by the heap, and all that the heap had made is there
pub record Called {R : Type 0} (items : R → List Value) (before after : HeapView) (part : Lib (List meant.Value)) (result : Result R LibFault) : Type 0 where
  pub calls : Calls items before after part result
  pub made : IfOk result (λ (given : R). AreMade after (items given))
  pub extends : Extends before after
  pub functions : after.functions ≡ before.functions
