-- What a library function is: it takes arguments and a store, and answers or fails. And how it reads its arguments.
use Rattle.std.specs.Prelude.{ℕ, zero, suc, ℤ, List, [], ◌∷◌, Option, Some, None, ⊤, codes}
use Rattle.lua_tree.specs.Tree.{Bytes}
use Rattle.lua_meaning.specs.Value.{Value, nil, table, datum}
use Rattle.lua_meaning.specs.Text.{as_number, as_text}
use Rattle.lua_meaning.specs.Store.{Store}
use Rattle.lua_meaning.specs.Fault.{Fault, wants}

-- what comes of it: an answer and the store then, or an error, which leaves the store as it was
pub data Answer (A : Type 0) : Type 0 where
  answers : A → Store → Answer A
  faults : Fault → Answer A

abbrev pub Lib : Type 0 → Type 0
Lib A = Store → Answer A

infixl 10 ◌>>>◌
infixl 9 ◌>>=◌
infixl 9 ◌>>◌
abbrev pub ◌>>>◌ : {A B : Type 0} → Answer A → (A → Store → Answer B) → Answer B
(answers a s) >>> next = next a s
(faults f) >>> next = faults f

abbrev pub ◌>>=◌ : {A B : Type 0} → Lib A → (A → Lib B) → Lib B
◌>>=◌ part next s = part s >>> next

abbrev pub ◌>>◌ : {A B : Type 0} → Lib A → Lib B → Lib B
◌>>◌ part next s = part s >>> λ a s. next s

abbrev pub answer : {A : Type 0} → A → Lib A
answer a s = answers a s

abbrev pub fault : {A : Type 0} → Fault → Lib A
fault f s = faults f

-- what the store says
abbrev pub look : {A : Type 0} → (Store → A) → Lib A
look f s = answers (f s) s

-- changes the store
abbrev pub change : (Store → Store) → Lib ⊤
change f s = answers tt (f s)

-- one value
abbrev pub answer_one : Value → Lib (List Value)
answer_one v = answer (v ∷ [])

-- ---- arguments, counted from 0

-- an argument, nil where it is absent
abbrev pub argument : ℕ → List Value → Value
argument n [] = nil
argument zero (v ∷ vs) = v
argument (suc n) (v ∷ vs) = argument n vs

abbrev pub wanted : {A : Type 0} → ℕ → Bytes → Value → Option A → Lib A
wanted n expected v None = fault (wants n expected v)
wanted n expected v (Some a) = answer a

-- a number, or a string that reads as one
abbrev pub number_argument : ℕ → List Value → Lib ℤ
number_argument n args = wanted n (codes "number") (argument n args) (as_number (argument n args))

abbrev pub number_of : ℕ → Value → ℤ → Lib ℤ
number_of n nil default = answer default
number_of n v default = wanted n (codes "number") v (as_number v)

-- the same, with a default where it is nil
abbrev pub number_or : ℕ → List Value → ℤ → Lib ℤ
number_or n args default = number_of n (argument n args) default

-- a string, or a number's digits
abbrev pub text_argument : ℕ → List Value → Lib Bytes
text_argument n args = wanted n (codes "string") (argument n args) (as_text (argument n args))

abbrev pub text_of : ℕ → Value → Bytes → Lib Bytes
text_of n nil default = answer default
text_of n v default = wanted n (codes "string") v (as_text v)

abbrev pub text_or : ℕ → List Value → Bytes → Lib Bytes
text_or n args default = text_of n (argument n args) default

abbrev pub as_table : Value → Option ℕ
as_table (table t) = Some t
as_table v = None

-- a table, as its place
abbrev pub table_argument : ℕ → List Value → Lib ℕ
table_argument n args = wanted n (codes "table") (argument n args) (as_table (argument n args))

abbrev pub as_datum : Value → Option ℕ
as_datum (datum d) = Some d
as_datum v = None

-- Data, as their place
abbrev pub data_argument : ℕ → List Value → Lib ℕ
data_argument n args = wanted n (codes "Data") (argument n args) (as_datum (argument n args))
