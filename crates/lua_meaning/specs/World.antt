-- What a state is while it runs, what a part of a program comes to, and how one part follows another.
use Rattle.std.specs.Prelude.{ℕ, zero, suc, List, [], ◌∷◌, ◌++◌, length, ⊤}
use Rattle.lua_meaning.specs.Message.{Ask, Reply}
use Rattle.lua_tree.specs.Tree.{Bytes}
use Rattle.lua_meaning.specs.Value.{Value, first}
use Rattle.lua_meaning.specs.Store.{Store, Closure}

-- a module that `require` was asked for: it runs or has failed, or it gave a value
pub data Module : Type 0 where
  begun : Module
  loaded : Value → Module

-- a state: what it holds, the functions that it has made, each at its place from 0, the modules by their names, what it has printed and the length after each print, the ticks
-- that are left, the asks that were answered and the replies that are left
pub record World : Type 0 where
  pub store : Store
  pub functions : List Closure
  pub modules : List (Bytes × Module)
  pub output : List ℕ
  pub ends : List ℕ
  pub ticks : ℕ
  pub asks : List Ask
  pub replies : List Reply

-- what a part of a program comes to, and the state then: it gives something; it fails with an error's value; it needs a
-- tick and none is left; or it asks and no reply is left
pub data Ends (A : Type 0) : Type 0 where
  gives : A → World → Ends A
  fails : Value → World → Ends A
  out_of_steps : World → Ends A
  needs : Ask → World → Ends A

-- what a part of a program does with a state
abbrev pub Act : Type 0 → Type 0
Act A = World → Ends A

infixl 10 ◌>>>◌
infixl 9 ◌>>=◌
infixl 9 ◌>>◌
-- goes on where something was given
abbrev pub ◌>>>◌ : {A B : Type 0} → Ends A → (A → World → Ends B) → Ends B
(gives a w) >>> next = next a w
(fails v w) >>> next = fails v w
(out_of_steps w) >>> next = out_of_steps w
(needs ask w) >>> next = needs ask w

-- one act, and with what it gives the next one
abbrev pub ◌>>=◌ : {A B : Type 0} → Act A → (A → Act B) → Act B
◌>>=◌ act next w = act w >>> next

abbrev pub ◌>>◌ : {A B : Type 0} → Act A → Act B → Act B
◌>>◌ act next w = act w >>> λ a w. next w

-- gives a value and does nothing
abbrev pub give : {A : Type 0} → A → Act A
give a w = gives a w

-- an error with its value
abbrev pub raise : {A : Type 0} → Value → Act A
raise v w = fails v w

abbrev pub take_tick : ℕ → World → Ends ⊤
take_tick zero w = out_of_steps w
take_tick (suc n) w = gives tt (record w { ticks = n })

-- takes a tick
abbrev pub tick : Act ⊤
tick w = take_tick w.ticks w

-- what the store says
abbrev pub look : {A : Type 0} → (Store → A) → Act A
look f w = gives (f w.store) w

-- changes the store
abbrev pub change : (Store → Store) → Act ⊤
change f w = gives tt (record w { store = f w.store })

-- what the functions and the store say
abbrev pub look_around : {A : Type 0} → (List Closure → Store → A) → Act A
look_around f w = gives (f w.functions w.store) w

-- a new function stands at the first free place
abbrev pub keep_function : Closure → Act ⊤
keep_function made w = gives tt (record w { functions = w.functions ++ made ∷ [] })

abbrev pub answered : Ask → List Reply → World → Ends Reply
answered ask [] w = needs ask w
answered ask (reply ∷ replies) w =
    gives reply (record w { asks = w.asks ++ ask ∷ []; replies = replies })

-- asks, and gives the next reply
abbrev pub asking : Ask → Act Reply
asking ask w = answered ask w.replies w

-- a line of output, whole
abbrev pub add_line : List ℕ → Act ⊤
add_line line w = gives tt (record w {
  output =
      w.output ++ line;
  ends = w.ends ++ length (w.output ++ line) ∷ [];
})

-- the first value of a list, and a value as a list
abbrev pub one : Act (List Value) → Act Value
one act = act >>= λ vs. give (first vs)

abbrev pub single : Act Value → Act (List Value)
single act = act >>= λ v. give (v ∷ [])

-- whether it came to what it gives or to an error; what has no ticks or no reply comes to neither
pub data Outcome (A : Type 0) : Type 0 where
  given : A → Outcome A
  failed : Value → Outcome A

abbrev pub caught : {A : Type 0} → Ends A → Ends (Outcome A)
caught (gives a w) = gives (given a) w
caught (fails v w) = gives (failed v) w
caught (out_of_steps w) = out_of_steps w
caught (needs ask w) = needs ask w

-- an act whose error is caught
abbrev pub catching : {A : Type 0} → Act A → Act (Outcome A)
catching act w = caught (act w)
