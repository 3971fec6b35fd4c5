-- The basic functions that call back, raise, print, or load (manual §5.1, §5.3).
use Rattle.std.specs.Prelude.{ℕ, zero, suc, ℤ, pos, true, false, List, [], ◌∷◌, ◌++◌, drop, map, Option, Some, None, if◌then◌else◌, nat_eq, bytes_eq, codes, ⊤}
use Rattle.std.specs.Fmt.{signed_decimal}
use Rattle.lua_tree.specs.Tree.{Bytes, Block}
use Rattle.lua_meaning.specs.Native.{Native}
use Rattle.lua_meaning.specs.Value.{Value, nil, flag, num, str, table, func, native}
use Rattle.lua_meaning.specs.Text.{as_text, flag_text}
use Rattle.lua_meaning.specs.Store.{Store, handler, raw_set, love_place, love_thread_place, love_data_place, love_filesystem_place, love_event_place}
use Rattle.lua_meaning.specs.World.{Module, begun, loaded, Act, Ends, ◌>>=◌, ◌>>◌, give, raise, look, change, one, add_line, Outcome, given, failed, catching}
use Rattle.lua_meaning.specs.Fault.{Place, placed, fault_value}
use Rattle.lua_meaning.specs.Arguments.{Lib, Answer, answers, faults, argument, number_or, text_argument}
use Rattle.lua_meaning.specs.Data.{object_type}
use Rattle.lua_meaning.specs.Calls.{Calls, Later, caller, chunk, enter, call_back}

-- ---- what functions of the library have in common

abbrev pub answered : {A : Type 0} → Native → Calls → Answer A → Act A
answered f calls (answers a s) w = Ends.gives a (record w { store = s })
answered f calls (faults e) w = Ends.fails (fault_value f (caller calls) e) w

-- a part of a function that only reads arguments and changes the store; its error has the place of the function's caller
abbrev pub by_library : {A : Type 0} → Native → Calls → Lib A → Act A
by_library f calls part w = answered f calls (part w.store) w

-- an error with that place
abbrev pub refuse : {A : Type 0} → Calls → Bytes → Act A
refuse calls text = raise (str (placed (caller calls) text))

-- ---- error and pcall

-- where an error of a level arises: at level 1 in the function that called `error`, at level 2 in that function's caller
abbrev pub level_place : ℤ → Calls → Option Place
level_place (pos (suc zero)) calls = caller calls
level_place (pos (suc (suc zero))) calls = caller (drop 1 calls)
level_place level calls = None

-- a string gets its place; no other value does
abbrev pub error_value : Value → Option Place → Value
error_value (str text) at = str (placed at text)
error_value v at = v

-- `error(v, level)`
abbrev pub raise_error : Calls → List Value → Act (List Value)
raise_error calls args = do
  level ← by_library Native.error calls (number_or 1 args (pos 1))
  raise (error_value (argument 0 args) (level_place level calls))

abbrev pub tried : Outcome (List Value) → List Value
tried (given vs) = flag true ∷ vs
tried (failed v) = flag false ∷ v ∷ []

-- `pcall(f, ...)`: true and the results, or false and the error's value
abbrev pub pcall : Later → Calls → List Value → Act (List Value)
pcall again calls args = do
  outcome ← catching (call_back again calls (argument 0 args) (drop 1 args))
  give (tried outcome)

-- ---- tostring and print

abbrev pub object_text : Option Bytes → Bytes
object_text None = []
object_text (Some t) = t

-- the text of a value; tables, functions and objects have no address
abbrev pub value_text : Store → Value → Bytes
value_text s nil = codes "nil"
value_text s (flag b) = flag_text b
value_text s (num n) = signed_decimal n
value_text s (str text) = text
value_text s (table t) = codes "table"
value_text s (func f) = codes "function"
value_text s (native f) = codes "function"
value_text s v = object_text (object_type s v)

abbrev pub text_by : Later → Calls → Value → (handler : Value) → Act Value
text_by again calls v nil = look (λ s. str (value_text s v))
text_by again calls v h = one (call_back again calls h (v ∷ []))

-- a value's text, or what its handler `__tostring` gives
abbrev pub text_value : Later → Calls → Value → Act Value
text_value again calls v =
    look (λ s. handler s v (codes "__tostring")) >>= λ h. text_by again calls v h

-- `tostring(v)`
abbrev pub tostring : Later → Calls → List Value → Act (List Value)
tostring again calls args = text_value again calls (argument 0 args) >>= λ text. give (text ∷ [])

abbrev pub printed : Calls → Option Bytes → Act Bytes
printed calls None = refuse calls (codes "'tostring' must return a string to 'print'")
printed calls (Some text) = give text

-- texts with tabs between and a newline at the end
abbrev pub line_of : List Bytes → Bytes
line_of [] = codes "\n"
line_of (text ∷ []) = text ++ codes "\n"
line_of (text ∷ texts) = text ++ (codes "\t" ++ line_of texts)

abbrev pub texts_of : Later → Calls → List Value → Act (List Bytes)
texts_of again calls [] = give []
texts_of again calls (v ∷ vs) = do
  shown ← text_value again calls v
  text ← printed calls (as_text shown)
  texts ← texts_of again calls vs
  give (text ∷ texts)

-- `print(...)`: its whole line, or nothing
abbrev pub print : Later → Calls → List Value → Act (List Value)
print again calls args = do
  texts ← texts_of again calls args
  add_line (line_of texts)
  give []

-- ---- require

-- what a file of the game's folder is as a program: its main function's block, a fault's text, or none
pub data Code : Type 0 where
  ready : Block → Code
  faulty : (text : Bytes) → Code
  not_lua : Code

-- a file of the game's folder
pub record File : Type 0 where
  pub path : Bytes
  pub bytes : List ℕ
  pub code : Code

-- what a state's run stands in: the files of the game's folder, and the state's number
pub record Game : Type 0 where
  pub files : List File
  pub state : ℕ

-- the file of a path
abbrev pub file_at : Bytes → List File → Option File
file_at path [] = None
file_at path (file ∷ files) = if bytes_eq file.path path then Some file else file_at path files

abbrev pub or_file : Option File → Option File → Option File
or_file (Some file) other = Some file
or_file None other = other

abbrev pub slashed : ℕ → ℕ
slashed c = if nat_eq c 46 then 47 else c

-- the file of a module: its name with `/` for each dot, and `.lua` or `/init.lua` behind it
abbrev pub module_file : Game → Bytes → Option File
module_file game name =
    or_file (file_at (map slashed name ++ codes ".lua") game.files) (file_at
    (map slashed name ++ codes "/init.lua") game.files)

abbrev pub found_module : Bytes → List (Bytes × Module) → Option Module
found_module name [] = None
found_module name (entry ∷ modules) =
    if bytes_eq entry.0 name then Some entry.1 else found_module name modules

-- what is known of a module
abbrev pub known_module : Bytes → Act (Option Module)
known_module name w = Ends.gives (found_module name w.modules) w

abbrev pub keep_module : Bytes → Module → Act ⊤
keep_module name m w = Ends.gives tt (record w { modules = (name, m) ∷ w.modules })

-- the value that a module's first result is kept as
abbrev pub module_value : Value → Value
module_value nil = flag true
module_value v = v

abbrev pub no_module : {A : Type 0} → Calls → Bytes → Act A
no_module calls name = refuse calls (codes "module '" ++ (name ++ codes "' not found"))

-- runs a module's file with the module's name as its argument
abbrev pub load_code : Later → Calls → Bytes → Bytes → Code → Act (List Value)
load_code again calls name path not_lua = no_module calls name
load_code again calls name path (faulty text) = raise (str text)
load_code again calls name path (ready b) = do
  keep_module name begun
  v ← one (enter again None calls (chunk path b) (str name ∷ []))
  keep_module name (loaded (module_value v))
  give (module_value v ∷ [])

abbrev pub load_file : Later → Calls → Bytes → Option File → Act (List Value)
load_file again calls name None = no_module calls name
load_file again calls name (Some file) = load_code again calls name file.path file.code

-- the tables of LÖVE by the names of their modules
abbrev pub love_module : Bytes → Option ℕ
love_module name =
    if bytes_eq name (codes "love.thread") then Some love_thread_place
    else (if bytes_eq name (codes "love.data") then Some love_data_place
    else (if bytes_eq name (codes "love.filesystem") then Some love_filesystem_place
    else (if bytes_eq name (codes "love.event") then Some love_event_place else None)))

-- `love.event` becomes a field of `love` in a state of a Thread
abbrev pub with_events : Game → ℕ → Store → Store
with_events game t s =
    if nat_eq t love_event_place then (if nat_eq game.state 0 then
    s else raw_set s love_place (str (codes "event")) (table t)) else s

abbrev pub load_new : Game → Later → Calls → Bytes → Option ℕ → Act (List Value)
load_new game again calls name (Some t) = change (λ s. with_events game t s) >> give (table t ∷ [])
load_new game again calls name None = load_file again calls name (module_file game name)

abbrev pub load_known : Game → Later → Calls → Bytes → Option Module → Act (List Value)
load_known game again calls name (Some (loaded v)) = give (v ∷ [])
load_known game again calls name (Some begun) =
    refuse calls (codes "loop or previous error loading module '" ++ (name ++ codes "'"))
load_known game again calls name None = load_new game again calls name (love_module name)

-- `require(name)`
abbrev pub require : Game → Later → Calls → List Value → Act (List Value)
require game again calls args = do
  name ← by_library Native.require calls (text_argument 0 args)
  known ← known_module name
  load_known game again calls name known
