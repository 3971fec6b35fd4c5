-- Closures in the machine hold the code and the cells of those that are meant.
use Rattle.std.proofs.Common.{ℕ, ◌+◌, ◌≡◌, refl, sym, ap, ◌∙◌, List, [], ◌∷◌, ◌++◌, map, Option, Some, None}
use Rattle.std.proofs.lemmas.List.{map-append, append-nil}
use Rattle.lua_tree.specs.Tree.{Bytes, Func}
use Rattle.lua_meaning.specs.Store.{Closure}
use Rattle.lua_meaning.specs.Names.{func_names}
use Rattle.lua_meaning.specs.Locals as locals
use Rattle.lua_meaning.specs.Locals.{Env, Slot, held, cell, find}
use Rattle.lua_code.specs.Scope.{Scope, Seat, at_slot, at_cell, seat_of, cell_of_seat, name_of_seat, cell_names, cell_places}
use Rattle.lua_code.specs.Code.{func_code}
use Rattle.lua_code.specs.State.{Registers}
use Rattle.lua_code.specs.Follows.{cells_of, names_of, made_of}
use Rattle.lua_code.proofs.Registers.{Holds, Reads, reads}

name_is : (x : Bytes) (o : Option Seat) (s : Option Slot) (r : Registers) (base cell_base : ℕ) (more : List (Bytes × ℕ)) (ns : List Bytes) → Reads r base cell_base o s → ns ≡ names_of more → name_of_seat x o ++ ns ≡ names_of (locals.cell_found x s ++ more)
name_is x None None r base cell_base more ns h e = e
name_is x None (Some s) r base cell_base more ns h e = absurd h
name_is x (Some (at_slot k)) None r base cell_base more ns h e = absurd h
name_is x (Some (at_slot k)) (Some (held v)) r base cell_base more ns h e = e
name_is x (Some (at_slot k)) (Some (cell q)) r base cell_base more ns h e = absurd h
name_is x (Some (at_cell k)) None r base cell_base more ns h e = absurd h
name_is x (Some (at_cell k)) (Some (held v)) r base cell_base more ns h e = absurd h
name_is x (Some (at_cell k)) (Some (cell q)) r base cell_base more ns h e = ap (λ ns. x ∷ ns) e

pub names_are : (xs : List Bytes) (scope : Scope) (env : Env) (r : Registers) (base cell_base : ℕ) → Holds r base cell_base scope env → cell_names scope xs ≡ names_of (locals.cells_of xs env)
names_are [] scope env r base cell_base h = refl
names_are (x ∷ xs) scope env r base cell_base h = name_is x (seat_of scope x) (find x env) r base cell_base (locals.cells_of xs env) (cell_names scope xs) (reads r base cell_base scope env x h) (names_are xs scope env r base cell_base h)

cell_is : (x : Bytes) (o : Option Seat) (s : Option Slot) (r : Registers) (base cell_base : ℕ) (more : List (Bytes × ℕ)) (ps : List ℕ) → Reads r base cell_base o s → map (λ n. r.cells (cell_base + n)) ps ≡ cells_of more → map (λ n. r.cells (cell_base + n)) (ps ++ cell_of_seat o) ≡ cells_of (locals.cell_found x s ++ more)
cell_is x None None r base cell_base more ps h e = ap (map (λ n. r.cells (cell_base + n))) (append-nil ps) ∙ e
cell_is x None (Some s) r base cell_base more ps h e = absurd h
cell_is x (Some (at_slot k)) None r base cell_base more ps h e = absurd h
cell_is x (Some (at_slot k)) (Some (held v)) r base cell_base more ps h e = ap (map (λ n. r.cells (cell_base + n))) (append-nil ps) ∙ e
cell_is x (Some (at_slot k)) (Some (cell q)) r base cell_base more ps h e = absurd h
cell_is x (Some (at_cell k)) None r base cell_base more ps h e = absurd h
cell_is x (Some (at_cell k)) (Some (held v)) r base cell_base more ps h e = absurd h
cell_is x (Some (at_cell k)) (Some (cell q)) r base cell_base more ps h e =
    map-append (λ n. r.cells (cell_base + n)) ps (k ∷ []) ∙ ap (λ l. l ++ r.cells (cell_base + k) ∷ []) e ∙ ap (λ q. cells_of more ++ q ∷ []) h

pub cells_are : (xs : List Bytes) (scope : Scope) (env : Env) (r : Registers) (base cell_base : ℕ) → Holds r base cell_base scope env → map (λ n. r.cells (cell_base + n)) (cell_places scope xs) ≡ cells_of (locals.cells_of xs env)
cells_are [] scope env r base cell_base h = refl
cells_are (x ∷ xs) scope env r base cell_base h = cell_is x (seat_of scope x) (find x env) r base cell_base (locals.cells_of xs env) (cell_places scope xs) (reads r base cell_base scope env x h) (cells_are xs scope env r base cell_base h)

-- the functions that are made, with one more
pub one_made : (file : Bytes) (f : Func) (scope : Scope) (env : Env) (r : Registers) (base cell_base : ℕ) (fs : List Closure) → Holds r base cell_base scope env
    → map made_of fs ++ record { code = func_code f file (cell_names scope (func_names f)); cells = map (λ n. r.cells (cell_base + n)) (cell_places scope (func_names f)) } ∷ [] ≡ map made_of (fs ++ record { file = file; node = f; cells = locals.cells_of (func_names f) env } ∷ [])
one_made file f scope env r base cell_base fs h =
    ap (λ ns. map made_of fs ++ record { code = func_code f file ns; cells = map (λ n. r.cells (cell_base + n)) (cell_places scope (func_names f)) } ∷ []) (names_are (func_names f) scope env r base cell_base h)
    ∙ ap (λ cs. map made_of fs ++ record { code = func_code f file (names_of (locals.cells_of (func_names f) env)); cells = cs } ∷ []) (cells_are (func_names f) scope env r base cell_base h)
    ∙ sym (map-append made_of fs (record { file = file; node = f; cells = locals.cells_of (func_names f) env } ∷ []))
