-- How the first tables are filled.
use Rattle.std.specs.Prelude.{ℕ, List, [], ◌∷◌, None, codes, replicate}
use Rattle.lua_tree.specs.Tree.{Bytes}
use Rattle.lua_meaning.specs.Native.{Native, globals, string_table, table_table, math_table, love_thread, love_data, love_filesystem, love_event, name, on_shelf}
use Rattle.lua_meaning.specs.Value.{str, table, native}
use Rattle.lua_meaning.specs.Store.{Store, no_table, raw_set, globals_place, string_place, table_place, math_place, love_place, love_thread_place, love_data_place, love_filesystem_place, love_event_place, text_meta_place}
use Rattle.lua_heap.specs.declared.entries.TableEntry.{TableEntry}

-- a store of empty first tables
abbrev pub empty_store : Store
empty_store = record { tables = replicate 10 no_table; cells = []; contents = [] }

abbrev pub empty_entry : TableEntry
empty_entry = record { table = []; meta = None }

-- functions as fields of a table, by their names, one after the other
abbrev pub with_functions : ℕ → List Native → Store → Store
with_functions t [] s = s
with_functions t (f ∷ fs) s = with_functions t fs (raw_set s t (str (name f)) (native f))

-- a table as a field of another one
abbrev pub with_table : ℕ → Bytes → ℕ → Store → Store
with_table t key other s = raw_set s t (str key) (table other)

-- a text as a field of a table
abbrev pub with_text : ℕ → Bytes → Bytes → Store → Store
with_text t key text s = raw_set s t (str key) (str text)

abbrev pub with_globals : Store → Store
with_globals s =
    with_table globals_place (codes "love") love_place
    (with_table globals_place (codes "math") math_place
    (with_table globals_place (codes "table") table_place
    (with_table globals_place (codes "string") string_place
    (with_text globals_place (codes "_VERSION") (codes "Lua 5.1")
    (with_table globals_place (codes "_G") globals_place
    (with_functions globals_place (on_shelf globals) s))))))

abbrev pub with_library : Store → Store
with_library s =
    with_table text_meta_place (codes "__index") string_place
    (with_functions math_place (on_shelf math_table)
    (with_functions table_place (on_shelf table_table)
    (with_functions string_place (on_shelf string_table) s)))

abbrev pub with_modules : Store → Store
with_modules s =
    with_functions love_event_place (on_shelf love_event)
    (with_functions love_filesystem_place (on_shelf love_filesystem)
    (with_functions love_data_place (on_shelf love_data)
    (with_functions love_thread_place (on_shelf love_thread)
    (with_table love_place (codes "filesystem") love_filesystem_place
    (with_table love_place (codes "data") love_data_place
    (with_table love_place (codes "thread") love_thread_place s))))))
