-- Texts of a table's values, put one behind the other.
use Rattle.std.specs.Prelude.{◌≡◌, ◌++◌, ℕ, ℤ, Result, Ok, Err}
use Rattle.lua_tree.specs.Tree.{Bytes}
use Rattle.lua_meaning.specs.Value.{num}
use Rattle.lua_meaning.specs.Text.{as_text}
use Rattle.lua_meaning.specs.Store.{raw_get}
use Rattle.lua_meaning.specs.Arguments.{Lib, answers, look, ◌>>=◌}
use Rattle.lua_meaning.specs.Tables.{text_at}
use Rattle.lua_heap.specs.Heap.{HeapView, store_of}
use Rattle.lua_lib.specs.declared.call.cause.Cause.{Cause}
use Rattle.lua_lib.specs.Causes.{error_of}
use Rattle.lua_lib.specs.Runs.{Refuses}

-- the text of a table's value at a number
abbrev pub item_text : ℕ → ℤ → Lib Bytes
item_text t i = look (λ s. raw_get s t (num i)) >>= λ v. text_at v i (as_text v)

-- what a part gives in a heap is put at the end of a text, or it raises the error of a cause
abbrev pub PutsAt : {R : Type 0} → HeapView → (old new : Bytes) → Lib Bytes → Result R Cause → Type 0
PutsAt h old new part (Ok done) = (piece : Bytes) × (new ≡ old ++ piece) × (part (store_of h) ≡ answers piece (store_of h))
PutsAt h old new part (Err cause) = Refuses h h part (error_of h.texts cause)
