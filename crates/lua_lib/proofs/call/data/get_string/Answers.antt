use Rattle.std.proofs.Common.{◌≡◌, ℕ, List, [], ◌∷◌, ap, sym, ◌∙◌}
use Rattle.std.proofs.lemmas.Result.{err_from_is_err_and}
use Rattle.lua_meaning.specs.Value.{Value, str}
use Rattle.lua_meaning.specs.Store.{contents_at}
use Rattle.lua_meaning.specs.Strings.{string_value}
use Rattle.lua_meaning.specs.Arguments.{Lib, answers, data_argument, look, ◌>>=◌}
use Rattle.lua_heap.specs.Heap.{store_of}
use Rattle.lua_lib.specs.Causes.{values_of}
use Rattle.lua_lib.proofs.Binding.{raises-first}
use Rattle.lua_lib.proofs.Running.{refuses-raised, refuses-same, refuses-then, then-at}
use Rattle.lua_lib.proofs.call.data.get_string.Goals as goal

-- what follows when the Data is read
abbrev behind_data : ℕ → Lib (List Value)
behind_data d = look (λ s. contents_at s d) >>= λ whole. string_value whole.bytes

pub returns-in_err-data : goal.returns-in_err-data
returns-in_err-data c =
    let p = err_from_is_err_and c.from_residual.result c.from_residual.ensures.1 in
    rw (p.1, p.2) (refuses-raised c.args.heap.now _ _ (raises-first _ _ _ c.in_err-data.ensures.taken))

pub returns-in_err-check_length : goal.returns-in_err-check_length
returns-in_err-check_length c =
    let h = c.args.heap.now in
    let d = c.in_ok-data.data in
    let p = err_from_is_err_and c.from_residual-in_err-check_length.result c.from_residual-in_err-check_length.ensures.1 in
    let bytes : c.bytes-bytes.result.now ≡ (contents_at (store_of h) d).bytes = c.bytes-bytes.ensures ∙ ap (λ w. w.bytes) c.data_of.ensures.contents in
    rw (p.1, p.2) (refuses-then (data_argument 0 (values_of h c.args.args.now)) behind_data h h d _ (c.in_ok-data.ensures.taken (store_of h))
    (refuses-same h (behind_data d) (string_value c.bytes-bytes.result.now) _ (ap (λ (t : List ℕ). string_value t (store_of h)) (sym bytes))
    (refuses-raised h (string_value c.bytes-bytes.result.now) _ c.in_err-check_length.ensures.fault)))

pub returns : goal.returns
returns c =
    let h = c.args.heap.now in
    let s = store_of h in
    let d = c.in_ok-data.data in
    let bytes : c.bytes-bytes.result.now ≡ (contents_at s d).bytes = c.bytes-bytes.ensures ∙ ap (λ w. w.bytes) c.data_of.ensures.contents in
    then-at _ _ s d _ (c.in_ok-data.ensures.taken s)
    (ap (λ (t : List ℕ). string_value t s) (sym bytes)
    ∙ (c.in_ok-check_length.ensures.ok s
    ∙ ap (λ (t : List ℕ). answers (str t ∷ []) s) (sym c.in_ok-made.ensures)))
