use Rattle.std.proofs.Common.{◌≡◌, Option, None, ap, sym, ◌∙◌}
use Rattle.std.proofs.lemmas.Result.{err_from_is_err_and}
use Rattle.love_base.specs.Data.{Contents}
use Rattle.lua_meaning.specs.Value as meant
use Rattle.lua_meaning.specs.Arguments.{answers, argument, look, text_argument}
use Rattle.lua_meaning.specs.Love.{file_data_in}
use Rattle.lua_heap.specs.Heap.{store_of}
use Rattle.lua_lib.specs.Causes.{values_of}
use Rattle.lua_lib.proofs.Binding.{raises-first}
use Rattle.lua_lib.proofs.Running.{refuses-raised, refuses-then, runs-then}
use Rattle.love_functions.specs.Asking.{new_thread_of, new_thread_of_text}
use Rattle.love_functions.specs.View.{called_view, files_view}
use Rattle.love_functions.proofs.threads.new_thread.Goals as goal

pub file_data-requires : goal.file_data-requires
file_data-requires c = c.argument-value.ensures.made c.args.heap.now c.requires

pub returns-in_err-text-in-None-clause-comes : goal.returns-in_err-text-in-None-clause-comes
returns-in_err-text-in-None-clause-comes c =
    let h = c.args.heap.now in
    let s = store_of h in
    let vs = values_of h c.args.args.now in
    let files = files_view c.args.files.now in
    let none : file_data_in s (argument 0 vs) ≡ None = ap (λ (v : meant.Value). file_data_in s v) (sym (c.argument-value.ensures.value h.texts)) ∙ sym c.in-None.ensures in
    let p = err_from_is_err_and c.from_residual-in_err-text-in-None.result c.from_residual-in_err-text-in-None.ensures.1 in
    rw (p.1, p.2) (refuses-then (look (λ s. file_data_in s (argument 0 vs))) (new_thread_of files vs) h h None _ (ap (λ (o : Option Contents). answers o s) none)
    (refuses-raised h (new_thread_of files vs None) _ (raises-first (text_argument 0 vs) (new_thread_of_text files) _ c.in_err-text-in-None.ensures)))

pub returns-in_ok-text-in-None-clause-comes : goal.returns-in_ok-text-in-None-clause-comes
returns-in_ok-text-in-None-clause-comes c =
    let h = c.args.heap.now in
    let s = store_of h in
    let vs = values_of h c.args.args.now in
    let files = files_view c.args.files.now in
    let none : file_data_in s (argument 0 vs) ≡ None = ap (λ (v : meant.Value). file_data_in s v) (sym (c.argument-value.ensures.value h.texts)) ∙ sym c.in-None.ensures in
    runs-then (look (λ s. file_data_in s (argument 0 vs))) (new_thread_of files vs) (called_view h) h h None c.of_text.result (ap (λ (o : Option Contents). answers o s) none)
    (runs-then (text_argument 0 vs) (new_thread_of_text files) (called_view h) h h c.in_ok-text-in-None.text.now c.of_text.result (c.in_ok-text-in-None.ensures s) (c.of_text.ensures.comes h))

pub returns-in_ok-text-in-None-clause-made : goal.returns-in_ok-text-in-None-clause-made
returns-in_ok-text-in-None-clause-made c = c.of_text.ensures.made c.args.heap.now
