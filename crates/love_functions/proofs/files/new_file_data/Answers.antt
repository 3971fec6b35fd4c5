use Rattle.std.proofs.Common.{◌≢◌, sym, subst, ◌∙◌}
use Rattle.lua_meaning.specs.Value as meant
use Rattle.lua_meaning.specs.Arguments.{Lib, argument}
use Rattle.lua_lib.specs.Causes.{values_of}
use Rattle.love_functions.specs.Asking.{Called, new_file_data_of}
use Rattle.love_functions.specs.View.{IsCalled, files_view}
use Rattle.lua_lib.proofs.Reading.{view-some}
use Rattle.love_functions.proofs.Steps.{with-name}
use Rattle.love_functions.proofs.files.new_file_data.Goals as goal

pub returns-in-Nil : goal.returns-in-Nil
returns-in-Nil c =
    let h = c.args.heap.now in
    let vs = values_of h c.args.args.now in
    let P : meant.Value → Type 0 = λ v. IsCalled h c.path_data.new.heap (new_file_data_of (files_view c.args.files.now) vs v) c.path_data.result in
    subst P (c.in-Nil.ensures.value h.texts) c.path_data.ensures

pub returns-in_default : goal.returns-in_default
returns-in_default c =
    let h = c.args.heap.now in
    let vs = values_of h c.args.args.now in
    let some : argument 1 vs ≢ meant.nil = λ e. view-some h.texts c.argument.result c.in_default.not-Nil (c.argument.ensures.value h.texts ∙ e) in
    let P : Lib Called → Type 0 = λ part. IsCalled h c.named_data.new.heap part c.named_data.result in
    subst P (sym (with-name (files_view c.args.files.now) vs (argument 1 vs) some)) c.named_data.ensures
