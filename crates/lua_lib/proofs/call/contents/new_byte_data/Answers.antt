use Rattle.std.proofs.Common.{ℕ, [], ◌∷◌, None, ap, refl, sym, subst, ◌∙◌}
use Rattle.lua_meaning.specs.Value as meant
use Rattle.lua_meaning.specs.Store.{add_contents}
use Rattle.lua_meaning.specs.Arguments.{answers}
use Rattle.lua_meaning.specs.Data.{copied}
use Rattle.lua_heap.specs.Value.{text_at}
use Rattle.lua_heap.specs.Heap.{store_of}
use Rattle.lua_heap.proofs.Callers.{Extends-same}
use Rattle.lua_lib.specs.Causes.{values_of}
use Rattle.lua_lib.specs.Runs.{Runs}
use Rattle.lua_lib.proofs.Parts.{copied-refused}
use Rattle.lua_lib.proofs.call.contents.new_byte_data.Goals as goal

pub returns-in_ok-made-in-Str-clause-runs : goal.returns-in_ok-made-in-Str-clause-runs
returns-in_ok-made-in-Str-clause-runs c =
    let h = c.args.heap.now in
    let s = store_of h in
    let vs = values_of h c.args.args.now in
    let made = c.in_ok-made-in-Str.made in
    ap (λ v. copied v vs s) (sym (c.in-Str.ensures.value h.texts))
    ∙ (ap (λ (n : ℕ). answers (meant.datum n ∷ []) (add_contents s (record { bytes = text_at h.texts c.in-Str.id; name = None }))) (sym c.in_ok-made-in-Str.ensures.id)
    ∙ ap (answers (meant.datum made ∷ [])) (sym c.in_ok-made-in-Str.ensures.store))

pub returns-in-Data-clause-runs : goal.returns-in-Data-clause-runs
returns-in-Data-clause-runs c =
    let h = c.args.heap.now in
    let vs = values_of h c.args.args.now in
    let P : meant.Value → Type 0 = λ v. Runs (λ (made : ℕ). meant.datum made ∷ []) h c.part_data.new.heap (copied v vs) c.part_data.result in
    subst P (c.in-Data.ensures.value h.texts) c.part_data.ensures.runs

pub returns-in_default : goal.returns-in_default
returns-in_default c =
    let h = c.args.heap.now in
    let s = store_of h in
    let vs = values_of h c.args.args.now in
    record {
      runs = (
        ap (λ v. copied v vs s) (sym (c.argument.ensures.value h.texts)) ∙ copied-refused h.texts c.argument.result vs s c.in_default.not-Str c.in_default.not-Data,
        refl,
      );
      made = tt;
      functions = refl;
      extends = Extends-same h;
    }
