use Rattle.std.proofs.Common.{ℕ, List, [], ◌∷◌, Option, ap, refl, sym, ◌∙◌}
use Rattle.lua_meaning.specs.Value.{str}
use Rattle.lua_meaning.specs.Arguments.{answers}
use Rattle.lua_meaning.specs.Data.{file_name, name_in}
use Rattle.lua_heap.specs.Value.{value_view}
use Rattle.lua_heap.specs.Heap.{store_of}
use Rattle.lua_lib.proofs.call.contents.get_filename.Goals as goal

pub name_of-requires : goal.name_of-requires
name_of-requires c = c.argument-value.ensures.made c.args.heap.now c.requires

pub returns-in_ok-made-in-Some : goal.returns-in_ok-made-in-Some
returns-in_ok-made-in-Some c =
    let h = c.args.heap.now in
    let s = store_of h in
    let v = value_view h.texts c.argument-value.result in
    ap (λ w. file_name w (name_in s w) s) (sym (c.argument-value.ensures.value h.texts))
    ∙ (ap (λ (o : Option (List ℕ)). file_name v o s) (sym c.in-Some.ensures)
    ∙ ap (λ (t : List ℕ). answers (str t ∷ []) s) (sym (c.in_ok-made-in-Some.ensures ∙ c.bytes.ensures)))

pub returns-in-None : goal.returns-in-None
returns-in-None c =
    let h = c.args.heap.now in
    let s = store_of h in
    let v = value_view h.texts c.argument-value.result in (
      ap (λ w. file_name w (name_in s w) s) (sym (c.argument-value.ensures.value h.texts))
          ∙ ap (λ (o : Option (List ℕ)). file_name v o s) (sym c.in-None.ensures),
      refl,
    )
