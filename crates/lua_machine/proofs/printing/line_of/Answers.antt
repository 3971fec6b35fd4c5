use Rattle.std.proofs.Common.{List, [], ◌∷◌, ◌++◌, sym, ap, ◌∙◌}
use Rattle.lua_tree.specs.Tree.{Bytes}
use Rattle.lua_meaning.specs.Control.{line_of}
use Rattle.lua_heap.specs.declared.value.Value.{Value}
use Rattle.lua_heap.specs.Value.{value_view}
use Rattle.lua_machine.specs.View.{text_of}
use Rattle.lua_machine.specs.Printing.{texts_in, tabbed}
use Rattle.lua_machine.proofs.Lined.{line_is}
use Rattle.lua_machine.proofs.printing.line_of.Goals as goal

pub returns : goal.returns
returns c =
    let texts = c.args.heap.now.texts in
    let first = text_of (value_view texts c.in-Some.first.now) in
    let rest = texts_in texts c.in-Some.rest.now in
    c.in_ok-put_tabbed.ensures
    ∙ ap (λ (line : Bytes). line ++ tabbed rest) (c.in_ok-put_text.ensures ∙ ap (λ (line : Bytes). line ++ first) c.new-line.ensures.items)
    ∙ sym (line_is first rest)
    ∙ ap (λ (vs : List Value). line_of (texts_in texts vs)) (sym c.in-Some.ensures.cases.0)
