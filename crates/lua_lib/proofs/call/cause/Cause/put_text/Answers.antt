use Rattle.std.proofs.Common.{◌≡◌, List, ℕ, [], ◌++◌, OnOk, sym, subst}
use Rattle.std.specs.Prelude.{codes}
use Rattle.std.specs.Fmt.{signed_decimal}
use Rattle.lua_heap.specs.Native.{native_view}
use Rattle.lua_lib.specs.declared.call.cause.Cause.{Cause}
use Rattle.lua_lib.specs.Texts.{cause_text}
use Rattle.lua_lib.proofs.call.cause.Cause.put_text.Goals as goal

pub returns-in-NoText : goal.returns-in-NoText
returns-in-NoText c =
    let old = c.args.buffer.now.items in
    let new = c.put_no_text.new.buffer.items in
    let number = c.in-NoText.number in
    let P : List ℕ → Type 0 = λ t. OnOk c.put_no_text.result
    (new ≡ old ++ (codes "invalid value (" ++ (t ++ (codes ") at index " ++ (signed_decimal number ++ codes " in table for 'concat'"))))) in
    let Q : Cause → Type 0 = λ x. OnOk c.put_no_text.result (new ≡ old ++ cause_text (native_view c.args.native) x) in
    subst Q (sym c.in-NoText.is) (subst P (c.type_name-in-NoText.ensures []) c.put_no_text.ensures)
