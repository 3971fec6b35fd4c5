use Rattle.std.proofs.Common.{◌≡◌, ◌++◌, Bool, true, false, Some, OnOk, sym, subst, ◌∙◌}
use Rattle.std.specs.Prelude.{if◌then◌else◌}
use Rattle.lua_meaning.specs.Fault.{placed}
use Rattle.lua_heap.specs.Native.{native_view}
use Rattle.lua_lib.specs.Texts.{cause_text, has_place}
use Rattle.lua_lib.proofs.call.cause.Cause.put_placed.Goals as goal

pub returns-then-has_place : goal.returns-then-has_place
returns-then-has_place c =
    let text = cause_text (native_view c.args.native) c.args.self.now in
    let is : true ≡ has_place c.args.self.now = sym c.if-has_place.true ∙ c.has_place.ensures in
    let P : Bool → Type 0 = λ b. OnOk c.put_behind.result
    (c.put_behind.new.buffer.items ≡ c.args.buffer.now.items ++ (if b then placed (Some (record { file = c.args.file.now; line = c.args.line })) text else text)) in
    subst P is c.put_behind.ensures

pub returns : goal.returns
returns c =
    let text = cause_text (native_view c.args.native) c.args.self.now in
    let is : false ≡ has_place c.args.self.now = sym c.if-has_place.false ∙ c.has_place.ensures in
    let P : Bool → Type 0 = λ b. OnOk c.put_text.result
    (c.put_text.new.buffer.items ≡ c.args.buffer.now.items ++ (if b then placed (Some (record { file = c.args.file.now; line = c.args.line })) text else text)) in
    subst P is c.put_text.ensures
