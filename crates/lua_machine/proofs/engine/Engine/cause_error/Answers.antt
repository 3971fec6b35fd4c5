use Rattle.std.proofs.Common.{◌∙◌, sym}
use Rattle.lua_heap.specs.Native.{native_view}
use Rattle.lua_lib.specs.Texts.{cause_text, placed_text}
use Rattle.lua_machine.specs.View.{place_of}
use Rattle.lua_machine.specs.Serving.{IsText, Failed}
use Rattle.lua_machine.proofs.Called.{each_came}
use Rattle.lua_machine.proofs.Failing.{fails_placed, fails_plain, owns}
use Rattle.lua_machine.proofs.engine.Engine.cause_error.Goals as goal

pub returns-in-Raises : goal.returns-in-Raises
returns-in-Raises c = owns c.own_error.result c.args.native c.args.cause.now c.in-Raises.value c.args.self.now c.in-Raises.is c.own_error.ensures.value c.own_error.ensures.made c.requires.fit

pub placed_error-requires : goal.placed_error-requires
placed_error-requires c =
    record { fit = c.requires.fit; caller = c.in-Some.ensures }

pub returns-in-Some : goal.returns-in-Some
returns-in-Some c =
    let m = c.args.self.now in
    let new = c.placed_error.new.self in
    each_came c.placed_error.result (λ value. IsText (placed_text (native_view c.args.native) (place_of m.chunks c.in-Some.frame) c.args.cause.now) value m new) (λ value. Failed c.args.native c.args.cause.now value m new)
    (λ value text. fails_placed c.args.native c.args.cause.now value m new c.in_default.not-Raises (sym c.is_memory.ensures ∙ c.if-is_memory.false) c.in-Some.frame c.in-Some.ensures text) c.placed_error.ensures

pub returns-in-None : goal.returns-in-None
returns-in-None c =
    let m = c.args.self.now in
    let new = c.plain_error.new.self in
    each_came c.plain_error.result (λ value. IsText (cause_text (native_view c.args.native) c.args.cause.now) value m new) (λ value. Failed c.args.native c.args.cause.now value m new)
    (λ value text. fails_plain c.args.native c.args.cause.now value m new c.in_default.not-Raises (sym c.is_memory.ensures ∙ c.if-is_memory.false) c.in-None.ensures text) c.plain_error.ensures
