use Rattle.std.proofs.Common.{◌≡◌, List, [], map, sym, ap, ◌∙◌, subst, Some, slice_get}
use Rattle.std.specs.Prelude.{unwrap_or, IfOk}
use Rattle.std.specs.List.{AllByRecursion}
use Rattle.lua_tree.specs.Tree.{Bytes}
use Rattle.lua_meaning.specs.Value as meant
use Rattle.lua_meaning.specs.Fault.{placed}
use Rattle.lua_meaning.specs.Arguments.{argument}
use Rattle.lua_meaning.specs.Control.{level_place, error_value}
use Rattle.lua_heap.specs.declared.value.Value.{Value}
use Rattle.lua_heap.specs.Value.{value_view}
use Rattle.lua_heap.specs.Heap.{IsMade}
use Rattle.lua_code.specs.Frames.{places}
use Rattle.lua_machine.specs.View.{EngineView, frames_of}
use Rattle.lua_machine.specs.Made.{IsEngine}
use Rattle.lua_machine.specs.Serving.{IsText}
use Rattle.lua_machine.specs.Back.{args_of}
use Rattle.lua_machine.specs.Refusing.{frame_place, IsValue}
use Rattle.lua_machine.proofs.Called.{each_came}
use Rattle.lua_machine.proofs.Levels.{text_value, other_value}
use Rattle.lua_machine.proofs.engine.Engine.error_value.Goals as goal

pub returns-in_default : goal.returns-in_default
returns-in_default c =
    let m = c.args.self.now in
    let engine : IsEngine m = subst IsEngine c.self.view_is c.self.invariant in
    let args = c.as_slice.ensures.value ∙ ap (λ (y : EngineView). y.args) c.self.view_is in
    let is = c.argument-value.ensures.value m.heap.texts ∙ ap (λ (vs : List Value). argument 0 (map (value_view m.heap.texts) vs)) args in
    let made = c.argument-value.ensures.made m.heap (subst (λ (vs : List Value). AllByRecursion (IsMade m.heap) vs) (sym args) engine.args) in
    other_value (argument 0 (args_of m)) (level_place c.args.level (places (frames_of m))) c.argument-value.result m is c.in_default.not-Str made c.requires.fit

pub returns : goal.returns
returns c =
    let m = c.args.self.now in
    let new = c.text_at.new.self in
    let args = c.as_slice.ensures.value ∙ ap (λ (y : EngineView). y.args) c.self.view_is in
    let is = c.argument-value.ensures.value m.heap.texts ∙ ap (λ (vs : List Value). argument 0 (map (value_view m.heap.texts) vs)) args in
    let there = subst (λ (y : EngineView). slice_get y.heap.texts c.in-Str.id ≡ Some c.string.result.now) c.self.view_is c.string.ensures.text in
    let text = c.as_slice-2.result.now in
    let place = level_place c.args.level (places (frames_of m)) in
    let at = frame_place m.chunks c.level_frame-frame.result in
    let w_is : argument 0 (args_of m) ≡ meant.str text =
    sym is
    ∙ ap (value_view m.heap.texts) c.in-Str.is
    ∙ ap (λ o. meant.str (unwrap_or o [])) there
    ∙ ap (λ (b : Bytes). meant.str b) (sym (c.as_slice-2.ensures.value ∙ c.in_ok-text.ensures.items)) in
    each_came c.text_at.result (λ value. IsText (placed at text) value m new) (λ value. IsValue (error_value (argument 0 (args_of m)) place) value m new)
    (λ value made. text_value (argument 0 (args_of m)) text at place value m new w_is c.level_frame-frame.ensures.place made) c.text_at.ensures
