use Rattle.std.proofs.Common.{List, map, ap, ◌∙◌, subst}
use Rattle.std.specs.Prelude.{pos}
use Rattle.lua_meaning.specs.Value as meant
use Rattle.lua_meaning.specs.Arguments.{number_or}
use Rattle.lua_heap.specs.declared.value.Value.{Value}
use Rattle.lua_heap.specs.Value.{value_view}
use Rattle.lua_lib.specs.Causes.{error_of}
use Rattle.lua_lib.specs.Outcome.{Gives}
use Rattle.lua_lib.specs.Faults.{RaisesBy}
use Rattle.lua_machine.specs.View.{EngineView}
use Rattle.lua_machine.specs.Back.{args_of}
use Rattle.lua_machine.proofs.Answered.{raises_level, raises_cause}
use Rattle.lua_machine.proofs.engine.Engine.raise_error.Goals as goal

pub returns-in_ok-value-in-Ok : goal.returns-in_ok-value-in-Ok
returns-in_ok-value-in-Ok c =
    let m = c.args.self.now in
    let same = ap (λ (vs : List Value). map (value_view c.self.inside.heap.texts) vs) c.as_slice.ensures.value ∙ ap args_of c.self.view_is in
    let gives = subst (λ (vs : List meant.Value). Gives (number_or 1 vs (pos 1)) c.in-Ok.level) same c.in-Ok.ensures in
    raises_level m c.error_value.new.self c.in_ok-value-in-Ok.value c.in-Ok.level gives c.in_ok-value-in-Ok.ensures

pub returns-in_ok-value-in-Err : goal.returns-in_ok-value-in-Err
returns-in_ok-value-in-Err c =
    let m = c.args.self.now in
    let same = ap (λ (vs : List Value). map (value_view c.self.inside.heap.texts) vs) c.as_slice.ensures.value ∙ ap args_of c.self.view_is in
    let raises = subst (λ (vs : List meant.Value). RaisesBy (number_or 1 vs (pos 1)) (error_of c.self.inside.heap.texts c.in-Err.cause)) same c.in-Err.ensures in
    raises_cause m c.cause_error.new.self c.in_ok-value-in-Err.value c.in-Err.cause
    (subst (λ (y : EngineView). RaisesBy (number_or 1 (args_of m) (pos 1)) (error_of y.heap.texts c.in-Err.cause)) c.self.view_is raises) c.in_ok-value-in-Err.ensures
