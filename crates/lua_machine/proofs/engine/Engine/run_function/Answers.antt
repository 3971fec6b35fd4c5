use Rattle.std.proofs.Common.{◌≡◌, ap, ◌∙◌, sym, subst}
use Rattle.lua_heap.specs.Heap.{function_at}
use Rattle.lua_machine.specs.declared.arguments.Behind.TheVariants.{Args}
use Rattle.lua_machine.specs.View.{EngineView}
use Rattle.lua_machine.specs.Made.{IsEngine}
use Rattle.lua_machine.specs.Callees.{callee_at}
use Rattle.lua_machine.specs.Entering.{HasFunction, CanBegin, HasBegun}
use Rattle.lua_machine.proofs.Backed.{takes_none, starts_some, can_start, has_less, starts_function}
use Rattle.lua_machine.proofs.engine.Engine.run_function.Goals as goal

pub returns-in-Some : goal.returns-in-Some
returns-in-Some c = starts_some c.args.self.now (callee_at c.args.self.now c.args.id) c.in_ok-status.field-0 c.in-Some.status c.take_call.new.self c.in-Some.is c.in_ok-status.ensures

pub begin_on-requires : goal.begin_on-requires
begin_on-requires c =
    let m = c.args.self.now in
    let mid = c.take_call.new.self in
    let took = takes_none m mid c.in_ok-status.field-0 c.in_default.not-Some c.in_ok-status.ensures in
    record {
      function = has_less m mid c.requires.ready took c.args.id c.requires.function;
      ready = subst (λ (y : EngineView). CanBegin y.base y.cell_base 0 mid) (sym c.begin_on.view_is) (can_start m mid c.requires.ready took c.requires.top);
    }

pub returns : goal.returns
returns c =
    let m = c.args.self.now in
    let mid = c.take_call.new.self in
    let took = takes_none m mid c.in_ok-status.field-0 c.in_default.not-Some c.in_ok-status.ensures in
    starts_function m mid c.requires.ready took c.args.id c.begin_on-2.new.self c.requires.function c.requires.top
    (subst IsEngine c.begin_on.view_is c.begin_on.invariant)
    (subst (λ (y : EngineView). HasBegun (function_at mid.heap c.args.id) y.base y.cell_base 0 Args mid c.begin_on-2.new.self) c.begin_on.view_is c.in_ok-begin_on.ensures)
