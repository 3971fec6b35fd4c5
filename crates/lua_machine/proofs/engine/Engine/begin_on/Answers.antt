use Rattle.std.proofs.Common.{◌≡◌, ◌+◌, ◌-◌, ◌≤◌, length, ap, ◌∙◌, sym, subst, arith}
use Rattle.lua_heap.specs.Heap.{function_at}
use Rattle.lua_code.specs.View.{ProtoView}
use Rattle.lua_machine.specs.View.{EngineView}
use Rattle.lua_machine.specs.Arguments.{filled, behind_of}
use Rattle.lua_machine.specs.Entering.{proto_for}
use Rattle.lua_machine.proofs.Entered.{fill_fits, grown_by, begun_by}
use Rattle.lua_machine.proofs.engine.Engine.begin_on.Goals as goal

pub fill_slots-requires : goal.fill_slots-requires
fill_slots-requires c =
    let m = c.args.self.now in
    let fun = function_at m.heap c.args.id in
    let proto : c.proto_of-proto.result.now ≡ proto_for m fun = c.proto_of-proto.ensures in
    let params = c.params-params.ensures ∙ ap (λ (p : ProtoView). p.params) proto in
    let grown = grown_by m c.keep_extra.new.self c.make_room.new.self c.args.id c.args.first c.args.cell_base c.args.count c.params-params.result c.size.result c.is_vararg.result c.args.behind c.requires.ready c.requires.function
    (c.is_vararg.ensures ∙ ap (λ (p : ProtoView). p.varargs) proto) params (c.size.ensures ∙ ap (λ (p : ProtoView). p.size) proto) c.in_ok-keep_extra.ensures c.in_ok-make_room.ensures in
    let fits = fill_fits m fun c.args.first c.args.cell_base c.args.count c.args.behind c.requires.ready c.requires.function.code c.make_room.new.self grown in
    let long : length c.make_room.new.self.values ≡ length grown.values = ap (λ (y : EngineView). length y.values) grown.is in
    record { slots = subst (λ n. c.args.first + c.args.count + n ≤ length c.make_room.new.self.values) (ap (λ n. n - c.args.count) (sym params) ∙ sym c.saturating_sub.ensures) (omega (arith, fits, long)) }

pub returns : goal.returns
returns c =
    let m = c.args.self.now in
    let g = c.make_room.new.self in
    let proto : c.proto_of-proto.result.now ≡ proto_for m (function_at m.heap c.args.id) = c.proto_of-proto.ensures in
    begun_by m c.keep_extra.new.self g c.fill_slots.new.self c.copy_cells.new.self c.begin_at.new.self c.args.id c.args.first c.args.cell_base c.args.count c.params-params.result c.size.result c.is_vararg.result c.args.behind c.requires.ready c.requires.function
    (c.is_vararg.ensures ∙ ap (λ (p : ProtoView). p.varargs) proto)
    (c.params-params.ensures ∙ ap (λ (p : ProtoView). p.params) proto)
    (c.size.ensures ∙ ap (λ (p : ProtoView). p.size) proto)
    c.in_ok-keep_extra.ensures
    c.in_ok-make_room.ensures
    (c.fill_slots.ensures ∙ ap (λ n. record g { values = filled g.values (c.args.first + c.args.count) n (behind_of c.args.behind g) }) c.saturating_sub.ensures)
    c.in_ok-copy_cells.ensures
    c.begin_at.ensures
