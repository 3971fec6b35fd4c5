use Rattle.std.proofs.Common.{ℕ, ◌+◌, refl, ap, subst}
use Rattle.lua_machine.specs.View.{EngineView}
use Rattle.lua_machine.specs.Entering.{HasGrown}
use Rattle.lua_machine.proofs.Handled.{handled}
use Rattle.lua_machine.proofs.engine.Engine.handle.Goals as goal

pub returns : goal.returns
returns c =
    let m = c.args.self.now in
    let height = c.height-height.result in
    let grown = subst (λ (n : ℕ). HasGrown (n + height) m c.make_room-2.new.self) (ap (λ (y : EngineView). y.base) c.make_room.view_is) c.in_ok-make_room.ensures in
    handled m c.args.wants c.args.handler c.args.args.now c.call.result _ c.make_room-2.new.self c.call.new.self c.in_ok-self-inside.field-0.items height (c.self.inside.base + height)
    grown c.self.view_is c.in_ok-self-inside.ensures.items c.height-height.ensures refl c.call.ensures
