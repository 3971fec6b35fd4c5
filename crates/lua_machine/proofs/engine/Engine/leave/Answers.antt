use Rattle.std.proofs.Common.{◌≡◌, ◌+◌, length, sym, ap, subst}
use Rattle.std.specs.Prelude.{IfOk}
use Rattle.lua_meaning.specs.Value.{first}
use Rattle.lua_heap.specs.Value.{value_view}
use Rattle.lua_code.specs.declared.instr.Instr.TheVariants.{Leave}
use Rattle.lua_machine.specs.declared.status.Status.TheVariants.{Goes}
use Rattle.lua_machine.specs.View.{EngineView}
use Rattle.lua_machine.specs.Made.{IsEngine}
use Rattle.lua_machine.specs.Ready.{WantsFit}
use Rattle.lua_machine.specs.Does.{Takes}
use Rattle.lua_machine.specs.Results.{held_at, results_at, Gathers}
use Rattle.lua_machine.proofs.Leaving.{one_unless}
use Rattle.lua_machine.proofs.Resuming.{top_known, top_fits, leaves_one, leaves_all, leaves_each}
use Rattle.lua_machine.proofs.engine.Engine.leave.Goals as goal

pub resume-requires : goal.resume-requires
resume-requires c =
    let m = c.args.self.now in
    record {
      top = c.in-Some.ensures;
      code = top_known m c.requires.ready.ready.fit c.in-Some.ensures.0 c.in-Some.frame c.in-Some.ensures.1 c.in-Waits.wants c.in-Waits.is;
    }

pub receive-requires : goal.receive-requires
receive-requires c =
    let went = c.resume.ensures in
    record {
      one = one_unless c.in-Waits.wants c.in_default-wants.not-ToTail;
      fits = subst (λ (y : EngineView). WantsFit y.base (length y.values) c.in-Waits.wants) (sym went.are)
          (top_fits c.args.self.now c.requires.ready.ready.fit went.frames c.in-Some.frame went.were c.in-Waits.wants c.in-Waits.is);
      made = c.first_of-value.ensures.made;
    }

pub returns : goal.returns
returns c =
    let m = c.args.self.now in
    let is : IsEngine m = subst IsEngine c.self.view_is c.self.invariant in
    let went = c.resume.ensures in
    let base : c.self.inside.base ≡ m.base = ap (λ (v : EngineView). v.base) c.self.view_is in
    let value = subst (λ (y : EngineView). value_view y.heap.texts c.first_of-value.result ≡ first (results_at y (c.self.inside.base + c.args.from) c.args.count c.args.tailed)) went.are c.first_of-value.ensures.value in
    let here = subst (λ b. value_view m.heap.texts c.first_of-value.result ≡ first (results_at m (b + c.args.from) c.args.count c.args.tailed)) base value in
    subst (Takes (Leave c.args.from c.args.count c.args.tailed) Goes m) (sym c.receive.ensures)
    (leaves_one m c.resume.new.self is c.args.from c.args.count c.args.tailed c.requires.ready c.in-Some.frame c.in-Waits.wants c.in-Waits.is c.first_of-value.result went (one_unless c.in-Waits.wants c.in_default-wants.not-ToTail) here)

pub returns-in-ToTail : goal.returns-in-ToTail
returns-in-ToTail c =
    let m = c.args.self.now in
    let new = c.resume.new.self in
    let is : IsEngine m = subst IsEngine c.self.view_is c.self.invariant in
    let base : c.self.inside.base ≡ m.base = ap (λ (v : EngineView). v.base) c.self.view_is in
    let gathered = subst (λ b. c.gather.new.self ≡ record new { tail = held_at new (b + c.args.from) c.args.count c.args.tailed }) base c.in_ok-gather.ensures in
    subst (Takes (Leave c.args.from c.args.count c.args.tailed) Goes m) (sym gathered)
    (leaves_all m new is c.args.from c.args.count c.args.tailed c.requires.ready c.in-Some.frame c.in-Waits.wants c.in-Waits.is c.resume.ensures (sym c.in-ToTail.is))

pub returns-in_default : goal.returns-in_default
returns-in_default c =
    let m = c.args.self.now in
    let base : c.self.inside.base ≡ m.base = ap (λ (v : EngineView). v.base) c.self.view_is in
    leaves_each m c.give.new.self (subst IsEngine c.self.view_is c.self.invariant) c.args.from c.args.count c.args.tailed c.requires.ready c.give.result
    (subst (λ b. IfOk c.give.result (λ status. Gathers (b + c.args.from) c.args.count c.args.tailed status m c.give.new.self)) base c.give.ensures)

pub returns-in_default-role : goal.returns-in_default-role
returns-in_default-role c =
    let m = c.args.self.now in
    let base : c.self.inside.base ≡ m.base = ap (λ (v : EngineView). v.base) c.self.view_is in
    leaves_each m c.give-in_default-role.new.self (subst IsEngine c.self.view_is c.self.invariant) c.args.from c.args.count c.args.tailed c.requires.ready c.give-in_default-role.result
    (subst (λ b. IfOk c.give-in_default-role.result (λ status. Gathers (b + c.args.from) c.args.count c.args.tailed status m c.give-in_default-role.new.self)) base c.give-in_default-role.ensures)
