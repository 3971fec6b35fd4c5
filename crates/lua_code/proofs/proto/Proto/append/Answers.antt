use Rattle.std.proofs.Common.{◌≡◌, length, sym, subst, arith}
use Rattle.std.specs.Prelude.{max}
use Rattle.lua_code.specs.View.{ProtoView}
use Rattle.lua_code.specs.Within.{slots_of, AreKnown}
use Rattle.lua_code.specs.contracts.proto.Proto.{the_view}
use Rattle.lua_code.proofs.Protos.{appended_as}
use Rattle.lua_code.proofs.proto.Proto.append.Goals as goal

pub invariant_of-self-2 : goal.invariant_of-self-2
invariant_of-self-2 c =
    let known = subst (λ (v : ProtoView). AreKnown (length v.constants) c.args.instr) (sym c.self.view_is) c.requires.known in
    let size : c.max-size.result ≡ max c.self.inside.size (slots_of c.args.instr) = omega (arith, c.max-size.ensures, c.slot_count.ensures) in
    appended_as (the_view c.self.inside) c.args.instr c.args.site c.max-size.result c.append.new.instrs.items c.append.new.sites.items c.self.invariant known size c.in_ok-append.ensures.instrs c.in_ok-append.ensures.sites

pub returns-clause-held : goal.returns-clause-held
returns-clause-held c =
    let known = subst (λ (v : ProtoView). AreKnown (length v.constants) c.args.instr) (sym c.self.view_is) c.requires.known in
    let size : c.max-size.result ≡ max c.self.inside.size (slots_of c.args.instr) = omega (arith, c.max-size.ensures, c.slot_count.ensures) in
    appended_as (the_view c.self.inside) c.args.instr c.args.site c.max-size.result c.append.new.instrs.items c.append.new.sites.items c.self.invariant known size c.in_ok-append.ensures.instrs c.in_ok-append.ensures.sites
