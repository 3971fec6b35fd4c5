use Rattle.std.proofs.Common.{◌≡◌, length, sym, subst, arith}
use Rattle.std.specs.Prelude.{max}
use Rattle.lua_code.specs.View.{ProtoView}
use Rattle.lua_code.specs.Within.{slots_of, AreKnown}
use Rattle.lua_code.specs.contracts.proto.Proto.{the_view}
use Rattle.lua_code.proofs.Protos.{replaced_as}
use Rattle.lua_code.proofs.proto.Proto.replace.Goals as goal

pub invariant_of-self : goal.invariant_of-self
invariant_of-self c =
    let known = subst (λ (v : ProtoView). AreKnown (length v.constants) c.args.instr) (sym c.self.view_is) c.requires.known in
    let size : c.max-self-inside.result ≡ max c.self.inside.size (slots_of c.args.instr) = omega (arith, c.max-self-inside.ensures, c.slot_count.ensures) in
    replaced_as (the_view c.self.inside) c.args.at c.args.instr c.max-self-inside.result c.self.invariant known size

pub returns-clause-held : goal.returns-clause-held
returns-clause-held c =
    let known = subst (λ (v : ProtoView). AreKnown (length v.constants) c.args.instr) (sym c.self.view_is) c.requires.known in
    let size : c.max-self-inside.result ≡ max c.self.inside.size (slots_of c.args.instr) = omega (arith, c.max-self-inside.ensures, c.slot_count.ensures) in
    replaced_as (the_view c.self.inside) c.args.at c.args.instr c.max-self-inside.result c.self.invariant known size
