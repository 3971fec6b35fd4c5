use Rattle.std.proofs.Common.{true, false, sym, ◌∙◌}
use Rattle.lua_machine.proofs.Passing.{file_seen, settles_file, settles_same, settled_is}
use Rattle.lua_machine.proofs.engine.Engine.settle_text.Goals as goal

pub invariant_of-self-then-is_file_data : goal.invariant_of-self-then-is_file_data
invariant_of-self-then-is_file_data c = settled_is _ c.intern.new.self _ c.in_ok-name.name c.self.invariant c.intern.ensures.extends c.in_ok-name.ensures.made

pub returns-in_ok-name : goal.returns-in_ok-name
returns-in_ok-name c =
    let m = c.args.self.now in
    let file = file_seen _ m c.self.view_is c.args.number c.requires.number c.index.result.now c.index.ensures true (sym c.is_file_data.ensures ∙ c.if-is_file_data.true) in
    settles_file _ m c.self.view_is c.self.invariant c.intern.new.self c.in_ok-name.name c.intern.ensures.extends c.intern.ensures.store c.intern.ensures.functions c.in_ok-name.ensures.id c.args.number file c.requires.ready c.requires.number c.requires.plain

pub returns-else-is_file_data : goal.returns-else-is_file_data
returns-else-is_file_data c =
    let m = c.args.self.now in
    let other = file_seen _ m c.self.view_is c.args.number c.requires.number c.index.result.now c.index.ensures false (sym c.is_file_data.ensures ∙ c.if-is_file_data.false) in
    settles_same _ m c.self.view_is c.args.number other c.requires.ready c.requires.number c.requires.plain
