use Rattle.std.proofs.Common.{rules, sym}
use Rattle.lua_assembler.proofs.Writing.{close_ok}
use Rattle.lua_assembler.proofs.writer.Writer.close.Goals as goal

pub returns-clause-ok : goal.returns-clause-ok
returns-clause-ok c =
    close_ok c.self.inside.protos.items c.push.new.self.items c.self.inside.body c.replace-done.result c.args.around
    c.replace-done.new.dest c.in_ok-finish.field-0 c.args.self.now (sym c.self.view_is) c.replace-done.ensures.value
    c.replace-done.ensures.after c.in_ok-finish.ensures (search (rules, c.in_ok-push.ensures.items))
