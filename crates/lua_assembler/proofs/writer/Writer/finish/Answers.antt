use Rattle.std.proofs.Common.{rules, sym}
use Rattle.lua_assembler.proofs.Writing.{main_is}
use Rattle.lua_assembler.proofs.writer.Writer.finish.Goals as goal

pub returns-clause-main : goal.returns-clause-main
returns-clause-main c =
    main_is c.self.inside.protos.items c.push.new.self.items c.self.inside.body c.in_ok-finish.field-0 c.args.self
    (sym c.self.view_is) c.in_ok-finish.ensures (search (rules, c.in_ok-push.ensures.items))
