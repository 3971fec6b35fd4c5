use Rattle.std.proofs.lemmas.Result.{on_ok_weaker}
use Rattle.lua_compile.proofs.LocalSteps.{local_function_precedes}
use Rattle.lua_compile.proofs.locals.put_stat.Goals as goal

pub returns-in_ok-put_locals-in-LocalFunction-clause-locals :
    goal.returns-in_ok-put_locals-in-LocalFunction-clause-locals
returns-in_ok-put_locals-in-LocalFunction-clause-locals c =
    on_ok_weaker c.leave_out.result (λ _. local_function_precedes c.args.stat.now c.in-LocalFunction.name c.in-LocalFunction.func c.from_ref.result.now c.func_names.new.names c.args.later.now c.args.locals.now.items c.put_locals-in-LocalFunction.new.locals.items
    c.in-LocalFunction.is c.from_ref.ensures.value c.in_ok-func_names-in-LocalFunction.ensures c.in_ok-put_locals-in-LocalFunction.ensures) c.leave_out.ensures
