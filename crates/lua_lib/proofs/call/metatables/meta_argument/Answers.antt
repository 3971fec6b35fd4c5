use Rattle.std.proofs.Common.{ap, sym, ◌∙◌}
use Rattle.lua_meaning.specs.Basic.{meta_argument}
use Rattle.lua_lib.proofs.Metatables.{meta-refused}
use Rattle.lua_lib.proofs.call.metatables.meta_argument.Goals as goal

pub returns-in-Nil-clause-taken : goal.returns-in-Nil-clause-taken
returns-in-Nil-clause-taken c = λ h s. ap (λ v. meta_argument v s) (sym (c.in-Nil.ensures.value h.texts))

pub returns-in-Table-clause-taken : goal.returns-in-Table-clause-taken
returns-in-Table-clause-taken c = λ h s. ap (λ v. meta_argument v s) (sym (c.in-Table.ensures.value h.texts))

pub returns-in_default : goal.returns-in_default
returns-in_default c =
    record {
      taken = λ h s. ap (λ v. meta_argument v s) (sym (c.argument.ensures.value h.texts)) ∙ meta-refused h.texts c.argument.result s c.in_default.not-Nil c.in_default.not-Table;
      made = λ h made. tt;
    }
