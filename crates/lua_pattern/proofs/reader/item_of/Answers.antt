use Rattle.std.proofs.Common.{◌≡◌, ℕ, List, drop, Ok, Err, refl, sym, subst, inl, inr, ◌⊎◌}
use Rattle.lua_pattern.specs.Reading.{Stands, IsSet}
use Rattle.lua_pattern.specs.declared.fault.PatternFault.{PatternFault}
use Rattle.lua_pattern.specs.declared.fault.PatternFault.TheVariants.{Memory}
use Rattle.lua_pattern.specs.declared.start.Start.{Start}
use Rattle.lua_pattern.specs.declared.start.Start.TheVariants as starts
use Rattle.lua_pattern.proofs.reader.item_of.Goals as goal

pub returns-in-Ok-clause-ok : goal.returns-in-Ok-clause-ok
returns-in-Ok-clause-ok c =
    let text = c.args.text.now in
    subst (λ (start : Start). Stands start text (Ok (c.single-in-Ok.result.0, drop c.single-in-Ok.result.1 text))) (sym c.in-Set.is)
    (Ok (c.in-Ok.class, drop c.in-Ok.size text), c.in-Ok.ensures.ok, sym c.single-in-Ok.ensures.value)

set_fault : (text : List ℕ) (fault : PatternFault) (start : Start) → start ≡ starts.Set → (fault ≡ Memory) ⊎ IsSet text (Err fault) → (fault ≡ Memory) ⊎ Stands start text (Err fault)
set_fault text fault start is (inl none) = inl none
set_fault text fault start is (inr set) = inr (subst (λ (s : Start). Stands s text (Err fault)) (sym is) (Err fault, set, refl))

pub returns-in-Err-clause-fault : goal.returns-in-Err-clause-fault
returns-in-Err-clause-fault c = set_fault c.args.text.now c.in-Err.fault c.args.start c.in-Set.is c.in-Err.ensures.fault
