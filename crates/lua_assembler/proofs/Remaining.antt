-- Code that is put down part by part, from its end on.
use Rattle.std.proofs.Common.{◌≡◌, List, [], ◌++◌, sym, subst, ◌∙◌, append_assoc}
use Rattle.std.proofs.lemmas.List.{append-nil}
use Rattle.lua_code.specs.Instr as i
use Rattle.lua_assembler.specs.Writing.{Written, Adds}
use Rattle.lua_assembler.proofs.Adding.{both_added, nothing_added}

-- of some code there is all but a part that stands in front
pub record Remains (code left : List i.Instr) (old new : Written) : Type 0 where
  pub done : List i.Instr
  pub is : code ≡ left ++ done
  pub added : Adds done old new

pub remains_all : (code : List i.Instr) (w : Written) → Remains code code w w
remains_all code w = record { done = []; is = sym (append-nil code); added = nothing_added w }

pub remains_less : (code left front : List i.Instr) (old mid new : Written) → Remains code (left ++ front) old mid → Adds front mid new → Remains code left old new
remains_less code left front old mid new r a = record {
  done = front ++ r.done;
  is = r.is ∙ append_assoc left front r.done;
  added = both_added front r.done old mid new r.added a;
}

pub remains_as : (code left part : List i.Instr) (old new : Written) → left ≡ part → Remains code left old new → Remains code part old new
remains_as code left part old new e r = subst (λ (l : List i.Instr). Remains code l old new) e r

pub remains_none : (code : List i.Instr) (old new : Written) → Remains code [] old new → Adds code old new
remains_none code old new r = subst (λ (l : List i.Instr). Adds l old new) (sym r.is) r.added
