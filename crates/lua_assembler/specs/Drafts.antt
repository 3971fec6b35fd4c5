-- Functions that are being made, from their last instruction on.
use Rattle.std.specs.Prelude.{◌≡◌, ℕ, Bool, List, [], length, map, reverse}
use Rattle.std.specs.List.{AllByRecursion}
use Rattle.lua_tree.specs.Tree.{Bytes}
use Rattle.lua_code.specs.Instr as i
use Rattle.lua_code.specs.declared.constant.Constant.{Constant}
use Rattle.lua_code.specs.View.{ProtoView, Inner, MakesBefore, instr_view, site_view, body_view}
use Rattle.lua_code.specs.Within.{AreKnown, IsProto}
use Rattle.lua_assembler.specs.declared.draft.Step.{Step}

-- the function as a prototype without instructions, and its instructions, the last one first
pub record Drafted : Type 0 where
  pub proto : ProtoView
  pub steps : List Step

-- what a function begins with
pub record Head : Type 0 where
  pub file : Bytes
  pub params : ℕ
  pub varargs : Bool
  pub captures : List ℕ

abbrev pub proto_head : ProtoView → Head
proto_head p = record {
  file = p.file;
  params = p.params;
  varargs = p.varargs;
  captures = p.captures;
}

abbrev pub empty_draft : Head → Drafted
empty_draft h = record {
  proto = record {
    file = h.file;
    params = h.params;
    varargs = h.varargs;
    captures = h.captures;
    size = h.params;
    instrs = [];
    sites = [];
    constants = [];
  };
  steps = [];
}

abbrev pub step_view : List Constant → List Inner → Step → i.Instr
step_view constants made s = instr_view constants made (site_view s.site) s.instr

-- the instructions in order, among functions that are made
abbrev pub draft_code : List Inner → Drafted → List i.Instr
draft_code made d = reverse (map (step_view d.proto.constants made) d.steps)

abbrev pub SameCode : (old new : Drafted) → Type 0
SameCode old new = (made : List Inner) → draft_code made new ≡ draft_code made old

abbrev pub IsKnownStep : ℕ → Step → Type 0
IsKnownStep count s = AreKnown count s.instr

pub record IsDrafted (d : Drafted) : Type 0 where
  pub proto : IsProto d.proto
  pub no_instrs : d.proto.instrs ≡ []
  pub known : AllByRecursion (IsKnownStep (length d.proto.constants)) d.steps

-- each function that an instruction makes is among so many
abbrev pub IsStepAmong : ℕ → Step → Type 0
IsStepAmong count s = MakesBefore count s.instr

abbrev pub MakesAmong : ℕ → Drafted → Type 0
MakesAmong count d = AllByRecursion (IsStepAmong count) d.steps

-- the prototype of a draft
pub record IsFinished (d : Drafted) (p : ProtoView) : Type 0 where
  pub head : proto_head p ≡ proto_head d.proto
  pub code : (made : List Inner) → body_view made p ≡ draft_code made d
