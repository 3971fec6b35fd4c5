-- Code that is being made: the running function, and those that are made already.
use Rattle.std.specs.Prelude.{◌≡◌, ℕ, List, [], ◌∷◌, ◌++◌, length}
use Rattle.lua_code.specs.Instr as i
use Rattle.lua_code.specs.Instr.{proto}
use Rattle.lua_code.specs.declared.constant.Constant.{Constant}
use Rattle.lua_code.specs.declared.instr.Instr.{Instr}
use Rattle.lua_code.specs.View.{ProtoView, Inner, instr_view, inner_at, inners}
use Rattle.lua_assembler.specs.Drafts.{Drafted, Head, proto_head, draft_code, MakesAmong}

pub record Written : Type 0 where
  pub protos : List ProtoView
  pub body : Drafted

-- the functions that closures are made of, and of the running function its instructions in order, its constants and what
-- it begins with
abbrev pub made_of : Written → List Inner
made_of w = inners w.protos

abbrev pub code_of : Written → List i.Instr
code_of w = draft_code (made_of w) w.body

abbrev pub constants_of : Written → List Constant
constants_of w = w.body.proto.constants

abbrev pub head_of : Written → Head
head_of w = proto_head w.body.proto

pub record IsWritten (w : Written) : Type 0 where
  pub among : MakesAmong (length w.protos) w.body

-- functions are made, and none goes
abbrev pub Extends : (old new : List ProtoView) → Type 0
Extends old new = (more : List ProtoView) × (new ≡ old ++ more)

-- instructions are put in front
pub record Adds (added : List i.Instr) (old new : Written) : Type 0 where
  pub code : code_of new ≡ added ++ code_of old
  pub head : head_of new ≡ head_of old
  pub protos : Extends old.protos new.protos

-- the same, and no function or constant is new
pub record Puts (added : List i.Instr) (old new : Written) : Type 0 where
  pub code : code_of new ≡ added ++ code_of old
  pub head : head_of new ≡ head_of old
  pub constants : constants_of new ≡ constants_of old
  pub protos : new.protos ≡ old.protos

-- a constant is new
pub record Knows (c : Constant) (old new : Written) : Type 0 where
  pub code : code_of new ≡ code_of old
  pub head : head_of new ≡ head_of old
  pub constants : constants_of new ≡ constants_of old ++ c ∷ []
  pub protos : new.protos ≡ old.protos

-- another instruction is in the place of the one that has so many behind it
pub record Replaces (behind : ℕ) (x : Instr) (old new : Written) : Type 0 where
  pub code : (front back : List i.Instr) (y : i.Instr) → code_of old ≡ front ++ y ∷ back → length back ≡ behind → (s : i.Site) × (code_of new ≡ front ++ instr_view (constants_of old) (made_of old) s x ∷ back)
  pub head : head_of new ≡ head_of old
  pub constants : constants_of new ≡ constants_of old
  pub protos : new.protos ≡ old.protos

-- constants may be new, and none goes
abbrev pub MoreConstants : (old new : Written) → Type 0
MoreConstants old new = (more : List Constant) × (constants_of new ≡ constants_of old ++ more)

-- a function begins, and the running one stands aside
pub record Opens (h : Head) (d : Drafted) (old new : Written) : Type 0 where
  pub code : code_of new ≡ []
  pub head : head_of new ≡ h
  pub protos : new.protos ≡ old.protos
  pub stands : d ≡ old.body
  pub among : MakesAmong (length old.protos) d

-- a function's code, with what it begins with
abbrev pub inner_of : Head → List i.Instr → Inner
inner_of h code = record {
  code = proto h.file h.params h.varargs code;
  captures = h.captures;
}

-- the running function is made, behind the others, and the one around it goes on
pub record Closes (around : Drafted) (old new : Written) : Type 0 where
  pub body : new.body ≡ around
  pub protos : (p : ProtoView) × (new.protos ≡ old.protos ++ p ∷ [])
  pub inner : inner_at (made_of new) (length old.protos) ≡ inner_of (head_of old) (code_of old)
