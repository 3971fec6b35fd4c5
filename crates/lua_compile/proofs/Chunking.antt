-- The code of a chunk.
use Rattle.std.proofs.Common.{◌≡◌, ◌+◌, ◌-◌, true, false, List, [], ◌∷◌, ◌++◌, length, ap, ◌∙◌, arith}
use Rattle.std.proofs.lemmas.List.{append-nil}
use Rattle.std.specs.Prelude.{Result, Ok, Err, IfOk}
use Rattle.lua_tree.specs.Tree.{Bytes, Block}
use Rattle.lua_code.specs.Instr as i
use Rattle.lua_code.specs.Instr.{proto}
use Rattle.lua_code.specs.Code.{block_code, chunk_code, last}
use Rattle.lua_code.specs.Trees.{chunk_of}
use Rattle.lua_code.specs.View.{ProtoView, code_at}
use Rattle.lua_assembler.specs.Drafts.{Head}
use Rattle.lua_assembler.specs.Writing.{Written, code_of, head_of, inner_of, Adds}
use Rattle.lua_assembler.proofs.Adding.{both_added}

-- what a chunk's function begins with
abbrev pub chunk_head : Bytes → Head
chunk_head file = record { file = file; params = 0; varargs = true; captures = [] }

-- its function is the last one, behind those inside it
pub chunk_put : (file : Bytes) (b : Block) (ps : List ProtoView) (w0 w1 w2 : Written)
    → code_of w0 ≡ [] → head_of w0 ≡ chunk_head file
    → Adds (i.leave 0 0 false ∷ []) w0 w1 → Adds (block_code b [] 0 file []) w1 w2
    → length ps ≡ length w2.protos + 1 → code_at ps (length w2.protos) ≡ (inner_of (head_of w2) (code_of w2)).code
    → chunk_of ps ≡ chunk_code file b
chunk_put file b ps w0 w1 w2 e0 h0 a1 a2 n m =
    let code : List i.Instr = block_code b [] 0 file [] ++ last ∷ [] in
    let whole : Adds code w0 w2 = both_added (block_code b [] 0 file []) (last ∷ []) w0 w1 w2 a1 a2 in
    let is : code_of w2 ≡ code = whole.code ∙ ap (λ l. code ++ l) e0 ∙ append-nil code in
    let at : length ps - 1 ≡ length w2.protos = omega (arith, n) in
    ap (λ k. code_at ps k) at ∙ m
    ∙ ap (λ (h : Head). proto h.file h.params h.varargs (code_of w2)) (whole.head ∙ h0)
    ∙ ap (λ l. proto file 0 true l) is

-- what is known of an answer in two clauses
pub if_both : {T E : Type 0} (r : Result T E) (P Q R : T → Type 0) → ((x : T) → P x → Q x → R x) → IfOk r P → IfOk r Q → IfOk r R
if_both (Ok x) P Q R f p q = f x p q
if_both (Err e) P Q R f p q = tt
