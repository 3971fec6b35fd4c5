use Rattle.std.proofs.Common.{◌∙◌, ap, subst, []}
use Rattle.lua_tree.specs.View.{block_view}
use Rattle.lua_code.specs.Code.{block_code}
use Rattle.lua_code.specs.Scope.{Scope}
use Rattle.lua_assembler.specs.Writing.{Adds}
use Rattle.lua_compile.proofs.Chunking.{chunk_put, chunk_head, if_both}
use Rattle.lua_compile.proofs.chunk.protos.Goals as goal

pub returns : goal.returns
returns c =
    let inside = subst (λ (sc : Scope). Adds (block_code (block_view c.args.chunk.now.block) [] 0 c.args.name.now sc) c.leave.new.w c.block_code.new.w) c.new-scope.ensures c.in_ok-block_code.ensures.code in
    if_both c.finish.result _ _ _ (λ ps n m. chunk_put c.args.name.now (block_view c.args.chunk.now.block) ps.items c.new-w.result c.leave.new.w c.block_code.new.w
    c.new-w.ensures.code (c.new-w.ensures.head ∙ ap (λ file. chunk_head file) c.in_ok-copy.ensures) c.in_ok-leave.ensures inside n m)
    c.finish.ensures.count c.finish.ensures.main
