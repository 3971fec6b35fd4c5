use Rattle.std.proofs.Common.{◌≡◌, true, ap, sym, ◌∙◌}
use Rattle.lua_tree.specs.View.{block_view}
use Rattle.lua_state.specs.Programs.{is_lua}
use Rattle.lua_state.proofs.Made.{chunk-result, fault-result}
use Rattle.lua_state.proofs.building.code.Goals as goal

pub returns-in-Ok : goal.returns-in-Ok
returns-in-Ok c =
    let named : is_lua c.args.name.now ≡ true = ap is_lua (sym c.bytes.ensures) ∙ (sym c.is_lua.ensures ∙ c.if-not-is_lua.false) in
    chunk-result c.args.name.now c.args.source.now named (block_view c.in-Ok.chunk.block) c.in-Ok.ensures.exact c.compiled.result c.compiled.ensures

pub returns-in-Err : goal.returns-in-Err
returns-in-Err c =
    let named : is_lua c.args.name.now ≡ true = ap is_lua (sym c.bytes.ensures) ∙ (sym c.is_lua.ensures ∙ c.if-not-is_lua.false) in
    fault-result c.args.name.now c.args.source.now named c.in-Err.fault c.in-Err.ensures.exact c.faulty.result c.faulty.ensures.found c.faulty.ensures.text
