use Rattle.std.proofs.Common.{◌≡◌, ◌≤◌, ◌<◌, ℕ, Ok, Err, length, arith}
use Rattle.lua_tree.specs.Reading.{block, thens}
use Rattle.lua_tree.specs.View.{block_view}
use Rattle.lua_tree.proofs.Descent.{at_counts}
use Rattle.lua_tree.proofs.ParsedWords.{chunk_stopped, reads_end, reads_no_end}
use Rattle.lua_tree.proofs.parser.chunk.Goals as goal

pub returns-in_err-read : goal.returns-in_err-read
returns-in_err-read c words sp =
    chunk_stopped c.from_residual.result c.in_err-read.field-0.0 words c.from_residual.ensures.1
    (at_counts block_view block _ _ 0 words (Err c.in_err-read.field-0.0) c.chunk.ensures.counts (c.in_err-read.ensures.answer words sp))

pub returns : goal.returns
returns c words sp =
    let d = at_counts block_view block _ _ 0 words (Ok c.in_ok-read.read) c.chunk.ensures.counts (c.in_ok-read.ensures.answer words sp) in
    let h : length c.args.source.now.tokens.now ≤ c.in_ok-read.read.at = omega arith in
    thens d (reads_end sp c.in_ok-read.read.at h)

pub returns-then-read-source : goal.returns-then-read-source
returns-then-read-source c words sp =
    let d = at_counts block_view block _ _ 0 words (Ok c.in_ok-read.read) c.chunk.ensures.counts (c.in_ok-read.ensures.answer words sp) in
    let h : c.in_ok-read.read.at < length c.args.source.now.tokens.now = omega arith in
    thens d (reads_no_end sp c.in_ok-read.read.at h)
