use Rattle.std.proofs.Common.{◌≡◌, ◌≤◌, ◌-◌, length}
use Rattle.lua_token.specs.Cuts.{Between, line_of}
use Rattle.lua_token.specs.Answer.{max_length}
use Rattle.lua_token.proofs.lexer.cut.Given as goal

abbrev pub invariant-loop-start : goal.invariant-loop-start
invariant-loop-start l = record {
  short : length l.source ≤ max_length;
  within : l.start ≤ length l.source;
  line : l.line ≡ line_of l.source l.start;
  so_far : Between l.source 0 l.tokens.items l.start;
}

abbrev pub decreases-loop-start : goal.decreases-loop-start
decreases-loop-start l = length l.source - l.start
