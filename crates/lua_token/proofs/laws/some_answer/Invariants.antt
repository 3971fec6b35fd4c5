use Rattle.std.proofs.Common.{◌≤◌, ◌-◌, List, length}
use Rattle.lua_token.specs.Cuts.{Between}
use Rattle.lua_token.specs.Answer.{max_length}
use Rattle.lua_token.specs.declared.token.Token.{Token}
use Rattle.lua_token.proofs.laws.some_answer.Given as goal

abbrev pub invariant-loop-start : goal.invariant-loop-start
invariant-loop-start l = record {
  short : length l.source ≤ max_length;
  within : l.start ≤ length l.source;
  so_far : (ts : List Token) × Between l.source 0 ts l.start;
}

abbrev pub decreases-loop-start : goal.decreases-loop-start
decreases-loop-start l = length l.source - l.start
