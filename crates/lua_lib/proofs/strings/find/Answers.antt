use Rattle.std.proofs.Common.{◌≡◌, false, not, ◌&&◌, Some, None}
use Rattle.lua_meaning.specs.Strings.{is_pattern}
use Rattle.lua_lib.proofs.Finding.{find-found, no_pattern, meant_plain}
use Rattle.lua_lib.proofs.strings.find.Goals as goal
use Rattle.lua_lib.proofs.strings.find.Goals.{else-not-plain-via-then-not-plain+else-is_pattern, else-not-plain-via-else-not-plain}

pub returns-in-Some-clause-ok : goal.returns-in-Some-clause-ok
returns-in-Some-clause-ok c =
    let own : (is_pattern c.args.wanted.now && not c.args.plain) ≡ false = elim c.else-not-plain.branch [
      | else-not-plain-via-then-not-plain+else-is_pattern w ↦ no_pattern (is_pattern c.args.wanted.now) c.args.plain (cc)
      | else-not-plain-via-else-not-plain w ↦ meant_plain (is_pattern c.args.wanted.now) c.args.plain (cc)
    ] in
    find-found c.args.text.now c.args.wanted.now c.args.init c.args.plain c.passed_over-passed.result (Some c.in-Some.place) own
    c.passed_over-passed.ensures.passed c.in-Some.ensures

pub returns-in-None-clause-ok : goal.returns-in-None-clause-ok
returns-in-None-clause-ok c =
    let own : (is_pattern c.args.wanted.now && not c.args.plain) ≡ false = elim c.else-not-plain.branch [
      | else-not-plain-via-then-not-plain+else-is_pattern w ↦ no_pattern (is_pattern c.args.wanted.now) c.args.plain (cc)
      | else-not-plain-via-else-not-plain w ↦ meant_plain (is_pattern c.args.wanted.now) c.args.plain (cc)
    ] in
    find-found c.args.text.now c.args.wanted.now c.args.init c.args.plain c.passed_over-passed.result None own
    c.passed_over-passed.ensures.passed c.in-None.ensures
