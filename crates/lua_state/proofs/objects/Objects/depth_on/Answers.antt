use Rattle.std.proofs.Common.{arith, ◌-◌}
use Rattle.lua_state.proofs.Acting.{read_depth, deep_here}
use Rattle.lua_state.proofs.objects.Objects.depth_on.Goals as goal

pub returns-clause-few : goal.returns-clause-few
returns-clause-few c =
    let low = c.get.ensures.range.0 in
    let high = c.get.ensures.range.1 in
    let is = c.get.ensures.number in
    let made = c.requires.made in
    let same = c.requires.kept.stand.same in
    let e = read_depth c.args.self.now c.requires.kept c.args.channel (c.get.result - 1) c.index.result.now (omega arith, omega arith) (omega arith) (omega arith) c.index.ensures in
    let deep = deep_here c.args.self.now c.requires.kept c.args.channel (omega arith, omega arith) in
    omega arith
