use Rattle.std.proofs.Common.{◌≡◌, ◌++◌, ◌-◌, ◌≤◌, length, take}
use Rattle.std.specs.Option.{option_map}
use Rattle.love_run.proofs.writer.write_all.Given as goal

-- the bytes written are those taken, and no call has failed
abbrev pub invariant-loop-written : goal.invariant-loop-written
invariant-loop-written g l =
    let sink = g.S.Sink in
    record {
      within : l.written ≤ length l.out;
      taken : sink.taken l.sink ≡ option_map (λ before. before ++ take l.written l.out) (sink.taken l.fn.sink);
      steady : sink.faults l.sink ≡ sink.faults l.fn.sink;
    }

abbrev pub decreases-loop-written : goal.decreases-loop-written
decreases-loop-written g l = length l.out - l.written
