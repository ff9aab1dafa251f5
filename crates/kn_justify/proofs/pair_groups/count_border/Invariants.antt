use Rattle.std.proofs.Common.{◌≡◌, ◌+◌, ◌<◌, ◌≤◌, false, length, drop}
use Rattle.kn_log.specs.Written.{AddsSuch}
use Rattle.kn_justify.specs.Growth.{ArePlain}
use Rattle.kn_justify.specs.PairGroups.{IsAll, IsAllButOne}
use Rattle.kn_justify.proofs.pair_groups.count_border.Given as goal

abbrev pub invariant-loop-place : goal.invariant-loop-place
invariant-loop-place g l = record {
  within : l.place < length l.border;
  whole : l.log.failed ≡ false;
  lines : AddsSuch ArePlain l.fn.log l.log (g.S.Sink.written l.fn.sink) (g.S.Sink.written l.sink);
  all : IsAll l.log.state (drop (l.place + 1) l.border) l.all;
  but_one : IsAllButOne l.log.state (drop l.place l.border) l.held;
  later : g.S.Sink.faults l.fn.sink ≤ g.S.Sink.faults l.sink;
}

abbrev pub decreases-loop-place : goal.decreases-loop-place
decreases-loop-place g l = l.place
