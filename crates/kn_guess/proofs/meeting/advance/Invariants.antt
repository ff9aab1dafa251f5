use Rattle.std.proofs.Common.{◌-◌, ◌≤◌, ◌<◌, length, take}
use Rattle.std.specs.List.{AllByRecursion}
use Rattle.kn_guess.specs.Tables.{rank}
use Rattle.kn_guess.proofs.meeting.advance.Given as goal

abbrev pub invariant-loop-step : goal.invariant-loop-step
invariant-loop-step l = record {
  start : l.from ≤ l.low;
  within : l.low ≤ length l.ys;
  some : 1 ≤ l.step;
  before : AllByRecursion (λ y. rank y.lit < rank l.lit) (take l.low l.ys);
}

abbrev pub decreases-loop-step : goal.decreases-loop-step
decreases-loop-step l = length l.ys - l.low
