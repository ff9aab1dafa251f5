use Rattle.std.proofs.Common.{◌-◌, ◌≤◌, ◌<◌, length, take}
use Rattle.std.specs.Prelude.{IfSome, slice_get}
use Rattle.std.specs.List.{AllByRecursion}
use Rattle.kn_guess.specs.Tables.{rank}
use Rattle.kn_guess.proofs.meeting.halved.Given as goal

abbrev pub invariant-loop-low : goal.invariant-loop-low
invariant-loop-low l = record {
  order : l.low ≤ l.high;
  within : l.high ≤ length l.ys;
  before : AllByRecursion (λ y. rank y.lit < rank l.lit) (take l.low l.ys);
  here : IfSome (slice_get l.ys l.high) (λ y. rank l.lit ≤ rank y.lit);
}

abbrev pub decreases-loop-low : goal.decreases-loop-low
decreases-loop-low l = l.high - l.low
