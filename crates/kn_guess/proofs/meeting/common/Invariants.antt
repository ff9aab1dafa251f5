use Rattle.std.proofs.Common.{◌≡◌, ◌≤◌, ◌++◌, length, take, drop, filter}
use Rattle.kn_guess.specs.Pairing.{is_common}
use Rattle.kn_guess.proofs.Meets.{AreBefore}
use Rattle.kn_guess.proofs.meeting.common.Given as goal

abbrev pub invariant-loop-x : goal.invariant-loop-x
invariant-loop-x l = record {
  rest : l.kept.items ++ filter (is_common l.store.live l.ys) (drop l.x-index l.xs) ≡ filter (is_common l.store.live l.ys) l.xs;
  within : l.at ≤ length l.ys;
  before : AreBefore (take l.at l.ys) (drop l.x-index l.xs);
}
