use Rattle.std.proofs.Common.{◌-◌, ◌≤◌, length}
use Rattle.kn_guess.specs.Tables.{IsNear}
use Rattle.kn_guess.proofs.Grown.{IsGrown}
use Rattle.kn_guess.proofs.growing.least.Given as goal

abbrev pub invariant-loop-member : goal.invariant-loop-member
invariant-loop-member l = record {
  grown : IsGrown l.store l.later.seed l.at l.set;
  near : IsNear l.store l.later.seed l.entries.items l.members.items;
  few : length l.set ≤ 256;
}

abbrev pub decreases-loop-member : goal.decreases-loop-member
decreases-loop-member l = 257 - l.at
