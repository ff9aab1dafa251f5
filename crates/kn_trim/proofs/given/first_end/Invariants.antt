use Rattle.std.proofs.Common.{◌≡◌, ◌+◌, drop}
use Rattle.kn_trim.specs.Marking.{first_end}
use Rattle.kn_trim.proofs.given.first_end.Given as goal

abbrev pub invariant-loop-place : goal.invariant-loop-place
invariant-loop-place l = l.place + first_end (drop l.place l.lines) ≡ first_end l.lines
