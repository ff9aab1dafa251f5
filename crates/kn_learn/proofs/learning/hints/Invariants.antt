use Rattle.std.proofs.Common.{◌≡◌, ◌++◌, None, map, drop}
use Rattle.kn_learn.specs.Reasons.{reason_at, without_repeats}
use Rattle.kn_learn.proofs.learning.hints.Given as goal

abbrev pub invariant-loop-place : goal.invariant-loop-place
invariant-loop-place l = l.ids.items ++ without_repeats l.last (map (reason_at l.trail.made) (drop l.place-index l.places)) ≡ without_repeats None (map (reason_at l.trail.made) l.places)
