use Rattle.std.proofs.Common.{◌≡◌, ◌∷◌, take}
use Rattle.kn_learn.specs.Reasons.{negations_at}
use Rattle.kn_learn.proofs.learning.negations.Given as goal

abbrev pub invariant-loop-place : goal.invariant-loop-place
invariant-loop-place l = l.lits.items ≡ negations_at l.trail.made (l.lowest ∷ take l.place-index l.rest)
