use Rattle.kn_guess.specs.Walks.{is_later}
use Rattle.kn_guess.proofs.Walked.{IsWalking}
use Rattle.kn_guess.proofs.walking.walk.Given as goal

abbrev pub invariant-loop-at : goal.invariant-loop-at
invariant-loop-at l = IsWalking (is_later l.later.seed l.later.free.now) l.fn.members.items l.members.items l.fn.ids l.ids l.met l.fn.set l.set l.at

abbrev pub decreases-loop-at : goal.decreases-loop-at
decreases-loop-at l = l.at
