use Rattle.kn_guess.specs.Walks.{is_later}
use Rattle.kn_guess.proofs.Walked.{IsMeeting}
use Rattle.kn_guess.proofs.walking.meet.Given as goal

abbrev pub invariant-loop-at : goal.invariant-loop-at
invariant-loop-at l = IsMeeting (is_later l.later.seed l.later.free.now) l.fn.vars l.vars l.fn.met l.met l.fn.set l.set l.at l.found

abbrev pub decreases-loop-at : goal.decreases-loop-at
decreases-loop-at l = l.at
