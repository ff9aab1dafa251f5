use Rattle.std.proofs.Common.{length}
use Rattle.kn_guess.proofs.Joined.{IsRest}
use Rattle.kn_guess.proofs.joining.joined.Given as goal

abbrev pub invariant-loop-next : goal.invariant-loop-next
invariant-loop-next l = IsRest l.store l.first l.group.items l.rest.items

abbrev pub decreases-loop-next : goal.decreases-loop-next
decreases-loop-next l = length l.rest.items
