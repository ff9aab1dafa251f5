use Rattle.std.proofs.Common.{length}
use Rattle.kn_propagate.specs.Chains.{count_from}
use Rattle.kn_propagate.proofs.Releasing.{IsSought}
use Rattle.kn_propagate.proofs.chains.Chains.find.Given as goal

abbrev pub invariant-loop-link : goal.invariant-loop-link
invariant-loop-link l = IsSought l.self l.chain l.spot l.before l.link

abbrev pub decreases-loop-link : goal.decreases-loop-link
decreases-loop-link l = count_from l.self.nexts (length l.self.nexts) l.link
