use Rattle.std.proofs.Common.{◌≡◌, length}
use Rattle.kn_justify.specs.Arms.{has_both}
use Rattle.kn_justify.proofs.settling.has_both.Given as goal

abbrev pub invariant-loop-first : goal.invariant-loop-first
invariant-loop-first l = has_both l.rest ≡ has_both l.lits

abbrev pub decreases-loop-first : goal.decreases-loop-first
decreases-loop-first l = length l.rest
