use Rattle.kn_rules.proofs.MarkLemmas.{marked-grown}
use Rattle.kn_rules.proofs.assumed.Assumed.grow.Goals as goal

pub invariant_of-self-2 : goal.invariant_of-self-2
invariant_of-self-2 c = rw c.in_ok-push.ensures.items (marked-grown _ _ c.self.invariant)
