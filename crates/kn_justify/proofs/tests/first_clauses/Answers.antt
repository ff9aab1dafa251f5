use Rattle.kn_justify.proofs.PairTestLemmas.{taken-next}
use Rattle.kn_justify.proofs.tests.first_clauses.Goals as goal

pub loop-place-preserved : goal.loop-place-preserved
loop-place-preserved c = taken-next c.args.f.now.constraints c.loop-place.taken.items c.push.new.self.items c.loop-place.place c.in-Some.c.now c.in_ok-copy.field-0 c.loop-place.invariant c.in_ok-push.ensures.items c.in_ok-copy.ensures c.in-Some.ensures.value
