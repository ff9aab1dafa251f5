use Rattle.kn_verdict.proofs.Bounds.{cardinal-only, one-bound}
use Rattle.kn_verdict.proofs.laws.a_group_has_one_bound.Goals as goal

pub returns-clause-cardinal : goal.returns-clause-cardinal
returns-clause-cardinal c = cardinal-only

pub returns-clause-one : goal.returns-clause-one
returns-clause-one c = one-bound
