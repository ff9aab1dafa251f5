use Rattle.kn_diagram.proofs.NodeLemmas.{Keeps-along}
use Rattle.kn_diagram.proofs.grids.either_way.Goals as goal

pub returns-clause-kept : goal.returns-clause-kept
returns-clause-kept c = Keeps-along _ _ _ c.and.ensures.kept c.or.ensures.kept
