use Rattle.std.proofs.Common.{sym, subst, []}
use Rattle.kn_diagram.specs.Censuses.{IsCensus}
use Rattle.kn_diagram.proofs.CensusLemmas.{census-none}
use Rattle.kn_diagram.proofs.census.Census.new.Goals as goal

pub invariant_of-result : goal.invariant_of-result
invariant_of-result c =
    subst (λ es. IsCensus es c.new-2.result.items) (sym c.new.ensures.empty) (subst (IsCensus []) (sym c.new-2.ensures.items) census-none)
