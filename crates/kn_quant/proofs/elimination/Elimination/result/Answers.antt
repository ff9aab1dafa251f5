use Rattle.std.proofs.Common.{subst}
use Rattle.kn_diagram.specs.Diagrams.{IsNode}
use Rattle.kn_quant.proofs.ProgressLemmas.{result-there}
use Rattle.kn_quant.proofs.elimination.Elimination.result.Goals as goal

pub returns-clause-there : goal.returns-clause-there
returns-clause-there c =
    subst (λ e. IsNode e.table c.self.inside.result) c.self.view_is
    (result-there (record { table = c.self.inside.diagrams; stages = c.self.inside.stages.items; buckets = c.self.inside.buckets.items; result = c.self.inside.result }) c.self.invariant)
