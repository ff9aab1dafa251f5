use Rattle.std.proofs.Common.{subst}
use Rattle.kn_diagram.specs.Diagrams.{IsTable}
use Rattle.kn_diagram.proofs.NodeLemmas.{canonical, has_nodes}
use Rattle.kn_diagram.proofs.diagrams.Diagrams.nodes.Goals as goal

pub returns-clause-canonical : goal.returns-clause-canonical
returns-clause-canonical c = canonical c.args.self.now (subst IsTable c.self.view_is c.self.invariant)

pub returns-clause-laws : goal.returns-clause-laws
returns-clause-laws c = has_nodes c.args.self.now (subst IsTable c.self.view_is c.self.invariant)
