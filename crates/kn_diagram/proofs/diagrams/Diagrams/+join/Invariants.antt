use Rattle.std.proofs.Common.{◌+◌}
use Rattle.kn_diagram.proofs.diagrams.Diagrams.+join.Given as goal

abbrev pub decreases-join : goal.decreases-join
decreases-join l = l.f + l.g
