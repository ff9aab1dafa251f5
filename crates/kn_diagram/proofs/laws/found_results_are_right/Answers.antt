use Rattle.std.proofs.Common.{[]}
use Rattle.kn_diagram.proofs.JoinLemmas.{found-right}
use Rattle.kn_diagram.proofs.laws.found_results_are_right.Goals as goal

pub returns : goal.returns
returns c = λ join d entries u v w explained is. found-right join d [] entries u v w explained is
