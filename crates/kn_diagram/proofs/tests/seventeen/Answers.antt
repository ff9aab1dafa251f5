use Rattle.kn_diagram.proofs.TestLemmas.{range-distinct}
use Rattle.kn_diagram.proofs.tests.seventeen.Goals as goal

pub new-requires : goal.new-requires
new-requires c = range-distinct 17 1
