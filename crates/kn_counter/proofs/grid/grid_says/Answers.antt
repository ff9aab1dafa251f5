use Rattle.kn_counter.proofs.GridLemmas.{grid-says}
use Rattle.kn_counter.proofs.grid.grid_says.Goals as goal

pub returns : goal.returns
returns c = grid-says
