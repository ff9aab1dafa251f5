use Rattle.kn_guess.proofs.Stays.{table-after}
use Rattle.kn_guess.proofs.laws.pairs_stay.Goals as goal

pub returns : goal.returns
returns c = λ s start bound g ids table stored right guess low. table-after s g.border bound table stored right low
