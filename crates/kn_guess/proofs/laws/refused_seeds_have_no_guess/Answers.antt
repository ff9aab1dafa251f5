use Rattle.kn_guess.proofs.Excluded.{no-guess}
use Rattle.kn_guess.proofs.laws.refused_seeds_have_no_guess.Goals as goal

pub returns : goal.returns
returns c = λ s seed why g ids h m guess. no-guess s seed why g ids h m guess
