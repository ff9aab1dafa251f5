use Rattle.kn_guess.proofs.Clique.{no-guess-few}
use Rattle.kn_guess.proofs.laws.refused_starts_have_no_guess.Goals as goal

pub returns : goal.returns
returns c = λ s start g ids none guess. no-guess-few s start g ids none guess
