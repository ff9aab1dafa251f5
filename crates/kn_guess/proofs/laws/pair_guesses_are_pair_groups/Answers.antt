use Rattle.kn_guess.proofs.Clique.{pair-group-is}
use Rattle.kn_guess.proofs.laws.pair_guesses_are_pair_groups.Goals as goal

pub returns : goal.returns
returns c = λ s start g ids stored guess. pair-group-is s start g ids guess
