use Rattle.kn_guess.proofs.Excluded.{refusals-one}
use Rattle.kn_guess.proofs.laws.refusals_exclude_each_other.Goals as goal

pub returns : goal.returns
returns c = λ cs seed a b h k m n. refusals-one cs seed a b h k m n
