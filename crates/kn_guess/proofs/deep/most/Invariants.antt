use Rattle.kn_guess.specs.Deep.{IsOneOf}
use Rattle.kn_guess.proofs.deep.most.Given as goal

abbrev pub invariant-loop-id : goal.invariant-loop-id
invariant-loop-id l = IsOneOf l.best l.ids l.most
