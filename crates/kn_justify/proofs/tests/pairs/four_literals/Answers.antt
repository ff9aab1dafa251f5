use Rattle.std.proofs.Common.{◌∷◌, [], refl}
use Rattle.kn_justify.proofs.PairTestLemmas.{tested-distinct}
use Rattle.kn_justify.proofs.tests.pairs.four_literals.Goals as goal

pub justified-requires-clause-different : goal.justified-requires-clause-different
justified-requires-clause-different g c = tested-distinct (1 ∷ 2 ∷ 3 ∷ 4 ∷ 5 ∷ 6 ∷ []) refl
