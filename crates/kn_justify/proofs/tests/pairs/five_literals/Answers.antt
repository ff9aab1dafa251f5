use Rattle.std.proofs.Common.{◌∷◌, [], refl, subst, arith}
use Rattle.kn_logic.specs.Groups.{IsGroup}
use Rattle.kn_justify.proofs.PairTestLemmas.{tested-as, tested-distinct}
use Rattle.kn_justify.proofs.tests.pairs.five_literals.Goals as goal

pub justified-requires-clause-pairs : goal.justified-requires-clause-pairs
justified-requires-clause-pairs g c =
    tested-as c.in_ok-group.group c.in_ok-f.f.constraints (c.new.result ∷ c.new-2.result ∷ c.new-3.result ∷ c.new-4.result ∷ c.new-5.result ∷ []) 12 (subst IsGroup c.group.view_is c.group.invariant) c.in_ok-group.ensures (omega arith)
    (rw (c.in_ok-f.ensures, c.new.ensures, c.new-2.ensures, c.new-3.ensures, c.new-4.ensures, c.new-5.ensures) refl) (rw (c.in_ok-f.ensures, c.new.ensures, c.new-2.ensures, c.new-3.ensures, c.new-4.ensures, c.new-5.ensures) refl)

pub justified-requires-clause-different : goal.justified-requires-clause-different
justified-requires-clause-different g c = tested-distinct (1 ∷ 2 ∷ 3 ∷ 4 ∷ 5 ∷ 6 ∷ 7 ∷ 8 ∷ 9 ∷ 10 ∷ 11 ∷ 12 ∷ []) refl
