use Rattle.std.proofs.Common.{ℕ, zero, suc, ◌<◌, List, [], ◌∷◌, length, arith}
use Rattle.kn_logic.specs.Literals.{Literal, IsKnown, AreKnown}
use Rattle.kn_watch.specs.Watches.{lit_at}
use Rattle.kn_propagate.proofs.tests.are_known.Goals as goal

all_known : (vars : ℕ) (lits : List Literal) → ((k : ℕ) → k < length lits → IsKnown vars (lit_at lits k)) → AreKnown vars lits
all_known vars [] h = tt
all_known vars (l ∷ lits) h = (h zero (omega arith), all_known vars lits (λ k lt. h (suc k) (omega (arith, lt))))

pub returns : goal.returns
returns c t = all_known c.args.vars c.args.lits.now (λ k lt. c.loop-lit.invariant k (omega (arith, lt, c.loop-lit-test.false)))
