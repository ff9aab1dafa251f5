use Rattle.std.proofs.Common.{true≢false, sym, subst, List, ℕ}
use Rattle.kn_logic.specs.Literals.{Literal, AreKnown}
use Rattle.kn_logic.specs.Constraints.{klause, Fits}
use Rattle.kn_guess.proofs.tests.clause_of.Goals as goal

fits : (vars : ℕ) (lits : List Literal) → AreKnown vars lits → Fits vars (klause 1 lits)
fits vars lits known = record { within = record { guard = tt; lits = known }; different = λ e. absurd (true≢false e) }

pub returns : goal.returns
returns c = subst (Fits c.args.vars) (sym c.new-2.ensures) (fits c.args.vars c.loop-number.lits.items c.loop-number.invariant)
