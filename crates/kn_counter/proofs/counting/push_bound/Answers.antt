use Rattle.std.proofs.Common.{sym, subst, ◌∙◌}
use Rattle.kn_logic.specs.Literals.{AreKnown}
use Rattle.kn_counter.proofs.Adding.{known_negations}
use Rattle.kn_counter.proofs.counting.push_bound.Goals as goal

pub push_counter-requires-clause-lits : goal.push_counter-requires-clause-lits
push_counter-requires-clause-lits c =
    subst (AreKnown c.args.out.now.vars) (sym (c.deref.ensures.value ∙ c.in_ok-negations.ensures))
    (known_negations c.args.out.now.vars c.args.lits.now c.requires.lits)
