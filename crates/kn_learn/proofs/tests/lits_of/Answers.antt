use Rattle.std.proofs.Common.{sym, ap, subst, ◌∙◌}
use Rattle.kn_logic.specs.Literals.{IsKnown, AreKnown}
use Rattle.kn_logic.proofs.Public.{All-push}
use Rattle.kn_learn.proofs.tests.lits_of.Goals.{then-number-ne0+in_ok-push, else-number-ne0}
use Rattle.kn_learn.proofs.tests.lits_of.Goals as goal

pub loop-number-preserved : goal.loop-number-preserved
loop-number-preserved c = elim c.if-number-ne0.branch [
  | then-number-ne0+in_ok-push w ↦ subst (AreKnown 4) (sym (ap (λ v. v.items) w.lits-is ∙ w.in_ok-push.ensures.items)) (All-push (IsKnown 4) c.loop-number.lits.items w.lit_of.result c.loop-number.invariant w.lit_of.ensures)
  | else-number-ne0 w ↦ subst (AreKnown 4) (sym (ap (λ v. v.items) w.lits-is)) c.loop-number.invariant
]
