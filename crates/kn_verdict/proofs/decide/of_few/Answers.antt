use Rattle.std.proofs.Common.{inl, inr, length, ap, subst, arith}
use Rattle.kn_quant.proofs.Public.{small-narrow}
use Rattle.kn_verdict.specs.Numbered.{IsSaid}
use Rattle.kn_verdict.proofs.decide.of_few.Goals as goal
use Rattle.kn_verdict.proofs.decide.of_few.Goals.{then-bound-lt2, else-bound-lt2}

pub klause-requires-clause-cardinal : goal.klause-requires-clause-cardinal
klause-requires-clause-cardinal c = subst (IsSaid c.args.group.now) c.in-Count.is c.in_ok-bound.ensures

pub returns-then-n-bound : goal.returns-then-n-bound
returns-then-n-bound c =
    let g = c.args.group.now in
    let long = ap length c.border.ensures.value in (
      λ stage level w. small-narrow g stage level c.border.ensures.group c.requires.few w,
      subst (IsSaid g) c.in-Count.is c.in_ok-bound.ensures,
      elim c.if-bound-lt2.branch [
        | then-bound-lt2 w ↦ inl (omega (arith, w.if-bound-lt2.true))
        | else-bound-lt2 w ↦ inr (omega (arith, w.if-bound-lt2.false, long))
      ],
    )

pub returns-in-Unlike : goal.returns-in-Unlike
returns-in-Unlike c =
    let g = c.args.group.now in
    let h = subst (IsSaid g) c.in-Unlike.is c.in_ok-bound.ensures in
    ((λ stage level w. small-narrow g stage level c.border.ensures.group c.requires.few w), h.0, h.1)
