use Rattle.std.proofs.Common.{true, refl, inl, arith}
use Rattle.kn_watch.specs.Trails.{literals}
use Rattle.kn_kinds.proofs.Surveys.{survey_forces}
use Rattle.kn_kinds.proofs.survey.survey_undecided.Goals as goal

pub returns-then-left-bound : goal.returns-then-left-bound
returns-then-left-bound c =
    survey_forces (literals c.args.trail.now.made) c.args.c.now c.requires.unsatisfied (omega (arith, c.requires.left, c.requires.few)) true c.requires.undecided (inl (refl, omega (arith, c.requires.left, c.if-left-bound.true, c.bound.ensures)))
