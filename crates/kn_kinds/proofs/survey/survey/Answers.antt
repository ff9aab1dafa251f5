use Rattle.std.proofs.Common.{◌≡◌, false, refl, sym, ap, ◌∙◌, inr, arith}
use Rattle.kn_logic.specs.Propagation.{open_places}
use Rattle.kn_watch.specs.Trails.{literals}
use Rattle.kn_kinds.specs.Kinds.{is_undecided}
use Rattle.kn_kinds.proofs.Surveys.{survey_forces}
use Rattle.kn_kinds.proofs.survey.survey.Goals as goal

pub returns-else-left-bound-2-clause-means : goal.returns-else-left-bound-2-clause-means
returns-else-left-bound-2-clause-means c =
    let trail = literals c.args.trail.now.made in
    let left = c.count_open-left.ensures ∙ ap (open_places trail) c.lits.ensures in
    let undecided : is_undecided trail c.args.c.now.guard ≡ false = ap (is_undecided trail) (sym c.guard.ensures) ∙ sym c.is_undecided.ensures ∙ c.if-is_undecided.false in
    survey_forces trail c.args.c.now (λ s. (let t = c.is_satisfied.ensures.1 s in let f = c.if-is_satisfied.false in absurd cc))
    (omega (arith, left, c.if-left-bound.false, c.bound.ensures)) false undecided (inr (refl, omega (arith, left, c.if-left-bound.false, c.bound.ensures, c.if-left-bound-2.false, c.bound-2.ensures)))
