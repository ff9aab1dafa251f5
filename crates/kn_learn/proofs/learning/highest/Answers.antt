use Rattle.std.proofs.Common.{ℕ, List, get_or, sym, subst, arith}
use Rattle.std.proofs.lemmas.List.{take_more}
use Rattle.kn_learn.specs.Analyses.{IsLower, AreWithin, IsReached}
use Rattle.kn_learn.proofs.Lists.{all-at}
use Rattle.kn_learn.proofs.Taught.{within-push, reached-push, max-one}
use Rattle.kn_learn.proofs.learning.highest.Goals as goal

pub loop-place-preserved : goal.loop-place-preserved
loop-place-preserved c =
    let trail = c.args.trail.now in
    let rest : List ℕ = c.args.rest.now in
    let k : ℕ = c.loop-place.place-index in
    let (m, at, less) = all-at (IsLower trail) rest k 0 c.requires.rest c.loop-place-test.true in
    let level = c.level_at.ensures.value m at in
    record {
      within = subst (AreWithin trail.made c.max-level.result) (sym (take_more rest k 0 c.loop-place-test.true))
          (within-push trail.made c.loop-place.level c.max-level.result _ (get_or rest k 0) m (omega (arith, c.max-level.ensures)) at (omega (arith, level, c.max-level.ensures)) c.loop-place.invariant.within);
      reached = subst (IsReached trail.made c.max-level.result) (sym (take_more rest k 0 c.loop-place-test.true))
          (reached-push trail.made c.loop-place.level c.max-level.result _ (get_or rest k 0) m at (max-one c.max-level.result c.level_at.result c.loop-place.level m.level c.max-level.ensures level) c.loop-place.invariant.reached);
      below = omega (arith, level, less, c.max-level.ensures, c.loop-place.invariant.below);
    }
