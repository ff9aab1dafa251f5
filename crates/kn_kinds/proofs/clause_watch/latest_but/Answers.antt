use Rattle.std.proofs.Common.{◌≢◌, ◌≤◌, ◌<◌, ◌+◌, ℕ, length, sym, subst, arith}
use Rattle.kn_watch.specs.Trails.{literals}
use Rattle.kn_watch.specs.Watches.{lit_at}
use Rattle.kn_kinds.specs.Latest.{rank}
use Rattle.kn_kinds.proofs.Ranks.{later_step, skip_step}
use Rattle.kn_kinds.proofs.clause_watch.latest_but.Goals as goal
use Rattle.kn_kinds.proofs.clause_watch.latest_but.Goals.{then-place-skipped, else-place-skipped}

pub loop-place-preserved : goal.loop-place-preserved
loop-place-preserved c =
    let r : ℕ → ℕ = λ k. rank (literals c.args.trail.now.made) (lit_at c.args.lits.now k) in
    let kept = c.loop-place.invariant in
    let lt : c.loop-place.place < length c.args.lits.now = omega (arith, c.loop-place-test.true) in
    let both : (c.if-place-skipped.latest < length c.args.lits.now) × (c.if-place-skipped.latest ≢ c.args.skipped) × ((q : ℕ) → q < c.loop-place.place + 1 → q ≢ c.args.skipped → r q ≤ r c.if-place-skipped.latest) = elim c.if-place-skipped.branch [
      | then-place-skipped w ↦ (
          let next = later_step r (λ k. k ≢ c.args.skipped) (length c.args.lits.now) c.loop-place.place c.loop-place.latest w.later-latest.result kept.within kept.other lt w.if-place-skipped.true w.later-latest.ensures.one w.later-latest.ensures.first w.later-latest.ensures.second kept.latest in
          subst (λ (n : ℕ). (n < length c.args.lits.now) × (n ≢ c.args.skipped) × ((q : ℕ) → q < c.loop-place.place + 1 → q ≢ c.args.skipped → r q ≤ r n)) (sym w.latest-is) next)
      | else-place-skipped w ↦ (
          let same = skip_step r (λ k. k ≢ c.args.skipped) c.loop-place.place c.loop-place.latest (λ d. d w.if-place-skipped.false) kept.latest in
          subst (λ (n : ℕ). (n < length c.args.lits.now) × (n ≢ c.args.skipped) × ((q : ℕ) → q < c.loop-place.place + 1 → q ≢ c.args.skipped → r q ≤ r n)) (sym w.latest-is) (kept.within, kept.other, same))
    ] in
    record { within = both.0; other = both.1; latest = both.2 }
