use Rattle.std.proofs.Common.{◌≡◌, ◌≤◌, ◌<◌, ◌+◌, ℕ, false, length, sym, subst, arith}
use Rattle.kn_watch.specs.Trails.{literals}
use Rattle.kn_watch.specs.Watches.{lit_at}
use Rattle.kn_kinds.specs.Latest.{rank}
use Rattle.kn_kinds.specs.Kinds.{marked_place}
use Rattle.kn_kinds.proofs.Ranks.{later_step, skip_step}
use Rattle.kn_kinds.proofs.marks.latest_unmarked.Goals as goal
use Rattle.kn_kinds.proofs.marks.latest_unmarked.Goals.{then-not-marks-place, else-not-marks-place}

pub loop-place-preserved : goal.loop-place-preserved
loop-place-preserved c =
    let r : ℕ → ℕ = λ k. rank (literals c.args.trail.now.made) (lit_at c.args.lits.now k) in
    let kept = c.loop-place.invariant in
    let lt : c.loop-place.place < length c.args.lits.now = omega (arith, c.loop-place-test.true) in
    let both : (c.if-not-marks-place.latest < length c.args.lits.now) × (marked_place c.args.marks.now c.if-not-marks-place.latest ≡ false) × ((q : ℕ) → q < c.loop-place.place + 1 → marked_place c.args.marks.now q ≡ false → r q ≤ r c.if-not-marks-place.latest) = elim c.if-not-marks-place.branch [
      | then-not-marks-place w ↦ (
          let next = later_step r (λ k. marked_place c.args.marks.now k ≡ false) (length c.args.lits.now) c.loop-place.place c.loop-place.latest w.later-latest.result kept.within kept.unmarked lt w.if-not-marks-place.true w.later-latest.ensures.one w.later-latest.ensures.first w.later-latest.ensures.second kept.latest in
          subst (λ (n : ℕ). (n < length c.args.lits.now) × (marked_place c.args.marks.now n ≡ false) × ((q : ℕ) → q < c.loop-place.place + 1 → marked_place c.args.marks.now q ≡ false → r q ≤ r n)) (sym w.latest-is) next)
      | else-not-marks-place w ↦ (
          let same = skip_step r (λ k. marked_place c.args.marks.now k ≡ false) c.loop-place.place c.loop-place.latest (λ e. (let m = w.if-not-marks-place.false in absurd cc)) kept.latest in
          subst (λ (n : ℕ). (n < length c.args.lits.now) × (marked_place c.args.marks.now n ≡ false) × ((q : ℕ) → q < c.loop-place.place + 1 → marked_place c.args.marks.now q ≡ false → r q ≤ r n)) (sym w.latest-is) (kept.within, kept.unmarked, same))
    ] in
    record { within = both.0; unmarked = both.1; latest = both.2 }
