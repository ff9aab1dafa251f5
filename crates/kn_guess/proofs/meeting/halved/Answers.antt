use Rattle.std.proofs.Common.{◌+◌, ◌-◌, ◌/◌, ◌∙◌, ℕ, refl, sym, ap, arith}
use Rattle.std.proofs.lemmas.Bool.{ltb-true, ltb-false}
use Rattle.kn_guess.specs.Tables.{rank}
use Rattle.kn_guess.proofs.Meets.{below-at, here-at}
use Rattle.kn_guess.proofs.meeting.halved.Goals as goal

pub loop-low-preserved-then-is_before : goal.loop-low-preserved-then-is_before
loop-low-preserved-then-is_before c =
    let middle : ℕ = c.loop-low.low + (c.loop-low.high - c.loop-low.low) / 2 in
    let test = c.loop-low-test.true in
    let within = c.loop-low.invariant.within in
    let lit = ap rank c.lit.ensures in
    let low = ltb-true (rank c.lit.result) (rank c.args.lit) (sym c.is_before.ensures ∙ c.if-is_before.true) in
    record {
      order = omega (arith, test);
      within = within;
      before = below-at c.args.ys.now c.args.lit middle (middle + 1) c.index-ys-middle.result c.requires.ys (omega (arith, test, within)) c.index-ys-middle.is (omega (arith, lit, low)) refl;
      here = c.loop-low.invariant.here;
    }

pub loop-low-preserved : goal.loop-low-preserved
loop-low-preserved c =
    let middle : ℕ = c.loop-low.low + (c.loop-low.high - c.loop-low.low) / 2 in
    let test = c.loop-low-test.true in
    let within = c.loop-low.invariant.within in
    let lit = ap rank c.lit.ensures in
    let high = ltb-false (rank c.lit.result) (rank c.args.lit) (sym c.is_before.ensures ∙ c.if-is_before.false) in
    record {
      order = omega (arith, test);
      within = omega (arith, test, within);
      before = c.loop-low.invariant.before;
      here = here-at c.args.ys.now c.args.lit middle middle c.index-ys-middle.result (omega (arith, test, within)) c.index-ys-middle.is (omega (arith, lit, high)) refl;
    }
