use Rattle.std.proofs.Common.{◌+◌, ◌-◌, ◌∙◌, ℕ, length, refl, sym, ap, arith}
use Rattle.std.proofs.lemmas.Bool.{ltb-true}
use Rattle.kn_guess.specs.Tables.{rank}
use Rattle.kn_guess.proofs.Meets.{below-at, here-end}
use Rattle.kn_guess.proofs.meeting.advance.Goals as goal

pub loop-step-preserved : goal.loop-step-preserved
loop-step-preserved c =
    let place : ℕ = c.loop-step.low + c.loop-step.step - 1 in
    let test = c.loop-step-test.true in
    let within = c.loop-step.invariant.within in
    let some = c.loop-step.invariant.some in
    let start = c.loop-step.invariant.start in
    let lit = ap rank c.lit.ensures in
    let low = ltb-true (rank c.lit.result) (rank c.args.lit) (sym c.is_before.ensures ∙ c.if-not-is_before.false) in
    record {
      start = omega (arith, start, some);
      within = omega (arith, test, within, some);
      some = omega (arith);
      before = below-at c.args.ys.now c.args.lit place (place + 1) c.index-ys-place.result c.requires.ys (omega (arith, test, within, some)) c.index-ys-place.is (omega (arith, lit, low)) refl;
    }

pub halved-requires-2-clause-here : goal.halved-requires-2-clause-here
halved-requires-2-clause-here c = here-end c.args.ys.now c.args.lit (length c.args.ys.now) refl
