use Rattle.std.proofs.Common.{◌≡◌, ◌+◌, sym, ap, subst, arith}
use Rattle.kn_logic.specs.Literals.{Literal, AreKnown, AreDifferent}
use Rattle.kn_counter.proofs.Numbered.{known-push, different-push}
use Rattle.kn_counter.proofs.tests.numbered.Goals as goal

pub loop-place-preserved : goal.loop-place-preserved
loop-place-preserved c =
    let number : c.new.result.variable ≡ c.loop-place.place + 1 = ap (λ (l : Literal). l.variable) c.new.ensures in
    let known = known-push c.loop-place.place c.loop-place.lits.items c.new.result c.loop-place.invariant.0 (omega (arith, number), omega (arith, number)) in
    let different = different-push c.loop-place.place c.loop-place.lits.items c.new.result c.loop-place.invariant.0 c.loop-place.invariant.1 (omega (arith, number)) in
    (subst (AreKnown (c.loop-place.place + 1)) (sym c.in_ok-push.ensures.items) known, subst AreDifferent (sym c.in_ok-push.ensures.items) different)
