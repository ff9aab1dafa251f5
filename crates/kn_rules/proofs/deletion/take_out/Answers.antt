use Rattle.std.proofs.Common.{◌≡◌, length, refl, sym, subst, arith, rules}
use Rattle.kn_rules.specs.Restoring.{restored}
use Rattle.kn_rules.proofs.Deleting.{taken-back, taken-rest}
use Rattle.kn_rules.proofs.deletion.take_out.Goals as goal

pub loop-id-preserved : goal.loop-id-preserved
loop-id-preserved c =
    let len : length c.loop-id.taken.items ≡ c.loop-id.id-index = search rules in
    record {
      count = omega (arith, c.in-Ok.ensures.len);
      room = search rules;
      rest = taken-rest c.loop-id.slots _ c.args.ids.now c.loop-id.id-index _ c.in-Some.slot _ c.loop-id.invariant.rest c.loop-id-test.true refl (sym c.in-Some.ensures.value) c.in-Some.ensures.some;
      back = subst (λ x. restored c.take.new.slots c.args.ids.now x ≡ c.args.slots.now) (sym c.in-Ok.ensures.items) (taken-back c.loop-id.slots _ _ c.args.ids.now c.loop-id.id-index _ c.loop-id.taken.items c.in-Some.slot c.loop-id.invariant.back len c.loop-id-test.true refl (sym c.in-Some.ensures.value) c.in-Some.ensures.some);
    }
