use Rattle.std.proofs.Common.{◌≡◌, ℕ, length, take, refl, sym, subst, arith}
use Rattle.kn_learn.specs.Analyses.{IsRemovable, IsWalking}
use Rattle.kn_learn.proofs.Lists.{all-permuted}
use Rattle.kn_learn.proofs.Swept.{walking-sorted}
use Rattle.kn_learn.proofs.sweeping.sweep.Goals as goal

pub loop-count-init : goal.loop-count-init
loop-count-init g c =
    let engine = c.args.engine.now in
    let old = c.args.a.now.walk in
    let sorted = c.put_in_order.new.places in
    let count : c.len-count.result ≡ length sorted.items = omega (arith, c.len-count.ensures) in
    record {
      walking = subst (λ (n : ℕ). IsWalking engine.trail engine.live old.lowest (take n sorted.items) (record { marks = old.marks; kept = old.kept; derived = old.derived; explained = sorted; lowest = old.lowest })) (sym count)
          (walking-sorted engine.trail engine.live old (record { marks = old.marks; kept = old.kept; derived = old.derived; explained = sorted; lowest = old.lowest }) refl refl refl c.put_in_order.ensures.permutation refl c.requires.walking);
      order = c.put_in_order.ensures.order;
      removable = all-permuted (IsRemovable engine.trail) old.explained.items sorted.items c.put_in_order.ensures.permutation c.requires.removable;
      within = omega (arith, count);
      stays = λ q h. h;
    }
