use Rattle.std.proofs.Common.{◌+◌, ◌-◌, ◌∙◌, sym, ap, subst, arith}
use Rattle.kn_logic.specs.Literals.{IsKnown, AreKnown}
use Rattle.kn_logic.specs.Formulas.{Problem}
use Rattle.kn_counter.specs.Rows.{carried_at}
use Rattle.kn_counter.proofs.Adding.{flat_step}
use Rattle.kn_counter.proofs.rows.push_carried.Goals as goal

pub loop-j-preserved : goal.loop-j-preserved
loop-j-preserved c =
    let same = ap (λ (f : Problem). f.vars) c.in_ok-push_step.ensures in
    record {
      whole = flat_step c.args.front.now (carried_at c.args.above.start c.args.above.k c.args.x) c.loop-j.out _ c.loop-j.j (c.args.above.k + 1 - c.loop-j.j) (c.args.above.k + 1 - (c.loop-j.j + 1)) (omega (arith, c.loop-j-test.true)) (omega arith) c.in_ok-push_step.ensures ∙ c.loop-j.invariant.whole;
      front = subst (λ vars. AreKnown vars c.args.front.now) (sym same) c.loop-j.invariant.front;
      x = subst (λ vars. IsKnown vars c.args.x) (sym same) c.loop-j.invariant.x;
      vars = same ∙ c.loop-j.invariant.vars;
    }
