use Rattle.kn_learn.proofs.Needing.{needed-for-next, needed-all, grows-join, left-as}
use Rattle.kn_learn.proofs.seeing.see_all.Goals as goal

pub loop-lit-preserved : goal.loop-lit-preserved
loop-lit-preserved c =
    let grown = c.loop-lit.invariant.grows in
    record {
      walking = λ live p left w le behind.
          c.in_ok-see_false.ensures.walking live p left (c.loop-lit.invariant.walking live p left w le behind) le (left-as c.args.a.now.walk c.loop-lit.a.walk c.args.before left grown.explained behind);
      needed = needed-for-next c.args.trail.now.made c.loop-lit.a.walk.marks c.see_false.new.a.walk.marks c.args.before c.args.lits.now c.loop-lit.lit-index c.lit-item.result c.loop-lit-test.true c.lit-item.is
          c.in_ok-see_false.ensures.grows.stays c.in_ok-see_false.ensures.needed c.loop-lit.invariant.needed;
      grows = grows-join c.args.before c.args.a.now.walk c.loop-lit.a.walk c.see_false.new.a.walk grown c.in_ok-see_false.ensures.grows;
    }

pub returns-clause-needed : goal.returns-clause-needed
returns-clause-needed c = λ d is.
    needed-all c.args.trail.now.made c.loop-lit.a.walk.marks c.args.before d c.args.lits.now c.loop-lit.lit-index is c.loop-lit-test.false c.loop-lit.invariant.needed
