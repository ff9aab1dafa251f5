use Rattle.kn_rules.proofs.MarkLemmas.{marks-more}
use Rattle.kn_rules.proofs.assumed.mark_all.Goals as goal

pub loop-lit-preserved : goal.loop-lit-preserved
loop-lit-preserved c = λ before m.
    marks-more c.loop-lit.marks _ before c.args.lits.now c.loop-lit.lit-index _ c.lit-item.result (c.loop-lit.invariant before m) c.mark_one.ensures c.loop-lit-test.true c.lit-item.is c.requires c.loop-lit.auto.marks
