use Rattle.kn_rules.proofs.MarkLemmas.{marked-unmarked}
use Rattle.kn_rules.proofs.assumed.unmark_all.Goals as goal

pub loop-lit-init : goal.loop-lit-init
loop-lit-init c = marked-unmarked c.args.marks.now c.args.lits.now c.requires
