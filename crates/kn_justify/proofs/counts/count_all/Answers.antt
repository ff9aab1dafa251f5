use Rattle.std.proofs.Common.{refl}
use Rattle.kn_justify.proofs.GrowthLemmas.{such-grows}
use Rattle.kn_justify.proofs.PairCountLemmas.{all-counted}
use Rattle.kn_justify.proofs.counts.count_all.Goals as goal

pub returns-clause-counted : goal.returns-clause-counted
returns-clause-counted g c = λ lits h.
    all-counted c.args.log.now.state c.define.new.log.state c.args.l lits c.args.all.now _ c.in_ok-name.name
    (such-grows c.args.log.now c.define.new.log _ _ c.define.result c.define.ensures.lines) c.in_ok-name.ensures.defined refl c.in_ok-push.ensures h
