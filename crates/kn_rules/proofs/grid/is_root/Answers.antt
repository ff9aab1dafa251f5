use Rattle.kn_rules.proofs.DemandLemmas.{none-left, root-alone}
use Rattle.kn_rules.proofs.grid.is_root.Goals as goal

pub loop-lit-init : goal.loop-lit-init
loop-lit-init c = root-alone _ c.args.lits.now _ _ c.args.bound c.args.root c.new-level.ensures c.in_ok-add.ensures.added

pub returns : goal.returns
returns c = none-left _ _ _ _ _ c.len.ensures c.in_default.ensures.cases c.loop-lit.invariant
