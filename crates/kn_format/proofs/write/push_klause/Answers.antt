use Rattle.kn_format.proofs.Written.{klause_written}
use Rattle.kn_format.proofs.write.push_klause.Goals as goal

pub returns : goal.returns
returns c = klause_written _ _ _ _ _ _ _ _ _ c.guard.ensures c.bound.ensures c.lits.ensures c.in_ok-push_mark.ensures c.in_ok-push_list.ensures
