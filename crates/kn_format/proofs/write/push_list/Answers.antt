use Rattle.kn_format.proofs.Written.{list_written}
use Rattle.kn_format.proofs.write.push_list.Goals as goal

pub returns : goal.returns
returns c = list_written _ _ _ _ c.in_ok-push_literals.ensures c.in_ok-extend_from_slice.ensures.items
