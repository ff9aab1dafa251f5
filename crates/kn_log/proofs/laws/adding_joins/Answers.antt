use Rattle.kn_log.proofs.Added.{Adds-none, Adds-one, Adds-join}
use Rattle.kn_log.proofs.laws.adding_joins.Goals as goal

pub returns : goal.returns
returns c = record { none = Adds-none; one = Adds-one; more = Adds-join }
