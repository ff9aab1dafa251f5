use Rattle.kn_watch.specs.Quiet.{quiet_law}
use Rattle.kn_watch.proofs.Settled.{settled_quiet, settled_back_quiet}
use Rattle.kn_watch.proofs.TrailKeeps.{consistent_of, consistent_below}
use Rattle.kn_watch.proofs.laws.settled_is_quiet.Goals as goal

pub returns-clause-now : goal.returns-clause-now
returns-clause-now g c w t k s short = settled_quiet t.made (g.W.Watched.bounded w) (g.W.Watched.watches w) (consistent_of t k) s short

pub returns-clause-back : goal.returns-clause-back
returns-clause-back g c w t level k broad has s short =
    settled_back_quiet t.made (g.W.Watched.bounded w) (g.W.Watched.watches w) level (quiet_law (g.W.Watched.bounded w) (g.W.Watched.watches w)) broad has (consistent_below t level k) s short
