use Rattle.std.proofs.Common.{◌-◌}
use Rattle.kn_store.specs.Stores.{constraints_of}
use Rattle.kn_guess.specs.Deep.{AreReached}
use Rattle.kn_guess.specs.Tables.{AreDeep}
use Rattle.kn_guess.proofs.deep.deep.Given as goal

abbrev pub invariant-loop-behind : goal.invariant-loop-behind
invariant-loop-behind l = record {
  deep : AreDeep (constraints_of l.store.live) l.deep;
  reached : AreReached l.store (l.store.vars - l.behind) l.best.items;
}
