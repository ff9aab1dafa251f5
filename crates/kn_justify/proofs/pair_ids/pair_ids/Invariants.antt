use Rattle.std.specs.Prelude.{take}
use Rattle.kn_justify.specs.PairIds.{AreNoted}
use Rattle.kn_justify.proofs.pair_ids.pair_ids.Given as goal

abbrev pub invariant-loop-id : goal.invariant-loop-id
invariant-loop-id l = AreNoted l.log.state (take l.id-index l.ids) l.pairs
