use Rattle.std.proofs.Common.{◌≡◌, drop}
use Rattle.kn_guess.specs.Gathering.{with_ids, outside_key}
use Rattle.kn_guess.proofs.gathering.add_ids.Given as goal

abbrev pub invariant-loop-id : goal.invariant-loop-id
invariant-loop-id l = with_ids l.limit (outside_key l.outside.set.now l.outside.positive) l.store.live l.set (drop l.id-index l.ids) ≡ with_ids l.limit (outside_key l.outside.set.now l.outside.positive) l.store.live l.fn.set l.ids
