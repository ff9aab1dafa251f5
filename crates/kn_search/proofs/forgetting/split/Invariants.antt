use Rattle.std.proofs.Common.{take}
use Rattle.kn_search.specs.Searches.{IsSplit}
use Rattle.kn_search.proofs.forgetting.split.Given as goal

abbrev pub invariant-loop-id : goal.invariant-loop-id
invariant-loop-id g l = IsSplit l.engine.trail.made (take l.id-index l.ids) l.parts.out.items l.parts.rest.items
