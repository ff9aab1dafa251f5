use Rattle.std.proofs.Common.{◌≡◌, map, take}
use Rattle.kn_extract.specs.Taking.{previous}
use Rattle.kn_extract.proofs.taking.places.Given as goal

abbrev pub invariant-loop-id : goal.invariant-loop-id
invariant-loop-id l = l.places.items ≡ map previous (take l.id-index l.ids)
