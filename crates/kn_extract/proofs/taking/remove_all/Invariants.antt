use Rattle.std.proofs.Common.{◌≡◌, take}
use Rattle.kn_extract.specs.Taking.{without}
use Rattle.kn_extract.proofs.taking.remove_all.Given as goal

abbrev pub invariant-loop-id : goal.invariant-loop-id
invariant-loop-id l = l.store ≡ record l.fn.store { live = without (take l.id-index l.ids) l.fn.store.live }
