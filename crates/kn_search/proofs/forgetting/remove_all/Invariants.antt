use Rattle.std.proofs.Common.{◌≡◌, take}
use Rattle.kn_search.specs.Searches.{removed_all}
use Rattle.kn_search.proofs.forgetting.remove_all.Given as goal

abbrev pub invariant-loop-id : goal.invariant-loop-id
invariant-loop-id g l = record {
  trail : l.engine.trail ≡ l.fn.engine.trail;
  live : l.engine.live ≡ removed_all (take l.id-index l.ids) l.fn.engine.live;
}
