use Rattle.std.proofs.Common.{◌≡◌, Some, refl, subst, ◌∙◌}
use Rattle.std.specs.List.{slice_get}
use Rattle.std.proofs.lemmas.List.Elements.{All-from_recursion}
use Rattle.kn_watch.specs.Trails.{Trailed}
use Rattle.kn_propagate.specs.Engines.{IsNoReason}
use Rattle.kn_search.proofs.Forgotten.{removed-next}
use Rattle.kn_search.proofs.forgetting.remove_all.Goals as goal

pub remove-requires : goal.remove-requires
remove-requires g c =
    let free = All-from_recursion (IsNoReason c.args.engine.now.trail.made) c.args.ids.now c.requires c.loop-id.id-index 0 c.loop-id-test.true in
    record { free = λ p m at is. free p m (subst (λ (t : Trailed). slice_get t.made p ≡ Some m) c.loop-id.invariant.trail at) is }

pub loop-id-preserved : goal.loop-id-preserved
loop-id-preserved g c = record {
  trail = c.remove.ensures.trail ∙ c.loop-id.invariant.trail;
  live = removed-next c.args.engine.now.live c.loop-id.engine.live c.remove.new.self.live c.args.ids.now c.loop-id.id-index _ c.loop-id-test.true refl c.loop-id.invariant.live c.remove.ensures.live;
}
