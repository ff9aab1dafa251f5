use Rattle.std.proofs.Common.{◌≡◌, ◌∷◌, Some, rules}
use Rattle.std.specs.List.{slice_get}
use Rattle.kn_rules.proofs.DemandLemmas.{demand-goes-on, demand-fails}
use Rattle.kn_rules.proofs.grid.behind.Goals as goal

pub returns-then-not-branch : goal.returns-then-not-branch
returns-then-not-branch c =
    let there : slice_get c.args.level.now c.loop-place.place ≡ Some (c.in-Some.variable, c.in-Some.count) = search rules in
    demand-fails _ (c.args.lit ∷ c.args.rest.now) c.args.level.now c.loop-place.place _ _ _ _ _ there c.if-not-branch.true c.in_ok-add_arms.ensures c.loop-place.invariant

pub loop-place-preserved : goal.loop-place-preserved
loop-place-preserved c =
    let there : slice_get c.args.level.now c.loop-place.place ≡ Some (c.in-Some.variable, c.in-Some.count) = search rules in
    demand-goes-on _ (c.args.lit ∷ c.args.rest.now) c.args.level.now c.loop-place.place _ _ _ _ _ there c.if-not-branch.false c.in_ok-add_arms.ensures c.loop-place.invariant
