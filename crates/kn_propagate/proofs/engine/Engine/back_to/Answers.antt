use Rattle.std.proofs.Common.{◌∙◌, ◌≡◌, ◌≤◌, ℕ, min, Option, length, sym, ap, subst}
use Rattle.std.specs.Prelude.{nat_eq}
use Rattle.indexmap.specs.IndexMap.{get}
use Rattle.kn_watch.specs.Trails.{Trailed}
use Rattle.kn_propagate.specs.declared.step.Step.{Step}
use Rattle.kn_propagate.specs.Engines.{Engined}
use Rattle.kn_propagate.specs.Chains.{seen_as, held_bounded, held_watches}
use Rattle.kn_propagate.specs.Wholes.{IsWhole}
use Rattle.kn_propagate.proofs.Levels.{whole_back}
use Rattle.kn_propagate.proofs.Handing.{engine_is}
use Rattle.kn_propagate.proofs.engine.Engine.back_to.Goals as goal

pub invariant_of-self : goal.invariant_of-self
invariant_of-self g c =
    let same : c.self.inside.trail ≡ c.args.self.now.trail = ap (λ (x : Engined). x.trail) c.self.view_is in
    let le : c.args.level ≤ c.self.inside.trail.level = subst (λ (x : Trailed). c.args.level ≤ x.level) (sym same) c.requires in
    let now : c.min-self-inside.result ≡ min c.self.inside.visited (length c.back_to.new.self.made) = c.min-self-inside.ensures ∙ ap (min c.self.inside.visited) c.len.ensures.value in
    let ws = seen_as (held_bounded g.C.Watched.bounded g.K.Watched.bounded) (held_watches g.C.Watched.watches g.K.Watched.watches) c.self.inside.slots.items in
    let find : ℕ → Option ℕ = get nat_eq c.self.inside.index in
    let back = whole_back c.self.inside.trail c.back_to.new.self ws c.self.inside.chains c.self.inside.visited c.min-self-inside.result c.args.level c.self.inside.last c.self.inside.pending.items find c.self.invariant le c.back_to.ensures.made c.back_to.ensures.front c.back_to.ensures.kept now in
    let whole : IsWhole c.back_to.new.self ws c.self.inside.chains c.min-self-inside.result c.closed_only-self-inside.result c.self.inside.pending.items find = subst (λ (x : Option Step). IsWhole c.back_to.new.self ws c.self.inside.chains c.min-self-inside.result x c.self.inside.pending.items find) (sym c.closed_only-self-inside.ensures) back in
    whole

pub returns-clause-kept : goal.returns-clause-kept
returns-clause-kept g c =
    let same : c.self.inside.trail ≡ c.args.self.now.trail = ap (λ (x : Engined). x.trail) c.self.view_is in
    let le : c.args.level ≤ c.self.inside.trail.level = subst (λ (x : Trailed). c.args.level ≤ x.level) (sym same) c.requires in
    let now : c.min-self-inside.result ≡ min c.self.inside.visited (length c.back_to.new.self.made) = c.min-self-inside.ensures ∙ ap (min c.self.inside.visited) c.len.ensures.value in
    let ws = seen_as (held_bounded g.C.Watched.bounded g.K.Watched.bounded) (held_watches g.C.Watched.watches g.K.Watched.watches) c.self.inside.slots.items in
    let find : ℕ → Option ℕ = get nat_eq c.self.inside.index in
    let back = whole_back c.self.inside.trail c.back_to.new.self ws c.self.inside.chains c.self.inside.visited c.min-self-inside.result c.args.level c.self.inside.last c.self.inside.pending.items find c.self.invariant le c.back_to.ensures.made c.back_to.ensures.front c.back_to.ensures.kept now in
    let whole : IsWhole c.back_to.new.self ws c.self.inside.chains c.min-self-inside.result c.closed_only-self-inside.result c.self.inside.pending.items find = subst (λ (x : Option Step). IsWhole c.back_to.new.self ws c.self.inside.chains c.min-self-inside.result x c.self.inside.pending.items find) (sym c.closed_only-self-inside.ensures) back in
    engine_is c.back_to.new.self ws c.self.inside.chains c.min-self-inside.result c.closed_only-self-inside.result c.self.inside.pending.items find whole
