use Rattle.std.proofs.Common.{◌≡◌, ℕ, Option, Some, None, refl, ap, ◌∙◌, subst, arith}
use Rattle.std.specs.Prelude.{nat_eq}
use Rattle.indexmap.specs.IndexMap.{get}
use Rattle.kn_watch.specs.declared.trail.Made.{Made}
use Rattle.kn_propagate.specs.declared.step.Step.{Step}
use Rattle.kn_propagate.specs.declared.step.Step.TheVariants.{Closed}
use Rattle.kn_propagate.specs.Engines.{Engined}
use Rattle.kn_propagate.specs.Chains.{seen_as, held_bounded, held_watches}
use Rattle.kn_propagate.specs.Wholes.{IsWhole}
use Rattle.kn_propagate.proofs.Walks.{made_few}
use Rattle.kn_propagate.proofs.Founding.{levels_few}
use Rattle.kn_propagate.proofs.Levels.{whole_assume}
use Rattle.kn_propagate.proofs.Handing.{engine_is}
use Rattle.kn_propagate.proofs.engine.Engine.assume.Goals as goal

pub raise-requires : goal.raise-requires
raise-requires g c =
    let w = c.self.invariant.tabled in
    let a = levels_few c.self.inside.trail w.fresh.trail w.begun in
    let b = made_few c.self.inside.trail w.fresh.trail in
    omega (arith, a, b, w.small)

pub invariant_of-self : goal.invariant_of-self
invariant_of-self g c =
    let m : Made = record { lit = c.args.lit; level = c.raise.new.self.level; reason = None } in
    let ws = seen_as (held_bounded g.C.Watched.bounded g.K.Watched.bounded) (held_watches g.C.Watched.watches g.K.Watched.watches) c.self.inside.slots.items in
    let find : ℕ → Option ℕ = get nat_eq c.self.inside.index in
    let last : c.self.inside.last ≡ Some Closed = ap (λ (x : Engined). x.last) c.self.view_is ∙ c.requires.closed in
    let whole = whole_assume c.self.inside.trail c.raise.new.self c.push.new.self m ws c.self.inside.chains c.self.inside.visited c.self.inside.pending.items find (subst (λ (x : Option Step). IsWhole c.self.inside.trail ws c.self.inside.chains c.self.inside.visited x c.self.inside.pending.items find) last c.self.invariant) c.raise.ensures c.push.ensures.made refl refl c.push.ensures.kept in
    whole

pub returns-clause-kept : goal.returns-clause-kept
returns-clause-kept g c =
    let m : Made = record { lit = c.args.lit; level = c.raise.new.self.level; reason = None } in
    let ws = seen_as (held_bounded g.C.Watched.bounded g.K.Watched.bounded) (held_watches g.C.Watched.watches g.K.Watched.watches) c.self.inside.slots.items in
    let find : ℕ → Option ℕ = get nat_eq c.self.inside.index in
    let last : c.self.inside.last ≡ Some Closed = ap (λ (x : Engined). x.last) c.self.view_is ∙ c.requires.closed in
    let whole = whole_assume c.self.inside.trail c.raise.new.self c.push.new.self m ws c.self.inside.chains c.self.inside.visited c.self.inside.pending.items find (subst (λ (x : Option Step). IsWhole c.self.inside.trail ws c.self.inside.chains c.self.inside.visited x c.self.inside.pending.items find) last c.self.invariant) c.raise.ensures c.push.ensures.made refl refl c.push.ensures.kept in
    engine_is c.push.new.self ws c.self.inside.chains c.self.inside.visited None c.self.inside.pending.items find whole
