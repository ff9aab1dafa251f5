use Rattle.std.proofs.Common.{◌≡◌, ◌+◌, ◌++◌, ◌∷◌, [], ℕ, List, take, get_or, refl, sym, ap, ◌∙◌, subst, arith}
use Rattle.std.proofs.lemmas.Grind.{get_or_default_zero}
use Rattle.kn_learn.specs.declared.analysis.Walk.{Walk}
use Rattle.kn_learn.specs.Marking.{mark_at, is_needed}
use Rattle.kn_learn.specs.Analyses.{IsRested, IsRemovable, IsWalking}
use Rattle.kn_learn.proofs.Lists.{all-at, below-taken}
use Rattle.kn_learn.proofs.Places.{at-length}
use Rattle.kn_learn.proofs.Coming.{rested-by, not-removable}
use Rattle.kn_learn.proofs.Swept.{walking-skipped, walking-swept, removable-lower, removed-below, same-lowest}
use Rattle.kn_learn.proofs.sweeping.sweep_at.Goals as goal

pub returns-then-not-is_needed-clause-walking : goal.returns-then-not-is_needed-clause-walking
returns-then-not-is_needed-clause-walking g c =
    let engine = c.args.engine.now in
    let old = c.args.a.now.walk in
    let es = old.explained.items in
    let place : ℕ = c.index-place.result.now in
    let here : place ≡ get_or es c.args.at 0 = c.index-place.ensures ∙ get_or_default_zero es c.args.at place c.requires.at in
    walking-skipped engine.trail engine.live old.lowest es c.args.at old c.requires.at
    (ap (λ (n : ℕ). is_needed (mark_at old.marks n)) (sym here) ∙ ap is_needed (sym c.at.ensures) ∙ sym c.is_needed.ensures ∙ c.if-not-is_needed.true) c.requires.walking

pub unreachable-requires : goal.unreachable-requires
unreachable-requires g c =
    let engine = c.args.engine.now in
    let es = c.args.a.now.walk.explained.items in
    let place : ℕ = c.index-place.result.now in
    let here : place ≡ get_or es c.args.at 0 = c.index-place.ensures ∙ get_or_default_zero es c.args.at place c.requires.at in
    not-removable engine.trail c.trail.result.now place c.reason_at.result c.trail.ensures.value
    (subst (IsRemovable engine.trail) (sym here) (all-at (IsRemovable engine.trail) es c.args.at 0 c.requires.removable c.requires.at)) c.reason_at.ensures c.in_default.not-Some

pub returns-clause-same : goal.returns-clause-same
returns-clause-same g c = c.in_ok-see_reasons.ensures.grows.explained

pub returns-clause-stays : goal.returns-clause-stays
returns-clause-stays g c = c.in_ok-see_reasons.ensures.grows.stays

pub returns-clause-walking : goal.returns-clause-walking
returns-clause-walking g c =
    let engine = c.args.engine.now in
    let old = c.args.a.now.walk in
    let walk = c.see_reasons.new.a.walk in
    let es = old.explained.items in
    let place : ℕ = c.index-place.result.now in
    let here : place ≡ get_or es c.args.at 0 = c.index-place.ensures ∙ get_or_default_zero es c.args.at place c.requires.at in
    let rising = c.trail.ensures.kept.rising in
    let removable = subst (IsRemovable engine.trail) (sym here) (all-at (IsRemovable engine.trail) es c.args.at 0 c.requires.removable c.requires.at) in
    let lower = removable-lower engine.trail place removable in
    let (m, at, less) = lower in
    let below = removed-below engine.trail old.lowest place rising c.requires.walking.low lower in
    let walking = c.in_ok-see_reasons.ensures.walking old.lowest (take (c.args.at + 1) es) c.requires.walking (omega (arith, below))
    (λ q lt k. below-taken es c.args.at q c.requires.order c.requires.at (omega (arith, lt, here)) k) in
    let low = same-lowest engine.trail place old walk rising c.in_ok-see_reasons.ensures.grows walking.low lower in
    let rested = rested-by engine.trail c.trail.result.now engine.live walk.marks place c.in-Some.id c.reason_at.result c.trail.ensures.value (at-length engine.trail.made place m at) c.reason_at.ensures c.in-Some.is c.in_ok-see_reasons.ensures.needed in
    let same = c.in_ok-see_reasons.ensures.grows.explained in
    let new : Walk = record { marks = walk.marks; kept = walk.kept; derived = c.push.new.self; explained = walk.explained; lowest = walk.lowest } in
    let swept = walking-swept engine.trail engine.live old.lowest es c.args.at walk new c.requires.at refl refl
    (c.in_ok-push.ensures.items ∙ ap (λ (n : ℕ). walk.derived.items ++ n ∷ []) here) refl refl (subst (IsRested engine.live engine.trail.made walk.marks) here rested) walking in
    subst (λ (xs : List ℕ). IsWalking engine.trail engine.live walk.lowest (take c.args.at xs) new) (sym same)
    (subst (λ (p : ℕ). IsWalking engine.trail engine.live p (take c.args.at es) new) (sym low) swept)
