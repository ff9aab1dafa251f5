use Rattle.std.proofs.Common.{◌≡◌, ◌<◌, ◌∷◌, ℕ, List, length, sym, ap, ◌∙◌, subst}
use Rattle.std.specs.List.{AllByRecursion}
use Rattle.kn_watch.specs.Trails.{Trailed}
use Rattle.kn_learn.specs.Lessons.{IsLesson}
use Rattle.kn_learn.specs.Reasons.{negations_at, hints_of}
use Rattle.kn_learn.specs.Analyses.{IsLower, AreWithin, IsReached, rest_of}
use Rattle.kn_learn.proofs.Lists.{all-permuted}
use Rattle.kn_learn.proofs.Taught.{said-as, rest-lower, rested-within, lesson-of, lesson-as, conflict-of}
use Rattle.kn_learn.proofs.learning.conclude.Goals as goal

pub negations-requires-clause-rest : goal.negations-requires-clause-rest
negations-requires-clause-rest g c =
    let walk = c.args.a.now.walk in
    said-as (λ t ps. AllByRecursion (IsLower t) ps) c.args.engine.now.trail c.trail-trail.result.now (rest_of walk.marks walk.kept.items) c.deref.result.now
    (sym c.trail-trail.ensures.value) (sym (c.deref.ensures.value ∙ c.in_ok-choose.ensures)) (rest-lower c.args.engine.now.trail walk c.requires.walking.lower)

pub highest-level-requires-clause-rest : goal.highest-level-requires-clause-rest
highest-level-requires-clause-rest g c =
    let walk = c.args.a.now.walk in
    said-as (λ t ps. AllByRecursion (IsLower t) ps) c.args.engine.now.trail c.trail-trail.result.now (rest_of walk.marks walk.kept.items) c.deref-2.result.now
    (sym c.trail-trail.ensures.value) (sym (c.deref-2.ensures.value ∙ c.in_ok-choose.ensures)) (rest-lower c.args.engine.now.trail walk c.requires.walking.lower)

pub hints-requires : goal.hints-requires
hints-requires g c =
    let walk = c.args.a.now.walk in
    let engine = c.args.engine.now in
    let sorted = c.put_in_order.new.places.items in
    said-as (λ t ps. AllByRecursion (λ p. p < length t.made) ps) engine.trail c.trail-trail.result.now sorted c.deref-3.result.now (sym c.trail-trail.ensures.value) (sym c.deref-3.ensures.value)
    (all-permuted (λ p. p < length engine.trail.made) walk.derived.items sorted c.put_in_order.ensures.permutation (rested-within engine.live engine.trail.made walk.marks walk.derived.items c.requires.walking.rested))

pub note_reasons-requires : goal.note_reasons-requires
note_reasons-requires g c =
    let walk = c.args.a.now.walk in
    subst (AllByRecursion (IsLower c.args.engine.now.trail)) (sym (c.deref-4.ensures.value ∙ c.in_ok-choose.ensures)) (rest-lower c.args.engine.now.trail walk c.requires.walking.lower)

pub returns : goal.returns
returns g c =
    let engine = c.args.engine.now in
    let read = c.trail-trail.result.now in
    let same = c.trail-trail.ensures.value in
    let walk = c.args.a.now.walk in
    let rest = rest_of walk.marks walk.kept.items in
    let sorted = c.put_in_order.new.places.items in
    let level : ℕ = c.highest-level.result in
    let rested : c.deref-2.result.now ≡ rest = c.deref-2.ensures.value ∙ c.in_ok-choose.ensures in
    let lits = c.in_ok-lits.ensures
    ∙ ap (λ (ps : List ℕ). negations_at read.made (walk.lowest ∷ ps)) (c.deref.ensures.value ∙ c.in_ok-choose.ensures)
    ∙ ap (λ (t : Trailed). negations_at t.made (walk.lowest ∷ rest)) same in
    let ids = c.in_ok-ids.ensures
    ∙ ap (λ (ps : List ℕ). hints_of read.made ps c.args.conflict) c.deref-3.ensures.value
    ∙ ap (λ (t : Trailed). hints_of t.made sorted c.args.conflict) same in
    subst (IsLesson engine)
    (sym (lesson-as c.new.result c.in_ok-lits.lits.items (negations_at engine.trail.made (walk.lowest ∷ rest)) level c.in_ok-ids.ids.items (hints_of engine.trail.made sorted c.args.conflict) c.new.ensures lits ids))
    (lesson-of engine walk level sorted c.args.conflict c.trail-trail.ensures.kept (conflict-of engine c.args.conflict c.trail-trail.ensures.kept c.requires.conflict)
    c.requires.walking c.requires.needed c.put_in_order.ensures.permutation c.put_in_order.ensures.order
    (said-as (λ t ps. AreWithin t.made level ps) read engine.trail c.deref-2.result.now rest same rested c.highest-level.ensures.within)
    (subst (λ (t : Trailed). level < t.level) same c.highest-level.ensures.below)
    (said-as (λ t ps. IsReached t.made level ps) read engine.trail c.deref-2.result.now rest same rested c.highest-level.ensures.reached))
