use Rattle.std.proofs.Common.{◌≡◌, ℕ, List, [], true, refl, sym, ap, subst, ◌∙◌, arith}
use Rattle.kn_learn.specs.Reasons.{contains}
use Rattle.kn_learn.specs.Marking.{mark_at, is_seen}
use Rattle.kn_learn.proofs.Lists.{contains-last}
use Rattle.kn_learn.proofs.Coming.{walking-past, walking-derived, rested-by, not-assumed_at_root, unseen-derived}
use Rattle.kn_learn.proofs.rooting.derive.Goals as goal

pub returns-then-not-is_seen-clause-walking : goal.returns-then-not-is_seen-clause-walking
returns-then-not-is_seen-clause-walking g c =
    let engine = c.args.engine.now in
    walking-past engine.trail engine.live c.args.place [] c.args.a.now.walk (ap is_seen (sym c.at.ensures) ∙ sym c.is_seen.ensures ∙ c.if-not-is_seen.true) c.requires.walking

pub returns-then-not-is_seen-clause-here : goal.returns-then-not-is_seen-clause-here
returns-then-not-is_seen-clause-here g c = λ h.
    let walk = c.args.a.now.walk in
    unseen-derived walk c.args.place c.args.place (mark_at walk.marks c.args.place) (ap is_seen (sym c.at.ensures) ∙ sym c.is_seen.ensures ∙ c.if-not-is_seen.true) h (c.requires.walking.found c.args.place)

pub unreachable-requires : goal.unreachable-requires
unreachable-requires g c =
    not-assumed_at_root c.args.engine.now c.trail.result.now c.args.place c.reason_at.result c.trail.ensures.kept c.trail.ensures.value c.requires.level c.requires.place c.reason_at.ensures c.in_default.not-Some

pub returns-clause-walking : goal.returns-clause-walking
returns-clause-walking g c =
    let engine = c.args.engine.now in
    let walk = c.see_reasons.new.a.walk in
    let walking = c.in_ok-see_reasons.ensures.walking c.args.place [] c.requires.walking (omega arith) (λ q less k. subst (λ (ps : List ℕ). contains ps q ≡ true) c.requires.none k) in
    walking-derived engine.trail engine.live c.args.place [] walk _ refl refl c.in_ok-push.ensures.items refl refl
    (rested-by engine.trail c.trail.result.now engine.live walk.marks c.args.place c.in-Some.id c.reason_at.result c.trail.ensures.value c.requires.place c.reason_at.ensures c.in-Some.is c.in_ok-see_reasons.ensures.needed) walking

pub returns-clause-none : goal.returns-clause-none
returns-clause-none g c = c.in_ok-see_reasons.ensures.grows.explained ∙ c.requires.none

pub returns-clause-stays : goal.returns-clause-stays
returns-clause-stays g c = c.in_ok-see_reasons.ensures.grows.stays

pub returns-clause-here : goal.returns-clause-here
returns-clause-here g c = λ h. subst (λ (ps : List ℕ). contains ps c.args.place ≡ true) (sym c.in_ok-push.ensures.items) (contains-last c.see_reasons.new.a.walk.derived.items c.args.place)
