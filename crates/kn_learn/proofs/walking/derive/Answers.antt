use Rattle.std.proofs.Common.{◌≡◌, inl, inr, ℕ, List, [], true, refl, sym, ap, subst, ◌∙◌, arith}
use Rattle.kn_learn.specs.Reasons.{contains}
use Rattle.kn_learn.specs.Marking.{is_seen}
use Rattle.kn_learn.proofs.Coming.{walking-past, walking-derived, rested-by, not-assumed}
use Rattle.kn_learn.proofs.walking.derive.Goals as goal

pub returns-then-not-is_seen-clause-walking : goal.returns-then-not-is_seen-clause-walking
returns-then-not-is_seen-clause-walking g c =
    let engine = c.args.engine.now in
    walking-past engine.trail engine.live c.args.place [] c.args.a.now.walk (ap is_seen (sym c.at.ensures) ∙ sym c.is_seen.ensures ∙ c.if-not-is_seen.true) c.requires.walking

pub unreachable-requires : goal.unreachable-requires
unreachable-requires g c =
    not-assumed c.args.engine.now c.trail.result.now c.args.a.now.walk.lowest c.args.place c.reason_at.result c.trail.ensures.kept c.trail.ensures.value c.requires.walking.low c.requires.above c.requires.place c.reason_at.ensures c.in_default.not-Some

pub returns-clause-walking : goal.returns-clause-walking
returns-clause-walking g c =
    let engine = c.args.engine.now in
    let walk = c.see_reasons.new.a.walk in
    let walking = c.in_ok-see_reasons.ensures.walking c.args.place [] c.requires.walking (omega arith) (λ q less k. subst (λ (ps : List ℕ). contains ps q ≡ true) c.requires.none k) in
    walking-derived engine.trail engine.live c.args.place [] walk _ refl refl c.in_ok-push.ensures.items refl refl
    (rested-by engine.trail c.trail.result.now engine.live walk.marks c.args.place c.in-Some.id c.reason_at.result c.trail.ensures.value c.requires.place c.reason_at.ensures c.in-Some.is c.in_ok-see_reasons.ensures.needed) walking

pub returns-clause-none : goal.returns-clause-none
returns-clause-none g c = c.in_ok-see_reasons.ensures.grows.explained ∙ c.requires.none

pub returns-clause-stays : goal.returns-clause-stays
returns-clause-stays g c = c.in_ok-see_reasons.ensures.grows.stays

pub returns-clause-above : goal.returns-clause-above
returns-clause-above g c =
    let above = c.requires.above in
    elim c.in_ok-see_reasons.ensures.grows.lowest [ inl e ↦ omega (arith, e, above) | inr e ↦ e ]
