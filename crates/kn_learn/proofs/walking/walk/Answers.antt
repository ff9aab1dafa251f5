use Rattle.std.proofs.Common.{◌≡◌, ◌-◌, ℕ, List, [], length, true, ap, subst, arith}
use Rattle.kn_watch.specs.Trails.{Trailed}
use Rattle.kn_learn.specs.Reasons.{contains}
use Rattle.kn_learn.proofs.Coming.{walking-start, last-top}
use Rattle.kn_learn.proofs.walking.walk.Goals as goal

pub descend-requires-clause-walking : goal.descend-requires-clause-walking
descend-requires-clause-walking g c =
    let engine = c.args.engine.now in
    let last = length engine.trail.made - 1 in
    let same : length c.trail.result.now.made ≡ length engine.trail.made = ap (λ (t : Trailed). length t.made) c.trail.ensures.value in
    let (long, top) = last-top engine c.trail.ensures.kept c.requires.level in
    c.in_ok-see_reasons.ensures.walking last [] (walking-start engine.trail engine.live last c.args.a.now.walk c.requires.blank top)
    (omega (arith, long, c.len.ensures.value, same)) (λ q less k. subst (λ (ps : List ℕ). contains ps q ≡ true) c.requires.blank.explained k)
