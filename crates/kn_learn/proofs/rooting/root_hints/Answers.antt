use Rattle.std.proofs.Common.{◌≡◌, ◌<◌, ◌≤◌, ◌-◌, [], ℕ, List, length, true, sym, ap, subst, ◌∙◌, arith}
use Rattle.std.specs.List.{AllByRecursion}
use Rattle.kn_watch.specs.Trails.{Trailed}
use Rattle.kn_learn.specs.Lessons.{Refutes}
use Rattle.kn_learn.specs.Reasons.{contains, hints_of}
use Rattle.kn_learn.specs.Analyses.{IsTop, IsWalking}
use Rattle.kn_learn.proofs.Lists.{all-permuted}
use Rattle.kn_learn.proofs.Coming.{walking-start}
use Rattle.kn_learn.proofs.Taught.{said-as, root-top, root-refutes, empty-refutes, rested-within, conflict-of}
use Rattle.kn_learn.proofs.rooting.root_hints.Goals as goal

pub descend-requires-clause-walking : goal.descend-requires-clause-walking
descend-requires-clause-walking g c =
    let engine = c.args.engine.now in
    let last = length engine.trail.made - 1 in
    let same : length c.trail.result.now.made ≡ length engine.trail.made = ap (λ (t : Trailed). length t.made) c.trail.ensures.value in
    let some : 1 ≤ length engine.trail.made = omega (arith, same, c.len-len.ensures.value, c.if-len-eq0.false) in
    let top = root-top engine c.trail.ensures.kept c.requires.level some in
    let blank = walking-start engine.trail engine.live (c.len-len.result - 1) c.clear.new.self.walk c.clear.ensures (subst (λ (n : ℕ). IsTop engine.trail (n - 1)) (sym (c.len-len.ensures.value ∙ same)) top) in
    c.in_ok-see_reasons.ensures.walking last [] (subst (λ (n : ℕ). IsWalking engine.trail engine.live (n - 1) [] c.clear.new.self.walk) (c.len-len.ensures.value ∙ same) blank)
    (omega (arith, some, c.len-len.ensures.value, same)) (λ q less k. subst (λ (ps : List ℕ). contains ps q ≡ true) c.clear.ensures.explained k)

pub returns-then-len-eq0 : goal.returns-then-len-eq0
returns-then-len-eq0 g c =
    let engine = c.args.engine.now in
    let same : length c.trail.result.now.made ≡ length engine.trail.made = ap (λ (t : Trailed). length t.made) c.trail.ensures.value in
    subst (λ (ids : List ℕ). Refutes engine.live [] ids) (sym c.in_ok-only.ensures)
    (empty-refutes engine c.args.conflict (conflict-of engine c.args.conflict c.trail.ensures.kept c.requires.conflict) (omega (arith, same, c.len-len.ensures.value, c.if-len-eq0.true)))

pub hints-requires-2 : goal.hints-requires-2
hints-requires-2 g c =
    let engine = c.args.engine.now in
    let walk = c.descend.new.a.walk in
    let sorted = c.put_in_order.new.places.items in
    said-as (λ t ps. AllByRecursion (λ p. p < length t.made) ps) engine.trail c.trail-2.result.now sorted c.deref.result.now (sym c.trail-2.ensures.value) (sym c.deref.ensures.value)
    (all-permuted (λ p. p < length engine.trail.made) walk.derived.items sorted c.put_in_order.ensures.permutation (rested-within engine.live engine.trail.made walk.marks walk.derived.items c.in_ok-descend.ensures.rooted.rested))

pub returns : goal.returns
returns g c =
    let engine = c.args.engine.now in
    let walk = c.descend.new.a.walk in
    let sorted = c.put_in_order.new.places.items in
    let same : length c.trail.result.now.made ≡ length engine.trail.made = ap (λ (t : Trailed). length t.made) c.trail.ensures.value in
    let len : c.len-len.result ≡ length engine.trail.made = c.len-len.ensures.value ∙ same in
    subst (λ (ids : List ℕ). Refutes engine.live [] ids)
    (sym (c.in_ok-ids.ensures
    ∙ ap (λ (ps : List ℕ). hints_of c.trail-2.result.now.made ps c.args.conflict) c.deref.ensures.value
    ∙ ap (λ (t : Trailed). hints_of t.made sorted c.args.conflict) c.trail-2.ensures.value))
    (root-refutes engine walk sorted c.args.conflict c.trail.ensures.kept (conflict-of engine c.args.conflict c.trail.ensures.kept c.requires.conflict) c.in_ok-descend.ensures.rooted
    (λ d lives q m less at on. c.in_ok-descend.ensures.stays q (c.in_ok-see_reasons.ensures.needed d lives q m (omega (arith, less, len)) at on))
    c.put_in_order.ensures.permutation c.put_in_order.ensures.order)
