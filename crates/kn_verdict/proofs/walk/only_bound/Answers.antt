use Rattle.std.proofs.Common.{◌≡◌, ◌≤◌, ◌⊎◌, inl, inr, length, sym, subst, ap, ◌∙◌, arith}
use Rattle.std.proofs.lemmas.Bool.{cases_eq, true≢false}
use Rattle.kn_verdict.specs.Cardinals.{CanStart}
use Rattle.kn_verdict.proofs.Borders.{border-different}
use Rattle.kn_verdict.proofs.Values.{first-exist}
use Rattle.kn_verdict.proofs.walk.only_bound.Goals as goal

pub returns-then-starts_at : goal.returns-then-starts_at
returns-then-starts_at c =
    let g = c.args.group.now in
    let first = c.loop-first.first in
    let low : first ≤ length g.border = omega (arith, c.loop-first-test.true, ap length c.border-n.ensures.value) in
    record {
      within = omega (arith, low);
      met = λ _. (let (v, e) = first-exist g.border first (border-different g c.border-n.ensures.group) low in
          (v, e, (c.requires.meaning v).0 (sym (c.starts_at.ensures v e) ∙ c.if-starts_at.true)));
      least = c.loop-first.invariant;
    }

pub loop-first-preserved : goal.loop-first-preserved
loop-first-preserved c first less can = by (cases_eq first c.loop-first.first)
  where
    own : CanStart c.args.group.now c.loop-first.first → ⊥
    own (v, e, h) = true≢false (sym ((c.requires.meaning v).1 h) ∙ sym (c.starts_at.ensures v e) ∙ c.if-starts_at.false)

    by : ((first ≡ c.loop-first.first) ⊎ (first ≡ c.loop-first.first → ⊥)) → ⊥
    by (inl e) = own (subst (CanStart c.args.group.now) e can)
    by (inr ne) = c.loop-first.invariant first (omega (arith, less, ne)) can

pub returns : goal.returns
returns c = record {
  within = omega (arith, ap length c.border-n.ensures.value);
  met = λ h. absurd (omega (arith, h, ap length c.border-n.ensures.value));
  least = λ first less. c.loop-first.invariant first (omega (arith, less, c.loop-first-test.false));
}
