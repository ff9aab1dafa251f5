use Rattle.std.proofs.Common.{◌≡◌, ◌≤◌, ◌<◌, ◌^◌, ◌⊎◌, inl, inr, length, ap, sym, subst, ◌∙◌, arith}
use Rattle.std.proofs.lemmas.Bool.{cases_eq, true≢false}
use Rattle.kn_tables.specs.Tables.{value_at}
use Rattle.kn_verdict.specs.Cardinals.{CanStart}
use Rattle.kn_verdict.specs.Numbered.{index_of, first_values}
use Rattle.kn_verdict.proofs.Tabled.{first-within, starts}
use Rattle.kn_verdict.proofs.few.only_bound.Goals as goal

pub at-requires : goal.at-requires
at-requires c =
    let g = c.args.group.now in
    let first = c.loop-first.first in
    let same : index_of (first_values g.border first) ≡ c.first_index.result = sym (c.first_index.ensures ∙ ap (λ lits. index_of (first_values lits first)) c.border.ensures.value) in
    subst (λ i. i < 2 ^ c.args.table.now.vars) same (subst (λ n. index_of (first_values g.border first) < 2 ^ n) (sym c.requires.table.vars) (first-within g first))

pub returns-then-at : goal.returns-then-at
returns-then-at c =
    let g = c.args.group.now in
    let first = c.loop-first.first in
    let low : first ≤ length g.border = omega (arith, c.loop-first-test.true, ap length c.border-n.ensures.value) in
    let same = c.first_index.ensures ∙ ap (λ lits. index_of (first_values lits first)) c.border.ensures.value in
    record {
      within = omega (arith, low);
      met = λ _. (starts g c.args.table.now first c.border-n.ensures.group c.requires.table low).0 (ap (value_at c.args.table.now) (sym same) ∙ sym c.at.ensures ∙ c.if-at.true);
      least = c.loop-first.invariant;
    }

pub loop-first-preserved : goal.loop-first-preserved
loop-first-preserved c first less can = by (cases_eq first c.loop-first.first)
  where
    own : CanStart c.args.group.now c.loop-first.first → ⊥
    own start =
        let g = c.args.group.now in
        let k = c.loop-first.first in
        let low : k ≤ length g.border = omega (arith, c.loop-first-test.true, ap length c.border-n.ensures.value) in
        let same = c.first_index.ensures ∙ ap (λ lits. index_of (first_values lits k)) c.border.ensures.value in
        true≢false (sym ((starts g c.args.table.now k c.border-n.ensures.group c.requires.table low).1 start) ∙ ap (value_at c.args.table.now) (sym same) ∙ sym c.at.ensures ∙ c.if-at.false)

    by : ((first ≡ c.loop-first.first) ⊎ (first ≡ c.loop-first.first → ⊥)) → ⊥
    by (inl e) = own (subst (CanStart c.args.group.now) e can)
    by (inr ne) = c.loop-first.invariant first (omega (arith, less, ne)) can

pub returns : goal.returns
returns c = record {
  within = omega (arith, ap length c.border-n.ensures.value);
  met = λ h. absurd (omega (arith, h, ap length c.border-n.ensures.value));
  least = λ first less. c.loop-first.invariant first (omega (arith, less, c.loop-first-test.false));
}
