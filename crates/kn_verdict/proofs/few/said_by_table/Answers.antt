use Rattle.std.proofs.Common.{◌≡◌, length, map, nat_le, ap, sym, subst, ◌∙◌, refl}
use Rattle.std.specs.Prelude.{count_by}
use Rattle.std.specs.List.{range_with_len}
use Rattle.kn_tables.specs.Indices.{has_bit}
use Rattle.kn_tables.specs.Tables.{AreBelow, IsTable, is_true_at}
use Rattle.kn_verdict.specs.Numbered.{variables_of, numbered}
use Rattle.kn_verdict.proofs.Indices.{below-among}
use Rattle.kn_verdict.proofs.Tabled.{border-among, count_table, cardinal-by_table, differs-by_table}
use Rattle.kn_verdict.proofs.few.said_by_table.Goals as goal

pub at_least-count-requires-clause-below : goal.at_least-count-requires-clause-below
at_least-count-requires-clause-below c =
    let g = c.args.group.now in
    let xs = variables_of g in
    let lits : c.deref-3.result.now ≡ map (numbered xs) g.border =
    c.deref-3.ensures.value ∙ c.in_ok-lits.ensures ∙ (λ i. map (numbered ((c.deref-2.ensures.value ∙ c.in_ok-variables.ensures) i)) (c.border.ensures.value i)) in
    subst (λ n. AreBelow n c.deref-3.result.now) (sym (c.len.ensures ∙ sym c.deref.ensures.len ∙ ap length (c.deref.ensures.value ∙ c.in_ok-variables.ensures)))
    (subst (AreBelow (length xs)) (sym lits) (below-among xs g.border (border-among g)))

pub returns-in-None : goal.returns-in-None
returns-in-None c =
    let g = c.args.group.now in
    let xs = variables_of g in
    let bound = c.only_bound-bound.result in
    let u = c.at_least-count.result in
    let lits : c.deref-3.result.now ≡ map (numbered xs) g.border =
    c.deref-3.ensures.value ∙ c.in_ok-lits.ensures ∙ (λ i. map (numbered ((c.deref-2.ensures.value ∙ c.in_ok-variables.ensures) i)) (c.border.ensures.value i)) in
    let made : IsTable (length xs) (count_table g bound) u =
    subst (λ n. IsTable n (count_table g bound) u) (c.len.ensures ∙ sym c.deref.ensures.len ∙ ap length (c.deref.ensures.value ∙ c.in_ok-variables.ensures))
    (subst (λ ls. IsTable c.len.result (λ i. nat_le bound (count_by (is_true_at i) ls)) u) lits c.at_least-count.ensures) in
    cardinal-by_table g bound c.in_ok-table.table u c.in_ok-table.ensures made (c.in-None.ensures.none.0 refl) c.only_bound-bound.ensures.within

pub returns : goal.returns
returns c =
    let g = c.args.group.now in
    let xs = variables_of g in
    let bound = c.only_bound-bound.result in
    let u = c.at_least-count.result in
    let i = c.in-Some.index in
    let lits : c.deref-3.result.now ≡ map (numbered xs) g.border =
    c.deref-3.ensures.value ∙ c.in_ok-lits.ensures ∙ (λ i. map (numbered ((c.deref-2.ensures.value ∙ c.in_ok-variables.ensures) i)) (c.border.ensures.value i)) in
    let made : IsTable (length xs) (count_table g bound) u =
    subst (λ n. IsTable n (count_table g bound) u) (c.len.ensures ∙ sym c.deref.ensures.len ∙ ap length (c.deref.ensures.value ∙ c.in_ok-variables.ensures))
    (subst (λ ls. IsTable c.len.result (λ i. nat_le bound (count_by (is_true_at i) ls)) u) lits c.at_least-count.ensures) in (
      c.only_bound-bound.ensures,
      differs-by_table g bound i c.in_ok-table.table u c.in_ok-values_at-in-Some.field-0 c.border.ensures.group c.in_ok-table.ensures made c.in-Some.ensures.some
          (c.in_ok-values_at-in-Some.ensures ∙ ap (λ n. map (has_bit i) (range_with_len 0 n)) (ap length c.border-in-Some.ensures.value)),
    )
