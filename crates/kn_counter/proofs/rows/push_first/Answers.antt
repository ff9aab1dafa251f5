use Rattle.std.proofs.Common.{◌+◌, ◌-◌, ◌∙◌, ◌∷◌, [], sym, ap, subst, arith}
use Rattle.kn_logic.specs.Literals.{negated, AreKnown}
use Rattle.kn_logic.specs.Formulas.{Problem}
use Rattle.kn_counter.specs.Rows.{row_literal, with_clauses}
use Rattle.kn_counter.proofs.Adding.{map_step}
use Rattle.kn_counter.proofs.rows.push_first.Goals as goal

pub loop-j-preserved : goal.loop-j-preserved
loop-j-preserved c =
    let same = ap (λ (f : Problem). f.vars) c.in_ok-push_clause-2.ensures in
    let unit = c.negated-in-loop-j.ensures ∙ ap negated c.lit-in-loop-j.ensures in
    let added = c.in_ok-push_clause-2.ensures ∙ ap (λ l. with_clauses c.args.front.now c.loop-j.out ((l ∷ []) ∷ [])) unit in
    record {
      whole = map_step c.args.front.now (λ j. negated (row_literal c.args.own.start j) ∷ []) c.loop-j.out _ c.loop-j.j (c.args.own.k + 1 - c.loop-j.j) (c.args.own.k + 1 - (c.loop-j.j + 1)) (omega (arith, c.loop-j-test.true)) (omega arith) added ∙ c.loop-j.invariant.whole;
      front = subst (λ vars. AreKnown vars c.args.front.now) (sym same) c.loop-j.invariant.front;
      vars = same ∙ c.loop-j.invariant.vars;
    }
