use Rattle.std.proofs.Common.{◌≤◌, ◌∙◌, map, sym, ap, subst}
use Rattle.std.specs.List.{AllByRecursion}
use Rattle.std.proofs.lemmas.Result.{IfOk-weaker}
use Rattle.kn_logic.specs.Groups.{is_among}
use Rattle.kn_guess.specs.Sides.{sided}
use Rattle.kn_guess.proofs.Covered.{lits-ascend, lits-long, lits-same, end-variables, end-positives, counted-same}
use Rattle.kn_guess.proofs.covering.ascending_literals.Goals as goal

pub literals-requires : goal.literals-requires
literals-requires c =
    let group = c.args.group.now in
    let all = end-variables c.loop-lit.variables.items group c.loop-lit.lit-index c.loop-lit.invariant.variables c.loop-lit-test.false in
    subst (AllByRecursion (λ x. 1 ≤ x)) (sym c.deref.ensures.value) (counted-same group c.loop-lit.variables.items c.ascending.result.items c.requires.counted all c.ascending.ensures.same)

pub returns-clause-ascends : goal.returns-clause-ascends
returns-clause-ascends c =
    IfOk-weaker c.literals.result _ _ (λ lits is. lits-ascend c.loop-lit.positive c.ascending.result.items lits.items c.ascending.ensures.ascending (is ∙ ap (map (sided c.loop-lit.positive)) c.deref.ensures.value)) c.literals.ensures

pub returns-clause-same : goal.returns-clause-same
returns-clause-same c =
    let group = c.args.group.now in
    let all = end-variables c.loop-lit.variables.items group c.loop-lit.lit-index c.loop-lit.invariant.variables c.loop-lit-test.false in
    IfOk-weaker c.literals.result _ _ (λ lits is. lits-same group c.loop-lit.positive c.ascending.result.items lits.items c.requires.different
    (λ v. c.ascending.ensures.same v ∙ ap (λ z. is_among z v) all) (end-positives c.loop-lit.positive group c.loop-lit.lit-index c.loop-lit.invariant.positive c.loop-lit-test.false)
    (is ∙ ap (map (sided c.loop-lit.positive)) c.deref.ensures.value)) c.literals.ensures

pub returns-clause-long : goal.returns-clause-long
returns-clause-long c =
    let group = c.args.group.now in
    let all = end-variables c.loop-lit.variables.items group c.loop-lit.lit-index c.loop-lit.invariant.variables c.loop-lit-test.false in
    IfOk-weaker c.literals.result _ _ (λ lits is. lits-long group c.loop-lit.positive c.ascending.result.items lits.items c.requires.different
    (λ v. c.ascending.ensures.same v ∙ ap (λ z. is_among z v) all) (is ∙ ap (map (sided c.loop-lit.positive)) c.deref.ensures.value)) c.literals.ensures
