use Rattle.std.proofs.Common.{true, false, sym, ap, ◌∙◌}
use Rattle.kn_rules.proofs.DemandLemmas.{is_true_cell, is_false_cell, not-true-cell, not-false-cell, add-true, add-false, add-negated, add-variable}
use Rattle.kn_rules.proofs.grid.add.Goals as goal

pub returns-then-not-is_positive : goal.returns-then-not-is_positive
returns-then-not-is_positive c definition =
    add-negated _ _ c.args.rest.now c.args.count _ c.in-Lit.lit c.in-Lit.is (sym c.is_positive.ensures ∙ c.if-not-is_positive.true)

pub returns-in-True-matches : goal.returns-in-True-matches
returns-in-True-matches c definition =
    add-true _ _ c.args.rest.now c.args.count _ c.grid_cell.result true c.in-True.is c.grid_cell.ensures (sym (ap is_true_cell c.in-True-matches.is))

pub returns-in_default : goal.returns-in_default
returns-in_default c definition =
    add-true _ _ c.args.rest.now c.args.count _ c.grid_cell.result false c.in-True.is c.grid_cell.ensures (not-true-cell _ c.in_default.not-True)

pub returns-in-False-matches : goal.returns-in-False-matches
returns-in-False-matches c definition =
    add-false _ _ c.args.rest.now c.args.count _ c.grid_cell-in-False.result true c.in-False.is c.grid_cell-in-False.ensures (sym (ap is_false_cell c.in-False-matches.is))

pub returns-in_default-matches : goal.returns-in_default-matches
returns-in_default-matches c definition =
    add-false _ _ c.args.rest.now c.args.count _ c.grid_cell-in-False.result false c.in-False.is c.grid_cell-in-False.ensures (not-false-cell _ c.in_default-matches.not-False)

pub returns-else-not-is_positive : goal.returns-else-not-is_positive
returns-else-not-is_positive c =
    add-variable _ _ c.args.rest.now c.args.count _ _ c.in-Lit.lit _ c.in-Lit.is (sym c.is_positive.ensures ∙ c.if-not-is_positive.false) c.var.ensures.value c.add.ensures.agrees c.add.ensures.added
