use Rattle.std.proofs.Common.{◌==◌, inr, slice_index, refl, sym, subst, ◌∙◌, arith}
use Rattle.std.proofs.lemmas.Bool.{eq-eqb}
use Rattle.std.proofs.lemmas.List.Folds.{list_any_at}
use Rattle.kn_guess.specs.Deep.{IsOneOf}
use Rattle.kn_guess.proofs.deep.most.Goals as goal
use Rattle.kn_guess.proofs.deep.most.Goals.{then-many-most, else-many-most}

pub loop-id-preserved : goal.loop-id-preserved
loop-id-preserved c =
    let ids = c.args.ids.now in
    let at = c.loop-id.id-index in
    let id = slice_index ids at in
    elim c.if-many-most.branch [
      | then-many-most w ↦ inr (id, list_any_at (λ v. v == id) ids at 0 (omega (arith, c.loop-id-test.true)) (eq-eqb id id refl), w.most-is ∙ c.number_of-many.ensures)
      | else-many-most w ↦ subst (IsOneOf c.args.best.now ids) (sym w.most-is) c.loop-id.invariant
    ]
