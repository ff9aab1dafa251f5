use Rattle.std.proofs.Common.{[], ◌∷◌, ◌++◌, sym, ap, subst, ◌∙◌}
use Rattle.kn_logic.specs.Literals.{IsKnown}
use Rattle.kn_format.specs.Faults.{Reading}
use Rattle.kn_format.proofs.Begun.{keeps_added, not_seen, joined}
use Rattle.kn_format.proofs.reader.Reader.add_different.Goals as goal

-- the literal joins the list and its variable the set
pub invariant_of-self-2 : goal.invariant_of-self-2
invariant_of-self-2 c =
    let view = c.self.view_is in
    keeps_added _ _ _ _ _ _ c.args.lit _ _ _
    (ap (λ (r : Reading). r.place) view ∙ c.requires.place)
    c.self.invariant
    (subst (λ (r : Reading). IsKnown r.formula.vars c.args.lit) (sym view) c.requires.known)
    c.var.ensures.value
    (not_seen _ _ c.in_ok-insert.ensures.added c.if-not-branch.false)
    (c.in_ok-push.ensures.items ∙ ap (λ xs. xs ++ c.args.lit ∷ []) c.in_ok-reserve.ensures.items)
    (joined _ _ _ c.in_ok-insert.ensures.updates.0)
