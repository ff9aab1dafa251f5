use Rattle.std.proofs.Common.{◌∙◌, ◌+◌, ◌≤◌, ◌++◌, sym, ap, subst, drop, get_or, append_assoc}
use Rattle.std.specs.List.{AllByRecursion}
use Rattle.std.proofs.lemmas.List.{drop_more}
use Rattle.kn_store.specs.Stores.{ids_of, naming}
use Rattle.kn_guess.specs.Seen.{ids_with}
use Rattle.kn_guess.proofs.taking.ids_with.Goals as goal

pub loop-var-preserved : goal.loop-var-preserved
loop-var-preserved c =
    let s = c.args.store.now in
    let vars = c.args.variables.now in
    let at = c.loop-var.var-index in
    let cut = drop_more vars at 0 c.loop-var-test.true in
    record {
      rest = ap (λ z. z ++ ids_with s.live (drop (at + 1) vars)) (c.in_ok-extend_from_slice.ensures.items ∙ ap (λ w. c.loop-var.ids.items ++ w) c.with_variable.ensures)
          ∙ append_assoc c.loop-var.ids.items (ids_of (naming (get_or vars at 0) s.live)) (ids_with s.live (drop (at + 1) vars))
          ∙ ap (λ z. c.loop-var.ids.items ++ ids_with s.live z) (sym cut) ∙ c.loop-var.invariant.rest;
      known = (subst (AllByRecursion (λ x. (1 ≤ x) × (x ≤ s.vars))) cut c.loop-var.invariant.known).1;
    }
