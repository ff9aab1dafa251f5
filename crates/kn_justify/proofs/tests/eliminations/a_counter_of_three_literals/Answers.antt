use Rattle.std.proofs.Common.{◌≡◌, ◌∷◌, [], refl, sym, ◌∙◌, subst}
use Rattle.kn_logic.specs.Formulas.{Problem}
use Rattle.kn_logic.specs.Groups.{Gathered}
use Rattle.kn_rules.specs.States.{start}
use Rattle.kn_justify.specs.Taken.{AreTaken, CountsBorder, IsGroupWithin}
use Rattle.kn_justify.proofs.PairTestLemmas.{tested-distinct}
use Rattle.kn_justify.proofs.CountTestLemmas.{problem, at_most_one, counts, within, taken}
use Rattle.kn_justify.proofs.tests.eliminations.a_counter_of_three_literals.Goals as goal

pub justified-requires-clause-counts : goal.justified-requires-clause-counts
justified-requires-clause-counts g c =
    let is : c.in_ok-group.group ≡ at_most_one = c.in_ok-group.ensures ∙ (rw (c.in_ok-f.ensures, c.new.ensures, c.new-2.ensures, c.new-3.ensures) refl) in
    subst (λ (x : Gathered). CountsBorder x 2) (sym is) counts

pub justified-requires-clause-known : goal.justified-requires-clause-known
justified-requires-clause-known g c =
    let is : c.in_ok-group.group ≡ at_most_one = c.in_ok-group.ensures ∙ (rw (c.in_ok-f.ensures, c.new.ensures, c.new-2.ensures, c.new-3.ensures) refl) in
    subst (λ (f : Problem). IsGroupWithin f.vars c.in_ok-group.group) (sym c.in_ok-f.ensures) (subst (λ (x : Gathered). IsGroupWithin 5 x) (sym is) within)

pub justified-requires-clause-live : goal.justified-requires-clause-live
justified-requires-clause-live g c =
    let is : c.in_ok-group.group ≡ at_most_one = c.in_ok-group.ensures ∙ (rw (c.in_ok-f.ensures, c.new.ensures, c.new-2.ensures, c.new-3.ensures) refl) in
    subst (λ (f : Problem). AreTaken (start f).given (1 ∷ 2 ∷ 3 ∷ 4 ∷ 5 ∷ []) c.in_ok-group.group.taken) (sym c.in_ok-f.ensures)
    (subst (λ (x : Gathered). AreTaken (start problem).given (1 ∷ 2 ∷ 3 ∷ 4 ∷ 5 ∷ []) x.taken) (sym is) taken)

pub justified-requires-clause-different : goal.justified-requires-clause-different
justified-requires-clause-different g c = tested-distinct (1 ∷ 2 ∷ 3 ∷ 4 ∷ 5 ∷ []) refl
