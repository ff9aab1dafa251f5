use Rattle.std.proofs.Common.{◌≡◌, ◌∷◌, [], ap, ◌∙◌}
use Rattle.kn_logic.specs.Constraints.{klause}
use Rattle.kn_log.specs.Logs.{Logged}
use Rattle.kn_log.proofs.Twice.{grid_is_made, can_unfold, is_unfolded, can_add_first, first_is_added, can_add_second, second_is_added, can_refute}
use Rattle.kn_log.proofs.tests.refute_twice.Goals as goal

pub unfold-requires-clause-steps : goal.unfold-requires-clause-steps
unfold-requires-clause-steps c =
    let grid = grid_is_made _ _ _ _ _ _ _ _ _ _ _ _ _ _ (ap (λ (log : Logged). log.state) c.requires) c.new.ensures c.in_ok-define.ensures.logs.0 c.new-2.ensures c.arm.ensures c.in_ok-define-2.ensures.logs.0 c.new-3.ensures c.arm-2.ensures c.in_ok-define-3.ensures.logs.0 c.new-4.ensures c.arm-3.ensures c.arm-4.ensures c.in_ok-root.ensures.logs.0 c.in_ok-root.ensures.variable in
    can_unfold _ _ grid.0 grid.1

pub lemma-requires-clause-steps : goal.lemma-requires-clause-steps
lemma-requires-clause-steps c =
    let grid = grid_is_made _ _ _ _ _ _ _ _ _ _ _ _ _ _ (ap (λ (log : Logged). log.state) c.requires) c.new.ensures c.in_ok-define.ensures.logs.0 c.new-2.ensures c.arm.ensures c.in_ok-define-2.ensures.logs.0 c.new-3.ensures c.arm-2.ensures c.in_ok-define-3.ensures.logs.0 c.new-4.ensures c.arm-3.ensures c.arm-4.ensures c.in_ok-root.ensures.logs.0 c.in_ok-root.ensures.variable in
    let unfolded = is_unfolded _ _ _ grid.0 grid.1 c.in_ok-unfold.ensures.logs.0 in
    can_add_first _ _ _ unfolded c.in_ok-unit.ensures c.in_ok-ids.ensures

pub lemma-requires-2-clause-steps : goal.lemma-requires-2-clause-steps
lemma-requires-2-clause-steps c =
    let grid = grid_is_made _ _ _ _ _ _ _ _ _ _ _ _ _ _ (ap (λ (log : Logged). log.state) c.requires) c.new.ensures c.in_ok-define.ensures.logs.0 c.new-2.ensures c.arm.ensures c.in_ok-define-2.ensures.logs.0 c.new-3.ensures c.arm-2.ensures c.in_ok-define-3.ensures.logs.0 c.new-4.ensures c.arm-3.ensures c.arm-4.ensures c.in_ok-root.ensures.logs.0 c.in_ok-root.ensures.variable in
    let unfolded = is_unfolded _ _ _ grid.0 grid.1 c.in_ok-unfold.ensures.logs.0 in
    let first = first_is_added _ _ _ _ _ unfolded c.in_ok-unit.ensures c.in_ok-ids.ensures c.in_ok-one.ensures.logs.0 c.in_ok-one.ensures.id in
    can_add_second _ _ _ first.0 c.in_ok-unit-2.ensures c.in_ok-ids-2.ensures

pub lemma-requires-3-clause-steps : goal.lemma-requires-3-clause-steps
lemma-requires-3-clause-steps c =
    let grid = grid_is_made _ _ _ _ _ _ _ _ _ _ _ _ _ _ (ap (λ (log : Logged). log.state) c.requires) c.new.ensures c.in_ok-define.ensures.logs.0 c.new-2.ensures c.arm.ensures c.in_ok-define-2.ensures.logs.0 c.new-3.ensures c.arm-2.ensures c.in_ok-define-3.ensures.logs.0 c.new-4.ensures c.arm-3.ensures c.arm-4.ensures c.in_ok-root.ensures.logs.0 c.in_ok-root.ensures.variable in
    let unfolded = is_unfolded _ _ _ grid.0 grid.1 c.in_ok-unfold.ensures.logs.0 in
    let first = first_is_added _ _ _ _ _ unfolded c.in_ok-unit.ensures c.in_ok-ids.ensures c.in_ok-one.ensures.logs.0 c.in_ok-one.ensures.id in
    let second = second_is_added _ _ _ _ _ first.0 c.in_ok-unit-2.ensures c.in_ok-ids-2.ensures c.in_ok-two.ensures.logs.0 c.in_ok-two.ensures.id in
    let empty : c.new-empty.result ≡ klause 1 [] = c.new-empty.ensures ∙ ap (klause 1) c.new-5.ensures.items in
    let hints : c.in_ok-ids-3.field-0 ≡ 20 ∷ 21 ∷ 2 ∷ [] = rw (first.1, second.1) at c.in_ok-ids-3.ensures in
    can_refute _ _ _ second.0 empty hints
