use Rattle.std.proofs.Common.{◌≡◌, ◌++◌, ap, ◌∙◌, List, ℕ}
use Rattle.std.specs.Prelude.{option_to_list}
use Rattle.kn_justify.proofs.UnitLemmas.{unit-settled, unit-by}
use Rattle.kn_justify.proofs.units.unit.Goals as goal

pub unit_by-requires-clause-hints : goal.unit_by-requires-clause-hints
unit_by-requires-clause-hints g c =
    unit-by c.args.log.now.state.given c.args.named.now c.args.m.now (option_to_list c.args.left) (option_to_list c.args.right) (option_to_list c.args.lemma) c.push_option-3.new.hints.items c.push_option.new.hints.items c.push_option-2.new.hints.items
    (unit-settled c.args.log.now.state.given c.args.named.now c.args.m.now.u c.args.left c.requires.left) (unit-settled c.args.log.now.state.given c.args.named.now c.args.m.now.v c.args.right c.requires.right) c.requires.lemma
    (c.in_ok-push_option.ensures ∙ ap (λ (xs : List ℕ). xs ++ option_to_list c.args.left) c.new-hints.ensures.items) c.in_ok-push_option-2.ensures c.in_ok-push_option-3.ensures
