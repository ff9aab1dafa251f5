use Rattle.std.proofs.Common.{length, map, ap, subst, sym, ◌∙◌}
use Rattle.std.specs.List.Sorted.{IsStrictlyIncreasing}
use Rattle.kn_logic.specs.Constraints.{klause}
use Rattle.kn_logic.specs.Groups.{IsGroup}
use Rattle.kn_extract.specs.Taking.{previous}
use Rattle.kn_extract.proofs.Worth.{taken-is, taken-from}
use Rattle.kn_extract.proofs.taking.take.Goals as goal

pub new-requires : goal.new-requires
new-requires c =
    let guess = c.args.guess in
    let border = c.in_ok-border.ensures.items ∙ c.border.ensures.value ∙ ap (λ g. g.border) c.group.ensures in
    taken-from guess.group c.into_parts-group.result.0 guess.ids c.in_ok-places.places.items c.args.bound c.in_ok-copy.copy c.args.elimination
    c.into_parts-group.ensures.group (c.in_ok-places.ensures ∙ ap (map previous) c.ids.ensures.value) (c.in_ok-copy.ensures ∙ c.new-klause.ensures ∙ ap (klause c.args.bound) border)
    (taken-is guess.group guess.ids c.args.bound c.args.elimination (subst IsGroup c.group.ensures c.border.ensures.group)
    (subst IsStrictlyIncreasing c.ids.ensures.value c.ids.ensures.ascending) c.requires.ids
    (sym (ap length c.ids.ensures.value) ∙ c.ids.ensures.each) c.requires.worth)
