use Rattle.std.proofs.Common.{◌∙◌, [], ◌∷◌}
use Rattle.kn_verdict.proofs.Drawn.{many-group}
use Rattle.kn_verdict.proofs.tests.group_of_many.Goals as goal

pub new-requires-4 : goal.new-requires-4
new-requires-4 c =
    many-group c.in_ok-aux.aux.items c.args.taken.items c.in_ok-border.border.items c.in_ok-aux.ensures.items
    (c.in_ok-border.ensures.items ∙ (λ i. c.new.ensures i ∷ c.new-2.ensures i ∷ c.new-3.ensures i ∷ [])) c.requires.clauses c.requires.covered
