use Rattle.std.proofs.Common.{ap, ◌∙◌, [], ◌∷◌, ◌++◌}
use Rattle.kn_verdict.specs.Numbers.{found}
use Rattle.kn_verdict.proofs.Borders.{insert-found}
use Rattle.kn_verdict.proofs.measures.Measures.insert.Goals as goal

pub returns-clause-ok : goal.returns-clause-ok
returns-clause-ok c =
    c.in_ok-insert.ensures.entries
    ∙ insert-found c.args.node c.args.numbers c.self.inside.numbers.entries (ap (λ es. found es c.args.node) c.self.view_is ∙ c.requires)
    ∙ ap (λ es. es ++ (c.args.node, c.args.numbers) ∷ []) c.self.view_is
