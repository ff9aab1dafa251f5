use Rattle.std.proofs.Common.{ap, ◌∙◌, ◌++◌, ◌∷◌, [], nat_eq}
use Rattle.kn_justify.specs.Taken.{unit_of}
use Rattle.kn_justify.proofs.LookupLemmas.{insert-last}
use Rattle.kn_justify.proofs.noted.Units.insert.Goals as goal

pub returns-clause-ok : goal.returns-clause-ok
returns-clause-ok c =
    c.in_ok-insert.ensures.entries
    ∙ insert-last nat_eq c.args.node c.args.id c.self.inside.ids.entries (ap (λ es. unit_of es c.args.node) c.self.view_is ∙ c.requires)
    ∙ ap (λ es. es ++ (c.args.node, c.args.id) ∷ []) c.self.view_is
