use Rattle.std.proofs.Common.{ap, ◌∙◌, ◌++◌, ◌∷◌, [], ◌&&◌, nat_eq}
use Rattle.kn_justify.specs.Lemmas.{lemma_of}
use Rattle.kn_justify.proofs.LookupLemmas.{insert-last}
use Rattle.kn_justify.proofs.lemmas.Lemmas.insert.Goals as goal

pub returns-clause-ok : goal.returns-clause-ok
returns-clause-ok c =
    c.in_ok-insert.ensures.entries
    ∙ insert-last (λ k x. nat_eq k.0 x.0 && nat_eq k.1 x.1) (c.args.u, c.args.v) c.args.id c.self.inside.ids.entries (ap (λ es. lemma_of es c.args.u c.args.v) c.self.view_is ∙ c.requires)
    ∙ ap (λ es. es ++ ((c.args.u, c.args.v), c.args.id) ∷ []) c.self.view_is
