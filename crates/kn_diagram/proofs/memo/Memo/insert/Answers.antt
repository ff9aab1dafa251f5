use Rattle.std.proofs.Common.{◌∙◌, ap, map, [], ◌∷◌, ◌++◌}
use Rattle.kn_diagram.specs.Traces.{found, met_of}
use Rattle.kn_diagram.proofs.MemoLemmas.{insert-found}
use Rattle.kn_diagram.proofs.memo.Memo.insert.Goals as goal

pub returns-clause-ok : goal.returns-clause-ok
returns-clause-ok c =
    ap (map met_of) c.in_ok-insert.ensures.entries
    ∙ insert-found c.number.result c.number-2.result c.number-3.result c.self.inside.results.entries
    ((λ i. found (c.self.view_is i) (c.number.ensures i) (c.number-2.ensures i)) ∙ c.requires)
    ∙ (λ i. c.self.view_is i ++ record { u = c.number.ensures i; v = c.number-2.ensures i; w = c.number-3.ensures i } ∷ [])
