use Rattle.std.proofs.Common.{ap, sym, ◌∙◌}
use Rattle.kn_verdict.specs.Numbers.{found}
use Rattle.kn_verdict.proofs.Borders.{found-lookup}
use Rattle.kn_verdict.proofs.measures.Measures.get.Goals as goal

pub returns : goal.returns
returns c =
    c.copied.ensures ∙ c.get.ensures.value ∙ sym (found-lookup c.args.node c.self.inside.numbers.entries)
    ∙ ap (λ es. found es c.args.node) c.self.view_is
