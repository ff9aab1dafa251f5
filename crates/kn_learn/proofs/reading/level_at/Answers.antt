use Rattle.std.proofs.Common.{ap, ◌∙◌}
use Rattle.kn_logic.specs.Literals.{Literal}
use Rattle.kn_learn.proofs.Places.{level-read}
use Rattle.kn_learn.proofs.reading.level_at.Goals as goal

pub returns-clause-value : goal.returns-clause-value
returns-clause-value c = λ m at.
    level-read c.args.trail.now.made c.args.place m c.var.result _ c.level_of.result c.level_of.ensures.kept.different at
    (c.var.ensures.value ∙ ap (λ (l : Literal). l.variable) c.at.ensures) c.level_of.ensures.level c.unwrap_or.ensures
