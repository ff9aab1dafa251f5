use Rattle.std.proofs.Common.{ap, ◌∙◌}
use Rattle.kn_logic.specs.Literals.{Literal}
use Rattle.kn_learn.proofs.Places.{reason-read}
use Rattle.kn_learn.proofs.reading.reason_at.Goals as goal

pub returns : goal.returns
returns c = λ m at.
    reason-read c.args.trail.now.made c.args.place m c.var.result c.reason_of.result c.reason_of.ensures.kept.different at
    (c.var.ensures.value ∙ ap (λ (l : Literal). l.variable) c.at.ensures) c.reason_of.ensures.reason
