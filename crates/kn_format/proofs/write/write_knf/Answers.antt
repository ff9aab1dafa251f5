use Rattle.kn_format.specs.declared.format.Format.TheVariants.{Knf}
use Rattle.kn_format.proofs.Again.{spelled_again}
use Rattle.kn_format.proofs.write.write_knf.Goals as goal

pub returns-clause-again : goal.returns-clause-again
returns-clause-again c = spelled_again (λ t. t.items) Knf c.args.f.now c.write_formula.result c.write_formula.ensures.text c.write_formula.ensures.formula (λ e. absurd cc)
