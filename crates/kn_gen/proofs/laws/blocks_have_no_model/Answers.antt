use Rattle.kn_gen.proofs.Truth.{blocks-refuted, generated-refuted}
use Rattle.kn_gen.proofs.Fitting.{blocks-are-formula}
use Rattle.kn_gen.proofs.laws.blocks_have_no_model.Goals as goal

pub returns : goal.returns
returns c = record { formula = blocks-are-formula; blocks = blocks-refuted; clauses = λ n h. generated-refuted n h (blocks-are-formula n h) }
